-- The rounds to a target, up to the first after which it stands above its start: how many facts a closed row from it has at the least, and that one has as many. Assumes nothing.
use mathlib.Core.Path.{◌≡◌, refl}
use mathlib.Core.Logic.{inl, inr}
use mathlib.Core.List.{List, []}
use Prim.Native.Nat.{ℕ, ◌+◌, ◌≤◌, ◌<◌}
use native.Mathlib.Omega.{arith}
use native.Mathlib.Decide.{dec_lt}
use lib.ListN.{length, get_or}
use Rattle.std.proofs.Common.{None}
use Rattle.meaning.specs.Limits.{most_events}
use Rattle.problem.specs.Arcs.{Net, at}
use Rattle.facts.specs.Tests.{Within}
use Rattle.facts.specs.Rounds.{ceiling, Rounds}
use Rattle.shortest.specs.Paths.{From, Sized}
use Rattle.shortest.specs.Heights.{turned, highest, peak, start, height, Lifts, Closes}
use Rattle.shortest.proofs.Reaching.{Reached, height-bounded, target-height, none-higher, some-as-high}

-- ---- a turn of the rounds' loop
module _ (g : Net) (L : List ℕ) (t : ℕ) (tab : List (List ℕ)) (r : ℕ) (h : Rounds (turned g) L (start t) r tab) where
  -- each of the rounds starts at or below their ceiling: the target's start and a bias for each round before it
  pub row_under : Within (turned g) L most_events → t < most_events → r < most_events → (v : ℕ) → at (get_or tab r []) v ≤ ceiling
  row_under w b l v = rw (h.row r (omega arith)) (omega (arith, height-bounded g L w t b r v))

-- before the first round the target stands at its start
pub start-below : (g : Net) (L : List ℕ) (t : ℕ) → t < most_events → (k : ℕ) → k < 0 + 1 → height g L t k t ≤ highest
start-below g L t b k l = let e : k ≡ 0 = omega arith in rw e (omega (arith, target-height g L t b))

-- ---- what the rounds tell
-- a closed row of fewer facts would lift the target above its start by then
fewest_below : (g : Net) (L : List ℕ) (t r : ℕ) → Within (turned g) L most_events → t < most_events → ((k : ℕ) → k < r → height g L t k t ≤ highest) → (m : List ℕ) → From g L t m → r ≤ length m
fewest_below g L t r w b h m f = go (dec_lt (length m) r)
  where
    go : Dec (length m < r) → r ≤ length m
    go (yes l) = absurd (omega (arith, h (length m) l, none-higher g L w t b m (length m) t f.path (omega arith), f.negative))
    go (no l) = omega (arith, l)

module _ (g : Net) (L : List ℕ) (t r : ℕ) (tab : List (List ℕ)) (w : Within (turned g) L most_events) (b : t < most_events) (c : Lifts g L t r tab) where
  pub closes-fewest : (m : List ℕ) → From g L t m → r ≤ length m
  closes-fewest = fewest_below g L t r w b c.below

  -- what stands higher than any other start leads to comes from a row, and that is closed; so one has as many facts
  pub closes-some : r ≤ most_events → Sized g L t r
  closes-some m = go (some-as-high g L w t b r t)
    where
      go : Reached g L t r t → Sized g L t r
      go (inl low) = absurd (omega (arith, c.above))
      go (inr (l, p, h, e)) =
          let f : From g L t l = record { path = p; negative = omega (arith, c.above) } in
          record { list = l; closed = f; long = omega (arith, closes-fewest l f) }

  -- no row of the table passes the peak
  pub closes-small : r ≤ most_events → (k : ℕ) → k ≤ r → (v : ℕ) → at (get_or tab k []) v ≤ peak
  closes-small m k h v = rw (c.rounds.row k h) (omega (arith, height-bounded g L w t b k v))

-- where none of `most` rounds lifts the target, each closed row has more facts
pub closes-none : (g : Net) (L : List ℕ) (t most : ℕ) (tab : List (List ℕ)) → Within (turned g) L most_events → t < most_events → Closes g L t most None tab → (m : List ℕ) → From g L t m → most < length m
closes-none g L t most tab w b c m f = omega (arith, fewest_below g L t (most + 1) w b (λ k h. c.none refl k (omega arith)) m f)
