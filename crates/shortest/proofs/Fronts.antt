-- A turn of the search for the first row from an event: the front so far, as bytes, is led on by the smallest number. Assumes nothing.
use mathlib.Core.Path.{◌≡◌, refl, subst}
use mathlib.Core.List.{List, [], ◌∷◌, ◌++◌}
use Prim.Native.Nat.{ℕ, suc, ◌+◌, ◌-◌, ◌≤◌, ◌<◌}
use native.Mathlib.Omega.{arith}
use lib.ListN.{length, get_or, set, replicate, length-append}
use Rattle.std.proofs.Common.{Option, Some, IsSome}
use Rattle.meaning.specs.Limits.{most_events, row_bytes, blank_byte}
use Rattle.meaning.specs.Listing.{padded}
use Rattle.problem.specs.Arcs.{Net, head, bound, bias, Arc}
use Rattle.facts.specs.Tests.{Within}
use Rattle.facts.specs.Rounds.{rows}
use Rattle.shortest.specs.Paths.{From}
use Rattle.shortest.specs.Heights.{turned, highest, peak, start, Lifts}
use Rattle.shortest.specs.Leading.{Picks, RowFrom}
use Rattle.shortest.proofs.Bytes.{padded-none, padded-more}
use Rattle.shortest.proofs.Reaching.{height-bounded}
use Rattle.shortest.proofs.Targets.{closes-fewest}
use Rattle.shortest.proofs.Greedy.{Led, led-start, led-end, led-more, some-picked, picked}

-- the front after i turns, and its row
pub record Front (g : Net) (L : List ℕ) (t size : ℕ) (out : List ℕ) (u need i : ℕ) : Type 0 where
  pub list : List ℕ
  pub led : Led g L t size list u need
  pub long : length list ≡ i
  pub bytes : out ≡ padded row_bytes list

module _ (g : Net) (L : List ℕ) (tab : List (List ℕ)) (t size : ℕ) (w : Within g L most_events) (w' : Within (turned g) L most_events) (b : t < most_events) (most : size ≤ most_events) (c : Lifts g L t size tab) where
  fewest : (m : List ℕ) → From g L t m → size ≤ length m
  fewest = closes-fewest g L t size tab w' b c

  pub front-start : (need : ℕ) → need ≡ highest → Front g L t size (replicate row_bytes blank_byte) t need 0
  front-start need e =
      rw e
      (record {
        list = [];
        led = led-start g L w' t b size most fewest c.above;
        long = refl;
        bytes = padded-none row_bytes;
      })

  module _ (out : List ℕ) (u need i : ℕ) (f : Front g L t size out u need i) where
    pub front-small : need ≤ peak
    front-small = omega (arith, f.led.open-end, height-bounded g L w' t b (size - length f.list) u)

    pub front-end : size ≤ i → RowFrom g L t size out
    front-end h =
        let e : length f.list ≡ size = omega (arith, f.long, f.led.most) in
        record { list = f.list; first = led-end g L w' t b size most fewest f.list u need f.led e; long = e; bytes = f.bytes }

    -- the smallest number by the heights that are left to the arcs after it
    module _ (left : ℕ) (h : i < size) (e : left ≡ size - i - 1) where
      after : size - length f.list ≡ suc left
      after = omega (arith, f.long)

      p' : (pick : Option ℕ) → Picks g L (get_or tab left []) u need pick → Picks g L (rows (turned g) L (start t) left) u need pick
      p' pick = subst (λ (s : List ℕ). Picks g L s u need pick) (c.rounds.row left (omega arith))

      pub front-some : (pick : Option ℕ) → Picks g L (get_or tab left []) u need pick → IsSome pick
      front-some pick p = some-picked g L w' t b size most fewest f.list u need f.led left after pick (p' pick p)

      module _ (j : ℕ) (p : Picks g L (get_or tab left []) u need (Some j)) where
        pub front-arc : Arc g most_events j
        front-arc =
            let d = (picked g L w' t b size most fewest f.list u need f.led left after j (p' (Some j) p)).fact in
            subst (Arc g most_events) d.same (w.known.each d.place d.below)

        -- as the code has it: the number as an index, and the event that it leads to
        pub front-more : (k x : ℕ) → k ≡ j → x ≡ head g k → Front g L t size (set out i j) x (need + bound g k - bias) (i + 1)
        front-more k x a d =
            rw (d, a)
            (record {
              list = f.list ++ (j ∷ []);
              led = led-more g L w' t b size most fewest f.list u need f.led left after j (p' (Some j) p);
              long = omega (arith, f.long, length-append f.list (j ∷ []));
              bytes = rw (f.bytes, ← f.long) (padded-more row_bytes f.list j (omega (arith, f.long)));
            })
