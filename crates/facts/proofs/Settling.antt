-- Why an event that rises in round n means that no timetable keeps the facts over n events: where one does, n − 1 rounds settle all of them.
-- An event is unsettled after k rounds if a timetable that keeps the facts has it further before closing than they do. No walk and no cycle: where a round settles no event and some are unsettled, the timetable can have each of these one minute nearer to closing. Assumes nothing.
use Prim.Native.Nat.{ℕ, zero, suc, ◌+◌, ◌-◌, ◌≤◌, ◌<◌}
use mathlib.Core.Path.{◌≡◌}
use mathlib.Core.Bool.{Bool, true}
use mathlib.Core.List.{List}
use mathlib.Core.Logic.{◌⊎◌, inl, inr, ⊎_elim}
use native.Mathlib.Omega.{arith, by_contra}
use native.Mathlib.Decide.{dec_lt}
use native.Mathlib.Nat.{le_refl}
use lib.Dec.{T, ltb, ltb→lt, lt→ltb}
use lib.ListN.{length}
use Rattle.meaning.proofs.Settling.{tally, total, tally-zero, tally-most, progress, lower, Lower, less, same, lowered, total-lower}
use Rattle.problem.specs.Arcs.{bias, at, Net, head, tail, bound}
use Rattle.facts.specs.Tests.{Within}
use Rattle.facts.specs.Rounds.{Holds, Under, rows}
use Rattle.facts.proofs.Rounding.{rows_under, rows_grow, rows-cover, none-rose}

-- A fact from y to x stays kept when each of the two is lowered by one where it is above vy, vx.
-- Only where x is lowered and y is not could it break. Then y is at most vy, and vx is already all that the fact asks of x; x is above vx, so that one less is still enough.
lower-keeps : (vx vy x y c : ℕ) → y + bias ≤ x + c → (y ≤ vy → y + bias ≤ vx + c) → lower vy y + bias ≤ lower vx x + c
lower-keeps vx vy x y c h k = go (lowered vx x) (lowered vy y)
  where
    go : {r s : ℕ} → Lower vx x r → Lower vy y s → s + bias ≤ r + c
    go (same i) (same j) = h
    go (same i) (less j) = omega arith
    go (less i) (less j) = omega arith
    go (less i) (same j) = omega (arith, k j)

module _ (g : Net) (L : List ℕ) (n : ℕ) (b : Within g L n) (some : 1 ≤ n) (z : List ℕ) (long : n ≤ length z) (u : Under g L z) where
  -- the time of an event after k rounds
  abbrev time : ℕ → ℕ → ℕ
  time k e = at (rows g L z k) e

  -- the events of fact i
  abbrev from : ℕ → ℕ
  from i = tail g (at L i)

  abbrev to : ℕ → ℕ
  to i = head g (at L i)

  unsettled : ℕ → (ℕ → ℕ) → ℕ → Bool
  unsettled k σ e = ltb (time k e) (σ e)

  -- a timetable that keeps the facts, with fewer minutes in all
  Smaller : (ℕ → ℕ) → Type 0
  Smaller σ = (τ : ℕ → ℕ) × Holds g L τ × (total τ n < total σ n)

  -- All unsettled events can be lowered by one, if each fact from a settled event has already raised the other to what it asks: `lower-keeps`.
  -- The minutes in all fall by as many as there are such events, so that there is a smaller timetable or all n are settled.
  lower-unsettled : (k : ℕ) (σ : ℕ → ℕ) → Holds g L σ → ((i : ℕ) → i < length L → σ (from i) ≤ time k (from i) → σ (from i) + bias ≤ time k (to i) + bound g (at L i)) → Smaller σ ⊎ (tally (unsettled k σ) n ≡ 0)
  unfolding unsettled Smaller
  lower-unsettled k σ h f = go (dec_lt 0 (tally (unsettled k σ) n))
    where
      go : Dec (0 < tally (unsettled k σ) n) → Smaller σ ⊎ (tally (unsettled k σ) n ≡ 0)
      go (no d) = inr (omega arith)
      go (yes d) =
          inl (
            (λ e. lower (time k e) (σ e)),
            record { each = λ i l. lower-keeps (time k (to i)) (time k (from i)) (σ (to i)) (σ (from i)) (bound g (at L i)) (h.each i l) (f i l) },
            omega (arith, total-lower (time k) σ n),
          )

  -- At the start some event is settled, or all n can be lowered: no fact is then from a settled event, as each has both its events among the n.
  start : (σ : ℕ → ℕ) → Holds g L σ → Smaller σ ⊎ (tally (unsettled 0 σ) n ≤ n - 1)
  unfolding unsettled
  start σ h = go (progress (λ _. true) (unsettled 0 σ) (λ _ _. tt) n)
    where
      go : (tally (unsettled 0 σ) n < tally (λ _. true) n) ⊎ ((e : ℕ) → e < n → T true → T (unsettled 0 σ e)) → Smaller σ ⊎ (tally (unsettled 0 σ) n ≤ n - 1)
      go (inl p) = inr (omega (arith, tally-most (λ _. true) n))
      go (inr p) = ⊎_elim inl (λ e. inr (omega arith)) (lower-unsettled 0 σ h (λ i l q. absurd (above i l q)))
        where
          above : (i : ℕ) → i < length L → σ (from i) ≤ time 0 (from i) → ⊥
          above i l q = omega (arith, ltb→lt (time 0 (from i)) (σ (from i)) (p (from i) (b.known.each i l).in_tail tt))

  -- A round settles an event, or those that were unsettled before it still are, and then they can be lowered, if there are any.
  -- For an event that is settled after the round was so before it, and the round has raised the other event of each fact from it to what the fact asks: `rows-cover`.
  step : (k m : ℕ) (σ : ℕ → ℕ) → Holds g L σ → tally (unsettled k σ) n ≤ suc m → Smaller σ ⊎ (tally (unsettled (suc k) σ) n ≤ m)
  unfolding unsettled
  step k m σ h t = go (progress (unsettled k σ) (unsettled (suc k) σ) before n)
    where
      before : (e : ℕ) → T (unsettled (suc k) σ e) → T (unsettled k σ e)
      before e y = lt→ltb (time k e) (σ e) (omega (arith, ltb→lt (time (suc k) e) (σ e) y, rows_grow g L n b z long k e))

      go : (tally (unsettled (suc k) σ) n < tally (unsettled k σ) n) ⊎ ((e : ℕ) → e < n → T (unsettled k σ e) → T (unsettled (suc k) σ e)) → Smaller σ ⊎ (tally (unsettled (suc k) σ) n ≤ m)
      go (inl p) = inr (omega arith)
      go (inr p) = ⊎_elim inl (λ e. inr (omega arith)) (lower-unsettled (suc k) σ h (λ i l q. omega (arith, rows-cover g L n b z long k i l, settled i l q)))
        where
          settled : (i : ℕ) → i < length L → σ (from i) ≤ time (suc k) (from i) → σ (from i) ≤ time k (from i)
          settled i l q = by_contra _ _ (λ o. omega (arith, ltb→lt (time (suc k) (from i)) (σ (from i)) (p (from i) (b.known.each i l).in_tail (lt→ltb (time k (from i)) (σ (from i)) o))))

  -- so each round leaves one unsettled event less
  after : (k : ℕ) (σ : ℕ → ℕ) → Holds g L σ → Smaller σ ⊎ (tally (unsettled k σ) n ≤ n - 1 - k)
  after zero σ h = ⊎_elim inl (λ t. inr (omega arith)) (start σ h)
  after (suc k) σ h = ⊎_elim inl (λ t. step k (n - 1 - suc k) σ h (omega arith)) (after k σ h)

  -- By induction on a number above the minutes of σ in all: a smaller timetable serves as well as σ, and where `after` gives none, n − 1 rounds have settled all n events.
  -- Their times are then no less than those of σ, and no round leads above σ: `rows_under`. So round n raises none of them.
  none-rises : (N : ℕ) (σ : ℕ → ℕ) → total σ n < N → Holds g L σ → (v : ℕ) → v < n → time (suc (n - 1)) v ≤ time (n - 1) v
  unfolding unsettled Smaller
  none-rises zero σ t h v l = absurd (omega arith)
  none-rises (suc N) σ t h v l = ⊎_elim (λ q. none-rises N q.0 (fewer q.2 t) q.1 v l) here (after (n - 1) σ h)
    where
      fewer : {a b : ℕ} → a < b → b < suc N → a < N
      fewer p q = omega arith

      here : tally (unsettled (n - 1) σ) n ≤ n - 1 - (n - 1) → time (suc (n - 1)) v ≤ time (n - 1) v
      here e =
          let settled : σ v ≤ time (n - 1) v = by_contra _ _ (λ o. tally-zero (unsettled (n - 1) σ) n (omega arith) v l (lt→ltb (time (n - 1) v) (σ v) o)) in
          omega (arith, (rows_under g L n b z long u (suc (n - 1))).under σ h v)

  -- where a timetable keeps the facts, round n changes no time
  pub sound-still : (σ : ℕ → ℕ) → Holds g L σ → rows g L z (suc (n - 1)) ≡ rows g L z (n - 1)
  sound-still σ h = none-rose g L n b z long (n - 1) (none-rises (suc (total σ n)) σ (le_refl _) h)
