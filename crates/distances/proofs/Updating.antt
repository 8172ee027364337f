-- One fact more: the table so lowered is the day of the facts with it, exactly where some timetable satisfies them all. Assumes nothing.
use mathlib.Core.Path.{◌≡◌, refl, sym, ◌∙◌, subst}
use mathlib.Core.Logic.{◌⊎◌, inl, inr, ⊎_elim}
use mathlib.Core.List.Memᴰ
use mathlib.Core.List.{List, ◌∷◌, Memᴰ}
use Prim.Native.Nat.{ℕ, ◌<◌}
use native.Mathlib.Omega.{arith}
use lib.Dec.{T}
use lib.IntN.{ℤ, pos, ◌+ℤ◌}
use lib.Signed.{◌≤ℤ◌, ≤ℤ_refl}
use Rattle.meaning.specs.Problem.{Alternative, Timetable, Satisfies}
use Rattle.distances.specs.Distances.{Walk, stay, onward, Distance, none, far, AtMost, IsDistance, Table, DayOf}
use Rattle.distances.specs.Adding.{no_longer, and_then, over, added, closes, fits}
use Rattle.laws.proofs.Integers.{add-law, le-to, le_of}
use Rattle.distances.proofs.Distances.{at-most-more, at-most-far, far-at-most, shorter-first, shorter-second, shorter-is, shorter-either, over-at-most, over-far, over-parts}
use Rattle.distances.proofs.Walking.{over-more, joined, satisfied-sum, walk_kept}

module _ (n : ℕ) (fs : List Alternative) (d : Table) (day : DayOf n fs d) where
  -- an event is at most 0 from itself
  pub itself : (u : ℕ) → u < n → AtMost (d u u) (pos 0)
  itself u l = (day.each u u l l).least (pos 0) stay

  -- distances keep the facts
  pub step : (u : ℕ) (b : Alternative) {s : ℤ} → u < n → Memᴰ b fs → AtMost (d u b.y) s → AtMost (d u b.x) (s +ℤ b.c)
  step u b {s} l m h =
      let (z, e, k) = at-most-far h in
      let w : Walk fs u b.y z = (day.each u b.y l (day.within b m).1).walked z e in
      at-most-more ((day.each u b.x l (day.within b m).0).least (z +ℤ b.c) (onward b w m))
      (le_of (z +ℤ b.c) (s +ℤ b.c) (omega (arith, le-to z s k, add-law z b.c, add-law s b.c)))

  module _ (a : Alternative) (inside : (a.x < n) × (a.y < n)) where
    -- a timetable of all the facts: the way back and the new fact are no cycle below 0
    pub fits_whole : (t : Timetable) → Satisfies t (a ∷ fs) → T (fits a d)
    fits_whole t h = go (d a.x a.y) (day.each a.x a.y inside.0 inside.1)
      where
        go : (e : Distance) → IsDistance fs a.x a.y e → T (closes e a.c)
        go none k = unfold no_longer and_then in tt
        go (far z) k =
            unfold no_longer and_then in
            (le_of (pos 0) (z +ℤ a.c)
            (omega (arith, add-law z a.c, satisfied-sum t a h.0, walk_kept t fs h.1 (k.walked z refl)))
            ).le

    module _ (fit : T (fits a d)) where
      -- the new fact shortens no way to its own start: the way over it is the old one, and then the fact and the way back, which together do not lie below 0
      back : (u : ℕ) {s : ℤ} → AtMost (added a d u a.y) s → AtMost (d u a.y) s
      unfolding added no_longer and_then
      back u {s} h =
          ⊎_elim (λ g. g)
          (λ g.
          let (p, q, e, f, k) = over-parts (d u a.y) a.c (d a.x a.y) g in
          let z : pos 0 ≤ℤ (q +ℤ a.c) = record { le = subst (λ (x : Distance). T (closes x a.c)) f fit } in
          far-at-most e (le_of p s (omega (arith, le-to (p +ℤ a.c +ℤ q) s k, le-to (pos 0) (q +ℤ a.c) z, add-law p a.c, add-law (p +ℤ a.c) q, add-law q a.c))))
          (shorter-either (d u a.y) (over (d u a.y) a.c (d a.x a.y)) h)

      -- one fact further, the new one or an old one
      further : (u : ℕ) (b : Alternative) {s : ℤ} → u < n → (b ≡ a) ⊎ Memᴰ b fs → AtMost (added a d u b.y) s → AtMost (added a d u b.x) (s +ℤ b.c)
      further u b {s} l (inl e) h = subst (λ (b : Alternative). AtMost (added a d u b.y) s → AtMost (added a d u b.x) (s +ℤ b.c)) (sym e) new h
        where
          new : AtMost (added a d u a.y) s → AtMost (added a d u a.x) (s +ℤ a.c)
          new h =
              unfold added in
              shorter-second (d u a.x) (over (d u a.y) a.c (d a.x a.x))
              (at-most-more (over-at-most (d u a.y) a.c (d a.x a.x) (back u h) (itself a.x inside.0))
              (le_of (s +ℤ a.c +ℤ pos 0) (s +ℤ a.c) (omega (arith, add-law (s +ℤ a.c) (pos 0)))))
      further u b {s} l (inr m) h =
          unfold added in
          ⊎_elim (λ g. shorter-first (d u b.x) (over (d u a.y) a.c (d a.x b.x)) (step u b l m g))
          (λ g.
          let (p, q, e, f, k) = over-parts (d u a.y) a.c (d a.x b.y) g in
          shorter-second (d u b.x) (over (d u a.y) a.c (d a.x b.x))
          (at-most-more (over-at-most (d u a.y) a.c (d a.x b.x) (far-at-most e (≤ℤ_refl p)) (step a.x b inside.0 m (far-at-most f (≤ℤ_refl q))))
          (le_of (p +ℤ a.c +ℤ (q +ℤ b.c)) (s +ℤ b.c)
          (omega (arith, le-to (p +ℤ a.c +ℤ q) s k, add-law (p +ℤ a.c) q, add-law (p +ℤ a.c) (q +ℤ b.c), add-law q b.c, add-law s b.c)))))
          (shorter-either (d u b.y) (over (d u a.y) a.c (d a.x b.y)) h)

      -- No walk over all the facts is shorter, by induction over the walk, at its last fact. An old fact goes on from the old distance or from the way over the new fact, since old
      -- distances keep old facts (`step`). The new fact itself goes on from the old distance (`back`), once over it. How often a walk takes the new fact need not be said.
      none-shorter : {u v : ℕ} {s : ℤ} → u < n → Walk (a ∷ fs) u v s → AtMost (added a d u v) s
      unfolding added
      none-shorter {u} l stay = shorter-first (d u u) _ (itself u l)
      none-shorter {u} l (onward b w m) = further u b l (Memᴰ.cases_cons m) (none-shorter l w)

    -- the new distances are walked: by old facts, or over the new one
    way : (u v : ℕ) → u < n → v < n → (z : ℤ) → added a d u v ≡ far z → Walk (a ∷ fs) u v z
    unfolding added
    way u v l m z h = ⊎_elim
        (λ e. over-more old ((day.each u v l m).walked z (sym e ∙ h)))
        (λ e.
        let (p, q, f, g, k) = over-far (d u a.y) a.c (d a.x v) (sym e ∙ h) in
        subst (λ (s : ℤ). Walk (a ∷ fs) u v s) (sym k)
        (joined (onward a (over-more old ((day.each u a.y l inside.1).walked p f)) (Memᴰ.head refl))
        (over-more old ((day.each a.x v inside.0 m).walked q g))))
        (shorter-is (d u v) (over (d u a.y) a.c (d a.x v)))
      where
        old : (b : Alternative) → Memᴰ b fs → Memᴰ b (a ∷ fs)
        old b m = Memᴰ.tail m

    -- the table so lowered is the day of the facts with the new one: each new distance is walked, by old facts or over the new one, and no walk is shorter
    pub added-day : T (fits a d) → DayOf n (a ∷ fs) (added a d)
    added-day fit =
        record {
          within = λ b m. ⊎_elim (λ e. subst (λ (b : Alternative). (b.x < n) × (b.y < n)) (sym e) inside) (λ k. day.within b k) (Memᴰ.cases_cons m);
          each = λ u v l m. record { walked = way u v l m; least = λ s w. none-shorter fit l w };
        }
