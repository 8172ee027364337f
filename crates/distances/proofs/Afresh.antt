-- Worked out afresh: a sound list of facts has a day, and one only; adding a fact twice is adding it once. Assumes nothing.
use mathlib.Core.Path.{◌≡◌, refl, sym, ◌∙◌, subst}
use mathlib.Core.Logic.{⊎_elim, by_cases}
use mathlib.Core.List.Memᴰ
use mathlib.Core.List.{List, [], ◌∷◌, Memᴰ}
use Prim.Native.Nat.{ℕ, ◌<◌}
use native.Mathlib.Decide.{ℕ_discrete}
use lib.Dec.{T}
use lib.IntN.{ℤ, pos}
use lib.Signed.{≤ℤ_refl}
use borrow.Author.Tests.{eq-eqb, ne_eqb}
use Rattle.meaning.specs.Problem.{Alternative, Sound}
use Rattle.meaning.proofs.Order.{Among}
use Rattle.distances.specs.Distances.{Walk, stay, onward, none, far, AtMost, most, Table, DayOf}
use Rattle.distances.specs.Adding.{fits, added, fresh, afresh}
use Rattle.distances.proofs.Distances.{not-far, far-one}
use Rattle.distances.proofs.Walking.{satisfies-member, one-day}
use Rattle.distances.proofs.Updating.{fits_whole, added-day}
use Rattle.distances.proofs.Timetables.{day-sound}

-- ---- no facts
pub fresh-same : (u v : ℕ) → u ≡ v → fresh u v ≡ far (pos 0)
unfolding fresh
fresh-same u v e = rw (eq-eqb u v e)

pub fresh-other : (u v : ℕ) → (u ≡ v → ⊥) → fresh u v ≡ none
unfolding fresh
fresh-other u v e = rw (ne_eqb u v e)

pub fresh-day : (n : ℕ) → DayOf n [] fresh
fresh-day n = record { within = λ a m. absurd (Memᴰ.not-nil m); each = λ u v l m. record { walked = walked u v; least = λ s w. least w } }
  where
    walked : (u v : ℕ) (z : ℤ) → fresh u v ≡ far z → Walk [] u v z
    walked u v z h =
        by_cases (ℕ_discrete u v)
        (λ e. subst (λ (r : ℤ). Walk [] u v r) (far-one (sym (fresh-same u v e) ∙ h)) (subst (λ (w : ℕ). Walk [] u w (pos 0)) e stay))
        (λ e. absurd (not-far (sym (fresh-other u v e) ∙ h)))

    least : {u v : ℕ} {s : ℤ} → Walk [] u v s → AtMost (fresh u v) s
    least {u} stay = rw (fresh-same u u refl) (most (≤ℤ_refl (pos 0)))
    least (onward a w m) = absurd (Memᴰ.not-nil m)

-- ---- the facts one by one
-- a sound list of facts has a day: each fact fits the day of those before it, since a timetable of all is one of these
pub afresh-day : (n : ℕ) (fs : List Alternative) → ((a : Alternative) → Memᴰ a fs → (a.x < n) × (a.y < n)) → Sound fs → DayOf n fs (afresh fs)
unfolding afresh
afresh-day n [] inside y = fresh-day n
afresh-day n (a ∷ fs) inside (t, h) =
    let day = afresh-day n fs (λ b m. inside b (Memᴰ.tail m)) (t, h.1) in
    let i = inside a (Memᴰ.head refl) in
    added-day n fs (afresh fs) day a i (fits_whole n fs (afresh fs) day a i t h)

-- any day of the facts is the one worked out afresh
pub as-afresh : (n : ℕ) (fs : List Alternative) (d : Table) → DayOf n fs d → (u v : ℕ) → u < n → v < n → d u v ≡ afresh fs u v
as-afresh n fs d day =
    one-day n fs fs d (afresh fs) (λ a m. m) (λ a m. m) day (afresh-day n fs day.within (day-sound n fs d day))

module _ (n : ℕ) (fs : List Alternative) (d : Table) (day : DayOf n fs d) (a : Alternative) (m : Memᴰ a fs) where
  again-among : Among (a ∷ fs) fs
  again-among b k = ⊎_elim (λ e. subst (λ (c : Alternative). Memᴰ c fs) (sym e) m) (λ h. h) (Memᴰ.cases_cons k)

  -- a fact that is there already fits
  pub again-fits : T (fits a d)
  again-fits =
      let (t, h) = day-sound n fs d day in
      fits_whole n fs d day a (day.within a m) t (satisfies-member t fs a h m, h)

  -- and changes nothing
  pub twice-is-once : (u v : ℕ) → u < n → v < n → added a d u v ≡ d u v
  twice-is-once =
      one-day n (a ∷ fs) fs (added a d) d again-among (λ b k. Memᴰ.tail k)
      (added-day n fs d day a (day.within a m) again-fits) day
