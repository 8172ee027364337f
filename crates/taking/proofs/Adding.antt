-- One fact more: a number tells whether it fits, and the lowered table is the day with it. Assumes nothing.
use mathlib.Core.Path.{◌≡◌, refl, sym, ap, ap₂, ◌∙◌, subst}
use mathlib.Core.Bool.{true}
use mathlib.Core.Logic.{⊎_elim}
use mathlib.Core.List.Memᴰ
use mathlib.Core.List.{List, ◌∷◌, ◌++◌}
use Prim.Native.Nat.{ℕ, ◌+◌, ◌*◌, ◌<◌, ◌≤◌}
use lib.Dec.{T, leb}
use lib.IntN.{nat_abs, sub_ℕ}
use Rattle.laws.proofs.Tests.{is_true}
use Rattle.meaning.specs.Limits.{most_events}
use Rattle.meaning.specs.Problem.{Alternative}
use Rattle.meaning.specs.Decision.{sound}
use Rattle.meaning.proofs.Settling.{In}
use Rattle.problem.specs.Arcs.{bias}
use Rattle.distances.specs.Distances.{far, DayOf}
use Rattle.distances.specs.Adding.{closes, fits, added}
use Rattle.distances.specs.Numbers.{Stands}
use Rattle.distances.proofs.Updating.{added-day}
use Rattle.distances.proofs.Timetables.{fits-sound, day-sound as timetable-sound}
use Rattle.distances.proofs.Walking.{satisfies-member, members-satisfied}
use Rattle.meaning.proofs.Deciding.{sound-decides}
use Rattle.distances.proofs.Meaning.{same-day, bounded-more, number-bounded}
use Rattle.taking.specs.Spans.{spans}
use Rattle.taking.specs.Tables.{level, turn, entry, distances_in, IsDay, WithFact}
use Rattle.taking.proofs.Spans.{sound-spanned, spanned-near}
use Rattle.taking.proofs.Numbers.{near_of, fits-number, lowering}

-- a fact is as sound with the facts of a day as with these and the spans
pub with-spans : (w : ℕ) → w ≤ most_events → (fs : List Alternative) (t : List (List ℕ)) → IsDay w fs t → (a : Alternative) → In w a → nat_abs a.c ≤ bias → sound (a ∷ (fs ++ spans w)) ≡ sound (a ∷ fs)
with-spans w few fs t h a inside bounded =
    sound-spanned w (a ∷ fs) few
    (λ c j. ⊎_elim (λ q. subst (In w) (sym q) inside) (λ q. h.day.within c (Memᴰ.append_left (spans w) q)) (Memᴰ.cases_cons j))
    (bounded-more a bounded fs h.bounded)

module _ (w : ℕ) (few : w ≤ most_events) (fs : List Alternative) (t : List (List ℕ)) (h : IsDay w fs t) (x y b : ℕ) (a : Alternative) (stands : Stands x y b a) (l : x < w) (m : y < w) (small : b < 2 * bias) where
  inside : In w a
  inside = (subst (λ (i : ℕ). i < w) (sym stands.first) l, subst (λ (i : ℕ). i < w) (sym stands.second) m)

  bounded : nat_abs a.c ≤ bias
  bounded = number-bounded x y b a stands small

  spanned : sound (a ∷ (fs ++ spans w)) ≡ sound (a ∷ fs)
  spanned = with-spans w few fs t h a inside bounded

  fits-is : leb turn (entry t x y + b) ≡ fits a (distances_in t)
  fits-is = fits-number (entry t x y) b ∙ ap₂ closes (ap₂ (λ (i j : ℕ). distances_in t i j) (sym stands.first) (sym stands.second)) (sym stands.bound)

  -- the one number that is looked at says whether the fact has a timetable with the others
  pub fits-means : leb turn (entry t x y + b) ≡ sound (a ∷ fs)
  fits-means = fits-is ∙ fits-sound w (fs ++ spans w) (distances_in t) h.day a inside ∙ spanned

  -- the lowered table is the day with the fact, where that fits: its numbers stand for the lowered distances, and these are near again
  pub with-fact : (s : List (List ℕ)) → WithFact w t s x y b → sound (a ∷ fs) ≡ true → IsDay w (a ∷ fs) s
  with-fact s each e = record { day = new; near = λ u v i j. near_of (entry s u v) (spanned-near w (a ∷ fs) (distances_in s) new u v i j (sub_ℕ (entry s u v) level) refl); bounded = bounded-more a bounded fs h.bounded }
    where
      same : (u v : ℕ) → u < w → v < w → distances_in s u v ≡ added a (distances_in t) u v
      same u v i j = unfold added in
          rw (stands.first, stands.second, stands.bound)
          (ap (λ (e : ℕ). far (sub_ℕ e level)) (each u v i j)
          ∙ lowering (entry t u v) (entry t u y) (entry t x v) b (h.near u y i m) (h.near x v l j))

      new : DayOf w (a ∷ (fs ++ spans w)) (distances_in s)
      new =
          same-day w (a ∷ (fs ++ spans w)) (added a (distances_in t)) (distances_in s) same
          (added-day w (fs ++ spans w) (distances_in t) h.day a inside (subst T (sym (fits-sound w (fs ++ spans w) (distances_in t) h.day a inside ∙ spanned ∙ e)) tt))

-- the facts of a day are sound
pub day-sound : (w : ℕ) (fs : List Alternative) (t : List (List ℕ)) → IsDay w fs t → sound fs ≡ true
day-sound w fs t h =
    let (times, kept) = timetable-sound w (fs ++ spans w) (distances_in t) h.day in
    is_true (sound fs) (sound-decides.whole fs times (members-satisfied times fs (λ a m. satisfies-member times (fs ++ spans w) a kept (Memᴰ.append_left (spans w) m))))
