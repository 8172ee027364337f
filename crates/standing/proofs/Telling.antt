-- A standing day is told by its size and its table; and the day that is made of a table in range has that table. Assumes nothing.
use mathlib.Core.Path.{◌≡◌, refl, sym, ap, ap₂, ◌∙◌, subst}
use mathlib.Core.Bool.{Bool, true, false, cond}
use mathlib.Core.Logic.{⊎_elim}
use mathlib.Core.List.{List}
use Prim.Native.Nat.{ℕ, ◌+◌, ◌*◌, ◌/◌, ◌%◌, ◌<◌, ◌≤◌}
use native.Mathlib.Nat.{div-add-mod'}
use native.Mathlib.Omega.{arith}
use lib.Arith.{digits_div, digits_mod}
use lib.Dec.{T, eqb, leb→le}
use lib.IntN.{ℤ, pos, negsuc}
use lib.ListN.{length, get_or}
use borrow.Author.Tests.{ne_eqb, eqb-true}
use Rattle.meaning.specs.Limits.{most_events}
use Rattle.meaning.specs.Problem.{Alternative}
use Rattle.meaning.specs.Screen.{is_size}
use Rattle.distances.specs.Distances.{Distance, none, far, Table, DayOf}
use Rattle.distances.proofs.Meaning.{same-day}
use Rattle.standing.specs.declared.Day.{Day}
use Rattle.standing.specs.Entries.{no_entry, said, entry_of, table_of, among, day_with}
use Rattle.standing.specs.Standing.{in_range, is_none}
use Rattle.standing.specs.Following.{Follows}
use Rattle.standing.proofs.Listed.{length-list, at-list, list-is}
use Rattle.standing.proofs.Passing.{Passes, passed}
use Rattle.standing.proofs.Tabling.{row_below, column-below, place-below}
use Rattle.standing.proofs.Making.{among_in, among-out, inside-or, none-distance}
use Rattle.standing.proofs.Owning.{day-passes}

-- ---- entries and distances
-- an entry is told by its distance
said-back : (z : ℤ) → entry_of (said z) ≡ z
unfolding said entry_of
said-back (pos k) = go (eqb k 2147483647) refl
  where
    go : (b : Bool) → eqb k 2147483647 ≡ b → entry_of (cond b none (far (pos k))) ≡ pos k
    go true e = ap pos (sym (eqb-true k 2147483647 e))
    go false e = refl
said-back (negsuc k) = refl

-- a distance in range is told by its entry
entry-said : (d : Distance) → T (in_range d) → said (entry_of d) ≡ d
unfolding said entry_of in_range
entry-said none h = refl
entry-said (far (pos k)) h = rw (ne_eqb k 2147483647 (λ q. under (leb→le k _ h) q)) refl
  where
    under : k ≤ 2300023 → k ≡ 2147483647 → ⊥
    under l q = omega arith
entry-said (far (negsuc k)) h = refl

-- ---- a day by its table
-- a day that passes is told by its size and its distances
module _ (d : Day) (long : length d.entries ≡ most_events * most_events) (p : Passes d.n (table_of d)) where
  pub day-by : (t : Table) → ((u v : ℕ) → u < d.n → v < d.n → table_of d u v ≡ t u v) → d ≡ day_with d.n t
  unfolding day_with
  day-by t same = ap (λ (l : List ℤ). record { n = d.n; entries = l }) (list-is (most_events * most_events) _ no_entry d.entries long entry)
    where
      at_pair : (u v : ℕ) → u < most_events → v < most_events → get_or d.entries (u * most_events + v) no_entry ≡ entry_of (among d.n t u v)
      at_pair u v l m =
          sym (said-back (get_or d.entries (u * most_events + v) no_entry))
          ∙ ap entry_of (⊎_elim (λ (i : (u < d.n) × (v < d.n)). same u v i.0 i.1 ∙ sym (among_in d.n t u v i.0 i.1)) (λ o. none-distance (table_of d u v) (p.past u v l m o) ∙ sym (among-out d.n t u v o)) (inside-or d.n u v))

      entry : (k : ℕ) → k < most_events * most_events → get_or d.entries k no_entry ≡ entry_of (among d.n t (k / most_events) (k % most_events))
      entry k l = subst (λ (j : ℕ). get_or d.entries j no_entry ≡ entry_of (among d.n t (k / most_events) (k % most_events))) (div-add-mod' k most_events) (at_pair (k / most_events) (k % most_events) (row_below k l) (column-below k))

-- the table of a day that is made of a table in range
module _ (n : ℕ) (few : n ≤ most_events) (t : Table) (ranged : (u v : ℕ) → u < n → v < n → T (in_range (t u v))) where
  made-long : length (day_with n t).entries ≡ most_events * most_events
  unfolding day_with
  made-long = length-list (most_events * most_events) _

  made_at : (u v : ℕ) → u < most_events → v < most_events → table_of (day_with n t) u v ≡ among n t u v
  unfolding day_with
  made_at u v l m =
      ap said (at-list (most_events * most_events) _ no_entry (u * most_events + v) (place-below u v l m))
      ∙ ap₂ (λ (i j : ℕ). said (entry_of (among n t i j))) (digits_div u {m = most_events} {r = v} m) (digits_mod u {m = most_events} {r = v} m)
      ∙ entry-said (among n t u v) (⊎_elim (λ (i : (u < n) × (v < n)). subst (λ (d : Distance). T (in_range d)) (sym (among_in n t u v i.0 i.1)) (ranged u v i.0 i.1)) (λ o. subst (λ (d : Distance). T (in_range d)) (sym (among-out n t u v o)) (unfold in_range in tt)) (inside-or n u v))

  made_in : (u v : ℕ) → u < n → v < n → table_of (day_with n t) u v ≡ t u v
  made_in u v l m = made_at u v (omega arith) (omega arith) ∙ among_in n t u v l m

  pub made-follows : is_size n ≡ true → (fs : List Alternative) → DayOf n fs t → Follows (day_with n t) fs
  unfolding day_with
  made-follows size fs day =
      let made = same-day n fs t (table_of (day_with n t)) made_in day in
      record {
        sized = size;
        long = made-long;
        table = passed n (table_of (day_with n t)) (day-passes n fs (table_of (day_with n t)) made (λ u v l m. subst (λ (d : Distance). T (in_range d)) (sym (made_in u v l m)) (ranged u v l m)) (λ u v l m o. subst (λ (d : Distance). T (is_none d)) (sym (made_at u v l m ∙ among-out n t u v o)) (unfold is_none in tt)));
        day = made;
      }
