-- 16's test as a statement, pair by pair; it says of a table only what stands in its first rows and columns. Assumes nothing.
use mathlib.Core.Path.{◌≡◌, sym, subst}
use mathlib.Core.Bool.{Bool, ◌&&◌, ◌||◌}
use mathlib.Core.Logic.{◌⊎◌, inl, inr, ⊎_elim}
use Prim.Native.Nat.{ℕ, ◌<◌, ◌≤◌}
use native.Mathlib.Omega.{arith}
use lib.Dec.{T, ltb, ltb→lt}
use borrow.Author.Tests.{lt-ltb, le-ltb}
use mir.Facts.{and_yes, yes_and, or_yes}
use Rattle.laws.proofs.Order.{lt-or-ge}
use Rattle.meaning.specs.Limits.{most_events}
use Rattle.distances.specs.Distances.{Distance, Table}
use Rattle.distances.specs.Adding.{no_longer, and_then}
use Rattle.standing.specs.Standing.{every, in_range, is_zero, is_none, is_table}
use Rattle.standing.proofs.Every.{every-all, all-every}

-- the four things that 16 asks for
pub record Passes (n : ℕ) (t : Table) : Type 0 where
  pub ranged : (u v : ℕ) → u < n → v < n → T (in_range (t u v))
  pub own : (u : ℕ) → u < n → T (is_zero (t u u))
  pub detour : (u w v : ℕ) → u < n → w < n → v < n → T (no_longer (t u v) (and_then (t u w) (t w v)))
  pub past : (u v : ℕ) → u < most_events → v < most_events → (n ≤ u) ⊎ (n ≤ v) → T (is_none (t u v))

pub pair-all : (n : ℕ) (f : ℕ → ℕ → Bool) → T (every n (λ u. every n (f u))) → (u v : ℕ) → u < n → v < n → T (f u v)
pair-all n f h u v l m = every-all n (f u) (every-all n (λ u. every n (f u)) h u l) v m

pub all-pair : (n : ℕ) (f : ℕ → ℕ → Bool) → ((u v : ℕ) → u < n → v < n → T (f u v)) → T (every n (λ u. every n (f u)))
all-pair n f h = all-every n (λ u. every n (f u)) (λ u l. all-every n (f u) (λ v m. h u v l m))

module _ (n : ℕ) (t : Table) where
  abbrev Range : Bool
  Range = every n (λ u. every n (λ v. in_range (t u v)))

  abbrev Own : Bool
  Own = every n (λ u. is_zero (t u u))

  abbrev Detour : Bool
  Detour = every n (λ u. every n (λ w. every n (λ v. no_longer (t u v) (and_then (t u w) (t w v)))))

  abbrev Past : Bool
  Past = every most_events (λ u. every most_events (λ v. (ltb u n && ltb v n) || is_none (t u v)))

  pub passes : T (is_table n t) → Passes n t
  unfolding is_table
  passes h =
      let (a, b) = and_yes Range (Own && (Detour && Past)) h in
      let (c, d) = and_yes Own (Detour && Past) b in
      let (e, f) = and_yes Detour Past d in
      record {
        ranged = pair-all n (λ u v. in_range (t u v)) a;
        own = every-all n (λ u. is_zero (t u u)) c;
        detour = λ u w v l m k. every-all n (λ v. no_longer (t u v) (and_then (t u w) (t w v))) (pair-all n (λ u w. every n (λ v. no_longer (t u v) (and_then (t u w) (t w v)))) e u w l m) v k;
        past = λ u v l m o. ⊎_elim (λ i. absurd (inside u v o i)) (λ i. i) (or_yes (ltb u n && ltb v n) (is_none (t u v)) (pair-all most_events (λ u v. (ltb u n && ltb v n) || is_none (t u v)) f u v l m));
      }
    where
      inside : (u v : ℕ) → (n ≤ u) ⊎ (n ≤ v) → T (ltb u n && ltb v n) → ⊥
      inside u v (inl o) i = let l : u < n = ltb→lt u n (and_yes (ltb u n) (ltb v n) i).0 in omega arith
      inside u v (inr o) i = let l : v < n = ltb→lt v n (and_yes (ltb u n) (ltb v n) i).1 in omega arith

  pub passed : Passes n t → T (is_table n t)
  unfolding is_table
  passed p =
      yes_and Range (Own && (Detour && Past)) (all-pair n (λ u v. in_range (t u v)) p.ranged)
      (yes_and Own (Detour && Past) (all-every n (λ u. is_zero (t u u)) p.own)
      (yes_and Detour Past (all-pair n (λ u w. every n (λ v. no_longer (t u v) (and_then (t u w) (t w v)))) (λ u w l m. all-every n (λ v. no_longer (t u v) (and_then (t u w) (t w v))) (λ v k. p.detour u w v l m k)))
      (all-pair most_events (λ u v. (ltb u n && ltb v n) || is_none (t u v)) outside)))
    where
      outside : (u v : ℕ) → u < most_events → v < most_events → T ((ltb u n && ltb v n) || is_none (t u v))
      outside u v l m =
          ⊎_elim
          (λ (i : u < n). ⊎_elim (λ (j : v < n). rw (lt-ltb u n i, lt-ltb v n j) tt) (λ (j : n ≤ v). rw (lt-ltb u n i, le-ltb v n j) (p.past u v l m (inr j))) (lt-or-ge v n))
          (λ (i : n ≤ u). rw (le-ltb u n i) (p.past u v l m (inl i)))
          (lt-or-ge u n)

-- a table with the same first rows and columns passes as well
pub same-passes : (n : ℕ) (t s : Table) → n ≤ most_events → ((u v : ℕ) → u < most_events → v < most_events → t u v ≡ s u v) → Passes n t → Passes n s
same-passes n t s few e p =
    record {
      ranged = λ u v l m. subst (λ (d : Distance). T (in_range d)) (e u v (omega arith) (omega arith)) (p.ranged u v l m);
      own = λ u l. subst (λ (d : Distance). T (is_zero d)) (e u u (omega arith) (omega arith)) (p.own u l);
      detour = λ u w v l m k. rw (sym (e u v (omega arith) (omega arith)), sym (e u w (omega arith) (omega arith)), sym (e w v (omega arith) (omega arith))) (p.detour u w v l m k);
      past = λ u v l m o. subst (λ (d : Distance). T (is_none d)) (e u v l m) (p.past u v l m o);
    }
