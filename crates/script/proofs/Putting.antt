-- Laws by which the parts of a text are put one after another: a bound by its sign, and what remains of a list of parts. Assumes nothing.
use mathlib.Core.Path.{◌≡◌, refl, ap}
use mathlib.Core.Bool.{true, false}
use mathlib.Core.List.{List, [], ◌∷◌, ◌++◌, map}
use Prim.Native.Nat.{ℕ, suc, ◌+◌, ◌*◌, ◌-◌, ◌≤◌, ◌<◌}
use native.Mathlib.Numerals.{add-one}
use native.Mathlib.Omega.{arith}
use borrow.Author.Tests.{ltb-true}
use lib.Dec.{T}
use lib.IntN.{ℤ, pos, negsuc, nat_abs}
use lib.ListN.{length, get_or, take, drop, drop_of_length-le}
use lib.Seq.{drop-cons, drop-drop}
use lib.Signed.{lt_z}
use Rattle.meaning.specs.Problem.{Clause}
use Rattle.meaning.specs.Plain.{nowhere}
use Rattle.meaning.specs.Screen.{alternatives, parted, stepped}
use Rattle.meaning.proofs.Accepted.{first_count}
use Rattle.problem.proofs.Counts.{count_under}
use Rattle.dialogue.specs.Written.{decimal, led}
use Rattle.grammar.specs.Grammar.{bytes}
use Rattle.script.specs.Text.{declaration_of, declarations_from, bound_of, atom_of, atom_text, held_of, assert_of, asserts_of}
use Rattle.script.proofs.Parting.{take-alternatives, drop-alternatives, atoms-alike}

-- ---- a bound, by its sign
pub bound-below : (z : ℤ) → lt_z z (pos 0) ≡ true → bound_of z ≡ bytes "(- " ++ (decimal (nat_abs z) ++ bytes ")")
unfolding bound_of
bound-below (pos n) e = absurd (omega (arith, ltb-true n 0 e))
bound-below (negsuc n) e = refl

pub bound-else : (z : ℤ) → lt_z z (pos 0) ≡ false → bound_of z ≡ decimal (nat_abs z)
unfolding bound_of
bound-else (pos n) e = refl
bound-else (negsuc n) e = cc

-- ---- the declarations that remain
pub declarations-on : (e n : ℕ) → e < n → declarations_from e (n - e) ≡ declaration_of e ++ declarations_from (e + 1) (n - (e + 1))
unfolding declarations_from
declarations-on e n h =
    let one_more : n - e ≡ suc (n - (e + 1)) = omega arith in
    rw (one_more, add-one e)

pub declarations-off : (e n : ℕ) → n ≤ e → declarations_from e (n - e) ≡ []
unfolding declarations_from
declarations-off e n h = let none_left : n - e ≡ 0 = omega arith in rw none_left

-- ---- the atoms that remain
-- the atoms of triples, each led by a space
abbrev pub atoms : List ℤ → List ℕ
atoms ts = led (map atom_text (alternatives 0 ts))

-- a space and the atom of the first three, and then those of the others
pub atoms-on : (part next : List ℤ) → length part ≡ 3 → atoms (part ++ next) ≡ (32 ∷ []) ++ (atom_of (nat_abs (get_or part 0 (pos 0))) (nat_abs (get_or part 1 (pos 0))) (get_or part 2 (pos 0)) ++ atoms next)
unfolding alternatives led
atoms-on [] next e = absurd (omega arith)
atoms-on (x ∷ []) next e = absurd (omega arith)
atoms-on (x ∷ (y ∷ [])) next e = absurd (omega arith)
atoms-on (x ∷ (y ∷ (c ∷ []))) next e = ap (λ (l : List (List ℕ)). 32 ∷ (atom_of (nat_abs x) (nat_abs y) c ++ led l)) (atoms-alike 1 0 next)
atoms-on (x ∷ (y ∷ (c ∷ (d ∷ more)))) next e = absurd (omega arith)

pub atoms-off : (ts : List ℤ) → length ts < 3 → atoms ts ≡ []
unfolding alternatives led
atoms-off [] h = refl
atoms-off (x ∷ []) h = refl
atoms-off (x ∷ (y ∷ [])) h = refl
atoms-off (x ∷ (y ∷ (c ∷ more))) h = absurd (omega arith)

-- ---- what an assert holds, by how many alternatives there are
pub held_none : (c : Clause) → length c ≡ 0 → held_of (map atom_text c) ≡ bytes "false"
unfolding held_of
held_none [] e = refl
held_none (a ∷ c) e = absurd (omega arith)

pub held_one : (c : Clause) → length c ≡ 1 → held_of (map atom_text c) ≡ atom_text (get_or c 0 nowhere)
unfolding held_of
held_one [] e = absurd (omega arith)
held_one (a ∷ []) e = refl
held_one (a ∷ (b ∷ c)) e = absurd (omega arith)

pub held_more : (c : Clause) → 1 < length c → held_of (map atom_text c) ≡ bytes "(or" ++ (led (map atom_text c) ++ bytes ")")
unfolding held_of
held_more [] h = absurd (omega arith)
held_more (a ∷ []) h = absurd (omega arith)
held_more (a ∷ (b ∷ c)) h = refl

-- ---- the asserts that remain
-- those of the clauses from the k-th on, whose triples begin with the one of number `from`
abbrev pub asserts_from : List ℤ → List ℕ → ℕ → ℕ → List ℕ
asserts_from ts counts from k = asserts_of (parted from (drop k counts) (alternatives from (drop (from * 3) ts)))

-- the next count lies between the last one and the number of triples
pub record Next (last from to k : ℕ) (counts : List ℕ) : Type 0 where
  pub up : from ≤ to
  pub within : to ≤ last
  pub rest : T (stepped last to (drop (k + 1) counts))

pub next-count : (last from k : ℕ) (counts : List ℕ) → k < length counts → T (stepped last from (drop k counts)) → Next last from (get_or counts k 0) k counts
next-count last from k counts h t =
    let f = first_count last from (get_or counts k 0) (drop (suc k) counts) (rw (drop-cons counts k 0 h) at t) in
    record { up = f.up; within = count_under last (get_or counts k 0) (drop (suc k) counts) f.rest 0 (omega arith); rest = rw (add-one k) f.rest }

-- it holds the alternatives up to its count, and the others come after it
module _ (ts : List ℤ) (counts : List ℕ) (from k : ℕ) (h : k < length counts) (up : from ≤ get_or counts k 0) where
  abbrev to : ℕ
  to = get_or counts k 0

  pub asserts-on : asserts_from ts counts from k ≡ assert_of (alternatives 0 (take (to * 3 - from * 3) (drop (from * 3) ts))) ++ asserts_from ts counts to (k + 1)
  unfolding parted asserts_of assert_of
  asserts-on =
      let threes : (to - from) * 3 ≡ to * 3 - from * 3 = omega arith in
      let all : from * 3 + (to * 3 - from * 3) ≡ to * 3 = omega arith in
      let last : from + (to - from) ≡ to = omega arith in
      rw (drop-cons counts k 0 h, add-one k, take-alternatives (to - from) from (drop (from * 3) ts), drop-alternatives (to - from) from (drop (from * 3) ts), threes, drop-drop (to * 3 - from * 3) (from * 3) ts, all, last, atoms-alike from 0 (take (to * 3 - from * 3) (drop (from * 3) ts)))

pub asserts-off : (ts : List ℤ) (counts : List ℕ) (from k : ℕ) → length counts ≤ k → asserts_from ts counts from k ≡ []
unfolding parted asserts_of
asserts-off ts counts from k h = rw (drop_of_length-le counts h)
