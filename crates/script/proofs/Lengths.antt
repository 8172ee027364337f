-- No text of an accepted problem is longer than `longest_text`: each part by the most bytes that it takes. Assumes nothing.
use mathlib.Core.List.{List, [], ◌∷◌, ◌++◌, map}
use Prim.Native.Nat.{ℕ, zero, suc, ◌+◌, ◌*◌, ◌≤◌, ◌<◌}
use mathlib.Core.Path.{◌≡◌}
use native.Mathlib.Omega.{arith}
use lib.IntN.{ℤ, pos, negsuc, nat_abs}
use lib.ListN.{length, length-append}
use Rattle.meaning.specs.Limits.{most_events, most_bound}
use Rattle.meaning.specs.Problem.{Alternative, Clause}
use Rattle.meaning.specs.Screen.{Lent, clauses_of, problem_refusal}
use Rattle.meaning.proofs.Settling.{Each, In}
use Rattle.meaning.proofs.Accepted.{Every, Bounded, sizes, accepted}
use Rattle.dialogue.specs.Written.{decimal, led}
use Rattle.dialogue.proofs.Decimals.{short-decimal}
use Rattle.grammar.specs.Grammar.{bytes}
use Rattle.script.specs.Text.{name_of, declaration_of, declarations_from, bound_of, atom_of, atom_text, held_of, assert_of, asserts_of, text_of, longest_text}

pub name-length : (e : ℕ) → e < most_events → length (name_of e) ≤ 3
unfolding name_of bytes
name-length e h = omega (arith, short-decimal 20 1 e (omega arith))

declarations-length : (e k : ℕ) → e + k ≤ most_events → length (declarations_from e k) ≤ 25 * k
unfolding declarations_from declaration_of bytes
declarations-length e zero h = omega arith
declarations-length e (suc k) h =
    let one : length (declaration_of e) ≤ 25 = omega (arith, name-length e (omega arith), length-append (name_of e) (bytes " () Int)\n")) in
    omega (arith, length-append (declaration_of e) (declarations_from (suc e) k), declarations-length (suc e) k (omega arith))

bound-length : (c : ℤ) → nat_abs c ≤ most_bound → length (bound_of c) ≤ 10
unfolding bound_of bytes
bound-length (pos v) h = omega (arith, short-decimal 20 5 v (omega arith))
bound-length (negsuc v) h = omega (arith, short-decimal 20 5 (suc v) (omega arith), length-append (decimal (suc v)) (bytes ")"))

-- of the alternatives of a clause, whose events lie below n and whose bounds within their limits
module _ (n : ℕ) (most : n ≤ most_events) where
  atom-length : (a : Alternative) → In n a → Bounded a → length (atom_text a) ≤ 27
  unfolding atom_of bytes
  atom-length a i k =
      let x = name_of a.x in
      let y = name_of a.y in
      let c = bound_of a.c in
      omega (
        arith,
        name-length a.x (omega arith),
        name-length a.y (omega arith),
        bound-length a.c k,
        length-append x (bytes " " ++ (y ++ (bytes ") " ++ (c ++ bytes ")")))),
        length-append y (bytes ") " ++ (c ++ bytes ")")),
        length-append c (bytes ")"),
      )

  led-length : (c : Clause) → Each (In n) c → Each Bounded c → length (led (map atom_text c)) ≤ 28 * length c
  unfolding led
  led-length [] i k = omega arith
  led-length (a ∷ c) i k = omega (arith, atom-length a i.0 k.0, led-length c i.1 k.1, length-append (atom_text a) (led (map atom_text c)))

  held-length : (c : Clause) → Each (In n) c → Each Bounded c → length (held_of (map atom_text c)) ≤ 5 + 28 * length c
  unfolding held_of bytes
  held-length [] i k = omega arith
  held-length (a ∷ []) i k = omega (arith, atom-length a i.0 k.0)
  held-length (a ∷ (b ∷ c)) i k = omega (arith, led-length (a ∷ b ∷ c) i k, length-append (led (map atom_text (a ∷ b ∷ c))) (bytes ")"))

  asserts-length : (cs : List Clause) → Every (In n) cs → Every Bounded cs → length (asserts_of cs) ≤ 15 * length cs + 28 * sizes cs
  unfolding asserts_of assert_of sizes bytes
  asserts-length [] i k = omega arith
  asserts-length (c ∷ cs) i k =
      let one : length (assert_of c) ≤ 15 + 28 * length c = omega (arith, held-length c i.0 k.0, length-append (held_of (map atom_text c)) (bytes ")\n")) in
      omega (arith, asserts-length cs i.1 k.1, length-append (assert_of c) (asserts_of cs))

pub text-length : (l : Lent) → problem_refusal l ≡ 0 → length (text_of l) ≤ longest_text
unfolding text_of bytes
text-length l e =
    let a = accepted l e in
    let cs = clauses_of l in
    omega (
      arith,
      declarations-length 0 l.n (omega (arith, a.most)),
      asserts-length l.n a.most cs a.within a.bounded,
      a.most,
      a.few,
      a.all,
      length-append (declarations_from 0 l.n) (asserts_of cs ++ bytes "(check-sat)\n"),
      length-append (asserts_of cs) (bytes "(check-sat)\n"),
    )
