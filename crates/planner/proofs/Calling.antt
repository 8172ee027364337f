-- A call of `plan` over slices that it filled: as long as they were, and cleared. Assumes nothing.
use mathlib.Core.Path.{◌≡◌, sym, ap, ◌∙◌, subst}
use mathlib.Core.List.{List}
use Prim.Native.Nat.{ℕ, ◌≤◌}
use native.Mathlib.Omega.{arith}
use lib.IntN.{ℤ}
use lib.ListN.{length, replicate, length-replicate}
use Rattle.meaning.specs.declared.Answer.TheVariants.{Refused}
use Rattle.meaning.specs.Limits.{blank_byte, no_time}
use Rattle.meaning.specs.Screen.{Lent, Input, alternatives, clauses_of, refusal, Shows}
use Rattle.meaning.proofs.Accepted.{parted-length}
use Rattle.problem.specs.declared.Problem.{Problem}
use Rattle.problem.specs.Reads.{given, Reads}
use Rattle.problem.proofs.Laying.{clauses-length}
use Rattle.planner.specs.Call.{call, Cleared, Accepts}
use Rattle.planner.proofs.Refusals.{same-call}
use Rattle.planner.proofs.Answering.{shows-refused}

-- a filled slice is as long as it was
filled : {A : Type 0} (before after : List A) (v : A) → after ≡ replicate (length before) v → length after ≡ length before
filled before after v e = ap length e ∙ length-replicate (length before) v

again : {A : Type 0} (before after : List A) (v : A) → after ≡ replicate (length before) v → after ≡ replicate (length after) v
again before after v e = e ∙ ap (λ (n : ℕ). replicate n v) (sym (filled before after v e))

pub cleared : (t₀ t : List ℤ) (p₀ p r₀ r : List ℕ) → t ≡ replicate (length t₀) no_time → p ≡ replicate (length p₀) blank_byte → r ≡ replicate (length r₀) blank_byte → Cleared t p r
cleared t₀ t p₀ p r₀ r e f g = record { times = again t₀ t no_time e; choice = again p₀ p blank_byte f; list = again r₀ r blank_byte g }

-- what an accepted call asks of the slices, of the problem by value
pub roomy-times : {m n : ℕ} (k : ℕ) → n ≤ k → m ≡ n → m ≤ k
roomy-times k l e = omega arith

pub roomy-picks : (l : Lent) (p : Problem) → Reads l p → (k : ℕ) → length l.counts ≤ k → p.m ≤ k
unfolding clauses_of
roomy-picks l p r k h =
    omega (arith, clauses-length p 0 p.m, ap length r.clauses, parted-length 0 l.counts (alternatives 0 l.triples))

module _ (n : ℕ) (triples : List ℤ) (counts : List ℕ) (allowance : ℕ) (t₀ t : List ℤ) (p₀ p r₀ r : List ℕ) (e : t ≡ replicate (length t₀) no_time) (f : p ≡ replicate (length p₀) blank_byte) (g : r ≡ replicate (length r₀) blank_byte) (number : ℕ) (is : (room : ℕ) → number ≡ refusal (call n triples counts allowance (length t) (length p) room)) where
  abbrev own : Input
  own = call n triples counts allowance (length t₀) (length p₀) (length r₀)

  number_is : number ≡ refusal own
  number_is = is (length r₀) ∙ same-call n triples counts allowance (length t) (length t₀) (length p) (length p₀) (length r₀) (filled t₀ t no_time e) (filled p₀ p blank_byte f)

  pub refused-call : (number ≡ 0 → ⊥) → Shows own (Refused number) t p r
  refused-call h =
      subst (λ (x : List ℤ). Shows own (Refused number) x p r) (sym e)
      (subst (λ (x : List ℕ). Shows own (Refused number) (replicate (length t₀) no_time) x r) (sym f)
      (subst (λ (x : List ℕ). Shows own (Refused number) (replicate (length t₀) no_time) (replicate (length p₀) blank_byte) x) (sym g) (shows-refused own number number_is h)))

  pub accepted-call : number ≡ 0 → (q : Problem) → Reads (given n triples counts) q → (v : ℕ) → v ≡ allowance → Accepts own q v (length t) (length p) (length r)
  accepted-call z q h v w =
      record {
        reads = h;
        taken = sym number_is ∙ z;
        allows = sym w;
        has-times = sym (filled t₀ t no_time e);
        has-picks = sym (filled p₀ p blank_byte f);
        has_room = sym (filled r₀ r blank_byte g);
      }
