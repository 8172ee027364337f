-- The place that is computed is the place that is meant, and there is one at most. Assumes nothing.
use mathlib.Core.Path.{◌≡◌, refl, sym, ap, ◌∙◌, subst}
use mathlib.Core.Bool.{Bool, true, false, cond}
use mathlib.Core.List.{List, [], ◌∷◌, ◌++◌, append_assoc}
use mathlib.Core.Option.{Option, none as fine, some as refused}
use Prim.Native.Nat.{ℕ, suc, ◌+◌, ◌-◌, ◌≤◌, ◌<◌, zero-le, suc-le-suc}
use native.Mathlib.Nat.{le_of_suc-le-suc, suc-add, zero-add, add-zero, add-suc}
use native.Mathlib.Decide.{dec_lt}
use native.Mathlib.Omega.{arith}
use mathlib.Core.Logic.{by_cases}
use lib.Dec.{T}
use lib.ListN.{length, take, drop}
use lib.Seq.{take-add}
use Rattle.grammar.specs.Grammar.{Grammar, Allows, bytes, spelled, blank, gap, parting, opening, closing_as, symbol_as, numeral_as, bound, difference, atom, optional, held, declared, command, set_logic, check_sat, script}
use Rattle.grammar.specs.Place.{GoesOn, RefusedAt, ends, live, after, place_from}
use Rattle.grammar.proofs.Derivatives.{ends-allows, allows-ends, after-allows, allows-after, live-allows, allows-live}

-- ---- "goes on" is computed
unfoldable pub after_all : List ℕ → Grammar → Grammar
after_all [] g = g
after_all (b ∷ s) g = after_all s (after b g)

all-allows : (s : List ℕ) (g : Grammar) (more : List ℕ) → Allows (after_all s g) more → Allows g (s ++ more)
unfolding after_all
all-allows [] g more a = a
all-allows (b ∷ s) g more a = after-allows b g (s ++ more) (all-allows s (after b g) more a)

allows-all : (s : List ℕ) (g : Grammar) (more : List ℕ) → Allows g (s ++ more) → Allows (after_all s g) more
unfolding after_all
allows-all [] g more a = a
allows-all (b ∷ s) g more a = allows-all s (after b g) more (allows-after b g (s ++ more) a)

pub goes-on-computed : (g : Grammar) (s : List ℕ) → T (live (after_all s g)) → GoesOn g s
goes-on-computed g s t = let (more, a) = live-allows (after_all s g) t in (more, all-allows s g more a)

pub computed-goes-on : (g : Grammar) (s : List ℕ) → GoesOn g s → T (live (after_all s g))
computed-goes-on g s (more, a) = allows-live (after_all s g) more (allows-all s g more a)

-- ---- the place
-- what the computed answer says of a text whose first byte is at i
abbrev Says : ℕ → Grammar → List ℕ → Option ℕ → Type 0
Says i g s fine = Allows g s
Says i g s (refused p) = (j : ℕ) × (p ≡ i + j) × RefusedAt g s j

-- a byte that goes on: the rest decides
on : (i b : ℕ) (g : Grammar) (s : List ℕ) (o : Option ℕ) → Says (suc i) (after b g) s o → Says i g (b ∷ s) o
on i b g s fine a = after-allows b g s a
on i b g s (refused p) (j, e, r) = (
  suc j,
  e ∙ suc-add i j ∙ sym (add-suc i j),
  record {
    within = suc-le-suc r.within;
    not-allowed = λ a. r.not-allowed (allows-after b g s a);
    goes_on = let (more, a) = r.goes_on in (more, after-allows b g (take j s ++ more) a);
    no-further = λ h x. let (more, a) = x in r.no-further (le_of_suc-le-suc h) (more, allows-after b g (take (suc j) s ++ more) a);
  },
)

-- a byte at which nothing goes on
here : (i b : ℕ) (g : Grammar) (s : List ℕ) → T (live g) → (T (live (after b g)) → ⊥) → Says i g (b ∷ s) (refused i)
here i b g s l n = (
  0,
  sym (add-zero i),
  record {
    within = zero-le;
    not-allowed = λ a. n (allows-live (after b g) s (allows-after b g s a));
    goes_on = live-allows g l;
    no-further = λ h x. let (more, a) = x in n (allows-live (after b g) more (allows-after b g more a));
  },
)

-- a text that breaks off
off : (i : ℕ) (g : Grammar) → T (live g) → (T (ends g) → ⊥) → Says i g [] (refused i)
off i g l n = (
  0,
  sym (add-zero i),
  record { within = zero-le; not-allowed = λ a. n (allows-ends g a); goes_on = live-allows g l; no-further = λ h x. omega arith },
)

says : (s : List ℕ) (i : ℕ) (g : Grammar) → T (live g) → Says i g s (place_from i g s)
unfolding place_from
says [] i g l = go (ends g) (ends-allows g) (λ t. t)
  where
    go : (t : Bool) → (T t → Allows g []) → (T (ends g) → T t) → Says i g [] (cond t fine (refused i))
    go true y n = y tt
    go false y n = off i g l n
says (b ∷ s) i g l = go (live (after b g)) (says s (suc i) (after b g)) (λ t. t)
  where
    go : (t : Bool) → (T t → Says (suc i) (after b g) s (place_from (suc i) (after b g) s)) → (T (live (after b g)) → T t) → Says i g (b ∷ s) (cond t (place_from (suc i) (after b g) s) (refused i))
    go true y n = on i b g s (place_from (suc i) (after b g) s) (y tt)
    go false y n = here i b g s l n

-- ---- one place at most
goes_back : (g : Grammar) (s : List ℕ) (i j : ℕ) → i ≤ j → GoesOn g (take j s) → GoesOn g (take i s)
goes_back g s i j h (more, a) =
    let e : j ≡ i + (j - i) = omega arith in (
      take (j - i) (drop i s) ++ more,
      subst (Allows g) (ap (λ (k : ℕ). take k s ++ more) e ∙ ap (λ (l : List ℕ). l ++ more) (take-add i (j - i) s) ∙ append_assoc (take i s) (take (j - i) (drop i s)) more) a,
    )

not-before : {g : Grammar} {s : List ℕ} {i j : ℕ} → RefusedAt g s i → RefusedAt g s j → i < j → ⊥
not-before {g} {s} {i} {j} p q h = p.no-further (let w : j ≤ length s = q.within in omega arith) (goes_back g s (suc i) j (omega arith) q.goes_on)

pub one_place : {g : Grammar} {s : List ℕ} {i j : ℕ} → RefusedAt g s i → RefusedAt g s j → i ≡ j
one_place {g} {s} {i} {j} p q = by_cases (dec_lt i j) (λ h. absurd (not-before p q h)) (λ m. by_cases (dec_lt j i) (λ h. absurd (not-before q p h)) (λ n. omega arith))

-- ---- of scripts
script-live : T (live script)
unfolding live bytes spelled blank gap parting opening closing_as symbol_as numeral_as bound difference atom optional held declared command set_logic check_sat script
script-live = tt

pub fine-allows : (s : List ℕ) → place_from 0 script s ≡ fine → Allows script s
fine-allows s e = subst (Says 0 script s) e (says s 0 script script-live)

pub refused-refused : (s : List ℕ) (p : ℕ) → place_from 0 script s ≡ refused p → RefusedAt script s p
refused-refused s p e =
    let (j, d, r) = subst (Says 0 script s) e (says s 0 script script-live) in
    subst (RefusedAt script s) (sym (d ∙ zero-add j)) r

pub allows-fine : (s : List ℕ) → Allows script s → place_from 0 script s ≡ fine
allows-fine s a = go (place_from 0 script s) (refused-refused s)
  where
    go : (o : Option ℕ) → ((p : ℕ) → o ≡ refused p → RefusedAt script s p) → o ≡ fine
    go fine f = refl
    go (refused p) f = absurd ((f p refl).not-allowed a)

pub refused-computed : (s : List ℕ) (p : ℕ) → RefusedAt script s p → place_from 0 script s ≡ refused p
refused-computed s p r = go (place_from 0 script s) (fine-allows s) (refused-refused s)
  where
    go : (o : Option ℕ) → (o ≡ fine → Allows script s) → ((q : ℕ) → o ≡ refused q → RefusedAt script s q) → o ≡ refused p
    go fine y f = absurd (r.not-allowed (y refl))
    go (refused q) y f = ap refused (one_place (f q refl) r)
