-- The automaton's table, every entry tested once by computation against the grammar, and what the test gives at each state and byte. Assumes nothing.
-- One sample stands for its class: bytes that no kind of the grammar tells apart have one derivative and one role (Alike).
use mathlib.Core.Path.{◌≡◌, refl, sym, ap, ◌∙◌, subst, subst₂}
use mathlib.Core.Bool.{Bool, true, ◌&&◌, ◌||◌, not}
use mathlib.Core.List.{List, [], ◌∷◌, ◌++◌}
use mathlib.Core.Logic.{⊎_elim}
use Prim.Native.Nat.{ℕ, zero, suc, ◌+◌, ◌*◌, ◌<◌}
use native.Mathlib.Nat.{add-zero, zero-add, add-suc, suc-add, le_of_suc-le-suc, not-suc-le-zero}
use native.Mathlib.Omega.{arith}
use mir.Facts.{and_yes, or_yes, ltb_yes}
use borrow.Author.Tests.{eq-eqb, ne_eqb}
use lib.Dec.{T, ltb, eqb, eqb→eq}
use lib.ListN.{length, get_or, take, drop, length-drop}
use lib.Seq.{get_or-take, get_or-drop, drop-drop, length-take-le}
use Rattle.grammar.specs.Grammar.{role_no, Grammar, none, script}
use Rattle.grammar.specs.Place.{ends, live, after, role_of}
use Rattle.grammar.specs.States.{grown, origins, states, grammar_of}
use Rattle.grammar.specs.Automaton.{classes, role_column, end_column, row_width, class_of, entry, role_in, Steps, end_no, IsTable}
use Rattle.grammar.proofs.Same.{same, is_equal, equal_is}
use Rattle.grammar.proofs.Alike.{sample_of, agree, agreed, alike, after-alike, role-alike, alike-states}

-- ---- the tests
-- the test f passes at each element of the list and its place, counted from i
unfoldable pub every : (ℕ → ℕ → Bool) → ℕ → List ℕ → Bool
every f i [] = true
every f i (x ∷ xs) = f i x && every f (suc i) xs

-- c is the class of the byte b
unfoldable pub is_class : ℕ → ℕ → Bool
is_class b c = ltb c classes && alike (sample_of c) b script

-- x is the next state for class c where the grammar is g and the state's role r
unfoldable pub is_next : List Grammar → Grammar → ℕ → ℕ → ℕ → Bool
is_next known g r c x =
    let d = after (sample_of c) g in
    is_equal (same (get_or known x none) d)
    && (agree (live d) (not (eqb x 0))
    && (eqb x 0 || eqb (role_in r c) (role_no (role_of (sample_of c) g))))

-- the front of the list is the row of the grammar g
unfoldable pub is_row : List Grammar → Grammar → List ℕ → Bool
is_row known g row = every (is_next known g (get_or row role_column 0)) 0 (take classes row) && eqb (get_or row end_column 0) (end_no (ends g))

-- the list is the rows of the grammars
unfoldable pub are_rows : List Grammar → List Grammar → List ℕ → Bool
are_rows known [] t = true
are_rows known (g ∷ gs) t = is_row known g t && are_rows known gs (drop row_width t)

-- one for each byte: the last numbers stand for no state
unfoldable pub numbered : List Grammar
numbered = states ++ (none ∷ none ∷ [])

unfoldable pub passes : List ℕ → Bool
passes t = every is_class 0 (take 256 t) && are_rows states numbered (drop 256 t)

-- ---- what they give at each place
from : (f : ℕ → ℕ → Bool) (xs : List ℕ) (i : ℕ) → T (every f i xs) → (k : ℕ) → k < length xs → T (f (i + k) (get_or xs k 0))
unfolding every
from f [] i t k h = absurd (not-suc-le-zero h)
from f (x ∷ xs) i t zero h = subst (λ (m : ℕ). T (f m x)) (sym (add-zero i)) (and_yes (f i x) (every f (suc i) xs) t).0
from f (x ∷ xs) i t (suc k) h =
    subst (λ (m : ℕ). T (f m (get_or xs k 0))) (suc-add i k ∙ sym (add-suc i k))
    (from f xs (suc i) (and_yes (f i x) (every f (suc i) xs) t).1 k (le_of_suc-le-suc h))

at : (f : ℕ → ℕ → Bool) (xs : List ℕ) → T (every f 0 xs) → (k : ℕ) → k < length xs → T (f k (get_or xs k 0))
at f xs t k h = subst (λ (m : ℕ). T (f m (get_or xs k 0))) (zero-add k) (from f xs 0 t k h)

row-at : (known gs : List Grammar) (t : List ℕ) → T (are_rows known gs t) → (s : ℕ) → s < length gs → T (is_row known (get_or gs s none) (drop (s * row_width) t))
unfolding are_rows
row-at known [] t p s h = absurd (not-suc-le-zero h)
row-at known (g ∷ gs) t p zero h = (and_yes (is_row known g t) (are_rows known gs (drop row_width t)) p).0
row-at known (g ∷ gs) t p (suc s) h =
    let q : row_width + s * row_width ≡ suc s * row_width = omega arith in
    subst (λ (l : List ℕ). T (is_row known (get_or gs s none) l)) (drop-drop (s * row_width) row_width t ∙ ap (λ (m : ℕ). drop m t) q)
    (row-at known gs (drop row_width t) (and_yes (is_row known g t) (are_rows known gs (drop row_width t)) p).1 s (le_of_suc-le-suc h))

-- ---- what the test of an entry says of the bytes of its class
module _ (s b c x r : ℕ) (a : T (alike (sample_of c) b (grammar_of s))) (p : T (is_next states (grammar_of s) r c x)) where
  d : Grammar
  d = after (sample_of c) (grammar_of s)

  of-d : d ≡ after b (grammar_of s)
  unfolding d
  of-d = after-alike (sample_of c) b (grammar_of s) a

  parts : T (is_equal (same (grammar_of x) d)) × (T (agree (live d) (not (eqb x 0))) × T (eqb x 0 || eqb (role_in r c) (role_no (role_of (sample_of c) (grammar_of s)))))
  unfolding is_next grammar_of d
  parts =
      let f = and_yes (is_equal (same (grammar_of x) d)) (agree (live d) (not (eqb x 0)) && (eqb x 0 || eqb (role_in r c) (role_no (role_of (sample_of c) (grammar_of s))))) p in
      (f.0, and_yes (agree (live d) (not (eqb x 0))) (eqb x 0 || eqb (role_in r c) (role_no (role_of (sample_of c) (grammar_of s)))) f.1)

  lives : live (after b (grammar_of s)) ≡ not (eqb x 0)
  lives = ap live (sym of-d) ∙ agreed (live d) (not (eqb x 0)) parts.1.0

  pub steps-by : Steps s b x (role_in r c)
  steps-by =
      record {
        leads = equal_is (same (grammar_of x) d) parts.0 ∙ of-d;
        refuses = λ z. lives ∙ ap not (eq-eqb x 0 z);
        goes_on = λ n. lives ∙ ap not (ne_eqb x 0 n);
        role = λ n.
            ⊎_elim (λ z. absurd (n (eqb→eq x 0 z)))
            (λ q. eqb→eq (role_in r c) (role_no (role_of (sample_of c) (grammar_of s))) q ∙ ap role_no (role-alike (sample_of c) b (grammar_of s) a))
            (or_yes (eqb x 0) (eqb (role_in r c) (role_no (role_of (sample_of c) (grammar_of s)))) parts.1.1);
      }

all-numbered : length numbered ≡ 256
unfolding numbered states grown origins
all-numbered = refl

padded : (gs : List Grammar) (s : ℕ) → get_or (gs ++ (none ∷ none ∷ [])) s none ≡ get_or gs s none
padded [] zero = refl
padded [] (suc zero) = refl
padded [] (suc (suc s)) = refl
padded (g ∷ gs) zero = refl
padded (g ∷ gs) (suc s) = padded gs s

number_is : (s : ℕ) → get_or numbered s none ≡ grammar_of s
unfolding numbered grammar_of
number_is s = padded states s

-- ---- a table that passes is one
module _ (t : List ℕ) (long : length t ≡ 256 + 256 * row_width) (p : T (passes t)) where
  class-at : (b : ℕ) → b < 256 → T (is_class b (class_of t b))
  unfolding passes
  class-at b h =
      subst (λ (c : ℕ). T (is_class b c)) (get_or-take 256 t b 0 h)
      (at is_class (take 256 t) (and_yes (every is_class 0 (take 256 t)) (are_rows states numbered (drop 256 t)) p).0 b (subst (λ (n : ℕ). b < n) (sym (length-take-le 256 t (omega arith))) h))

  abbrev row : ℕ → List ℕ
  row s = drop (s * row_width) (drop 256 t)

  column : (s c : ℕ) → get_or (row s) c 0 ≡ entry t s c
  column s c =
      let q : 256 + (s * row_width + c) ≡ 256 + s * row_width + c = omega arith in
      get_or-drop (s * row_width) (drop 256 t) c 0 ∙ get_or-drop 256 t (s * row_width + c) 0 ∙ ap (λ (k : ℕ). get_or t k 0) q

  module _ (s : ℕ) (h : s < 256) where
    row-passes : T (is_row states (grammar_of s) (row s))
    unfolding passes
    row-passes = subst (λ (g : Grammar). T (is_row states g (row s))) (number_is s) (row-at states numbered (drop 256 t) (and_yes (every is_class 0 (take 256 t)) (are_rows states numbered (drop 256 t)) p).1 s (subst (λ (n : ℕ). s < n) (sym all-numbered) h))

    ending-is : entry t s end_column ≡ end_no (ends (grammar_of s))
    unfolding is_row
    ending-is =
        sym (column s end_column)
        ∙ eqb→eq (get_or (row s) end_column 0) (end_no (ends (grammar_of s)))
        (and_yes (every (is_next states (grammar_of s) (get_or (row s) role_column 0)) 0 (take classes (row s))) (eqb (get_or (row s) end_column 0) (end_no (ends (grammar_of s)))) row-passes).1

    -- the class of a byte, and what its column says
    module _ (b : ℕ) (k : b < 256) where
      small : class_of t b < classes
      unfolding is_class
      small = ltb_yes (and_yes (ltb (class_of t b) classes) (alike (sample_of (class_of t b)) b script) (class-at b k)).0

      is-alike : T (alike (sample_of (class_of t b)) b (grammar_of s))
      unfolding is_class
      is-alike = alike-states (sample_of (class_of t b)) b s (and_yes (ltb (class_of t b) classes) (alike (sample_of (class_of t b)) b script) (class-at b k)).1

      tested : T (is_next states (grammar_of s) (entry t s role_column) (class_of t b) (entry t s (class_of t b)))
      unfolding is_row
      tested =
          let c : ℕ = class_of t b in
          let f : ℕ → ℕ → Bool = is_next states (grammar_of s) (get_or (row s) role_column 0) in
          let less : c < classes = small in
          subst₂ (λ (r x : ℕ). T (is_next states (grammar_of s) r c x)) (column s role_column) (get_or-take classes (row s) c 0 less ∙ column s c)
          (at f (take classes (row s)) (and_yes (every f 0 (take classes (row s))) (eqb (get_or (row s) end_column 0) (end_no (ends (grammar_of s)))) row-passes).0 c
          (subst (λ (n : ℕ). c < n) (sym (length-take-le classes (row s) (simp (length-drop) (omega arith)))) less))

      stepped : Steps s b (entry t s (class_of t b)) (role_in (entry t s role_column) (class_of t b))
      stepped = steps-by s b (class_of t b) (entry t s (class_of t b)) (entry t s role_column) is-alike tested

  pub is-table : IsTable t
  is-table = record { small = λ b k. small 0 (omega arith) b k; steps = λ s b h k. stepped s h b k; ending = λ s h. ending-is s h }
