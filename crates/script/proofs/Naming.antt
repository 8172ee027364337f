-- The names e0, e1 and so on: each is new after those before it, and found among those declared; names and numerals as words of strokes.
-- Assumes nothing.
use mathlib.Core.Path.{◌≡◌, refl, sym, ap, ◌∙◌}
use mathlib.Core.Bool.{Bool, true, false, ◌&&◌, not, cond}
use mathlib.Core.List.{List, [], ◌∷◌, ◌++◌}
use mathlib.Core.Logic.{by_cases}
use Rattle.std.specs.Prelude.{Some}
use Prim.Native.Nat.{ℕ, zero, suc, ◌≤◌, ◌<◌, ◌^◌}
use native.Mathlib.Decide.{ℕ_discrete}
use native.Mathlib.Omega.{arith}
use mir.Facts.{and_yes, leb_yes}
use borrow.Author.Tests.{le-leb}
use lib.Dec.{T, leb}
use lib.ListN.{length, length-append}
use Rattle.laws.proofs.Tests.{never}
use Rattle.meaning.specs.Limits.{most_events}
use Rattle.dialogue.specs.Words.{are_digits, unsigned_of}
use Rattle.dialogue.specs.Written.{decimal_in, decimal}
use Rattle.dialogue.proofs.Decimals.{decimal-digits, decimal-leads, reads-back}
use Rattle.grammar.specs.Grammar.{Role, bytes}
use Rattle.script.specs.Words.{same_word, kept_words, one_of, is_kept, event_of, is_new}
use Rattle.script.specs.Text.{name_of}
use Rattle.script.proofs.Wording.{same-word, other_word}
use Rattle.script.proofs.Declaring.{new-by-event}
use Rattle.script.proofs.Clauses.{event-kept}
use Rattle.script.proofs.Lengths.{name-length}
use Rattle.script.proofs.Strokes.{Ranged, Word}
use Rattle.script.proofs.Lines.{name, numeral, single}

-- ---- as words
digits-ranged : (w : List ℕ) → are_digits w ≡ true → Ranged 48 10 w
unfolding are_digits
digits-ranged [] e = tt
digits-ranged (b ∷ w) e = go (leb 48 b) (leb b 57) (are_digits w) (λ t. leb_yes t) (λ t. leb_yes t) (digits-ranged w) e
  where
    go : (x y z : Bool) → (T x → 48 ≤ b) → (T y → b ≤ 57) → (z ≡ true → Ranged 48 10 w) → (x && (y && z)) ≡ true → Ranged 48 10 (b ∷ w)
    go true true z low high more p = ((low tt, let h = high tt in omega arith), more p)
    go true false z low high more p = absurd (never (cc))
    go false y z low high more p = absurd (never (cc))

pub name-word : (r : Role) (behind : List ℕ) (e : ℕ) → e < most_events → Word (name r behind) (name_of e)
unfolding name_of bytes
name-word r behind e h = record { begin = 101; rest = decimal e; is = refl; begins = (omega arith, omega arith); goes_on = digits-ranged (decimal e) (decimal-digits e (omega arith)) }

pub numeral-word : (r : Role) (behind : List ℕ) (n : ℕ) → 0 < n → n < 10 ^ 20 → Word (numeral r behind) (decimal n)
numeral-word r behind n z h =
    let l = decimal-leads n z h in
    record { begin = l.first; rest = l.rest; is = l.is; begins = (l.low, omega (arith, l.high)); goes_on = digits-ranged l.rest l.digits }

pub single-word : (r : Role) (b : ℕ) (behind : List ℕ) → Word (single r b behind) (b ∷ [])
single-word r b behind = record { begin = b; rest = []; is = refl; begins = (omega arith, omega arith); goes_on = tt }

pub zero_is : decimal 0 ≡ 48 ∷ []
unfolding decimal_in
zero_is = refl

-- ---- among one another
-- the names of so many events
unfoldable pub names_up_to : ℕ → List (List ℕ)
names_up_to zero = []
names_up_to (suc k) = names_up_to k ++ (name_of k ∷ [])

pub names-many : (k : ℕ) → length (names_up_to k) ≡ k
unfolding names_up_to
names-many zero = refl
names-many (suc k) = omega (arith, length-append (names_up_to k) (name_of k ∷ []), names-many k)

-- a name tells its event, since its digits read back
name-one : (i e : ℕ) → i < most_events → e < most_events → name_of i ≡ name_of e → i ≡ e
unfolding name_of bytes
name-one i e h k p =
    let digits : decimal i ≡ decimal e = cc in
    let both : Some i ≡ Some e = sym (reads-back most_events i (omega arith) (omega arith)) ∙ ap (unsigned_of most_events) digits ∙ reads-back most_events e (omega arith) (omega arith) in
    cc

-- a name more at the end, where those before it are others
event-last : (names : List (List ℕ)) (n w : List ℕ) → event_of names w ≡ length names → event_of (names ++ (n ∷ [])) w ≡ cond (same_word n w) (length names) (suc (length names))
unfolding event_of
event-last [] n w e = refl
event-last (m ∷ names) n w e = go (same_word m w) e (event-last names n w)
  where
    go : (t : Bool) → cond t 0 (suc (event_of names w)) ≡ suc (length names) → (event_of names w ≡ length names → event_of (names ++ (n ∷ [])) w ≡ cond (same_word n w) (length names) (suc (length names))) → cond t 0 (suc (event_of (names ++ (n ∷ [])) w)) ≡ cond (same_word n w) (suc (length names)) (suc (suc (length names)))
    go true p f = absurd (omega arith)
    go false p f = ap suc (f (omega arith)) ∙ within (same_word n w)
      where
        within : (t : Bool) → suc (cond t (length names) (suc (length names))) ≡ cond t (suc (length names)) (suc (suc (length names)))
        within true = refl
        within false = refl

event-none : (n e : ℕ) → n ≤ e → e < most_events → event_of (names_up_to n) (name_of e) ≡ n
unfolding names_up_to
event-none zero e h k = unfold event_of in refl
event-none (suc n) e h k =
    let before : event_of (names_up_to n) (name_of e) ≡ length (names_up_to n) = event-none n e (omega arith) k ∙ sym (names-many n) in
    event-last (names_up_to n) (name_of n) (name_of e) before
    ∙ rw (other_word (name_of n) (name_of e) (λ p. omega (arith, name-one n e (omega arith) k p))) (ap suc (names-many n))

pub event-found : (n e : ℕ) → e < n → n ≤ most_events → event_of (names_up_to n) (name_of e) ≡ e
unfolding names_up_to
event-found zero e h k = absurd (omega arith)
event-found (suc n) e h k =
    by_cases (ℕ_discrete n e)
    (λ p.
    event-last (names_up_to n) (name_of n) (name_of e) (event-none n e (omega arith) (omega arith) ∙ sym (names-many n))
    ∙ rw (same-word (name_of n) (name_of e) (ap name_of p)) (names-many n ∙ p))
    (λ d.
    let found : event_of (names_up_to n) (name_of e) ≡ e = event-found n e (omega arith) (omega arith) in
    event-kept (names_up_to n) (name_of n ∷ []) (name_of e) (omega (arith, names-many n)) ∙ found)

-- none of them is a kept word: each was looked up
unfoldable free : ℕ → Bool
free zero = true
free (suc k) = not (is_kept (name_of k)) && free k

all-free : T (free most_events)
unfolding free name_of bytes decimal_in same_word kept_words one_of
all-free = tt

name_free : (n : ℕ) → T (free n) → (e : ℕ) → e < n → is_kept (name_of e) ≡ false
unfolding free
name_free zero t e h = absurd (omega arith)
name_free (suc n) t e h =
    let two = and_yes (not (is_kept (name_of n))) (free n) t in
    by_cases (ℕ_discrete n e) (λ p. rw (← p) (not_so (is_kept (name_of n)) two.0)) (λ d. name_free n two.1 e (omega arith))
  where
    not_so : (b : Bool) → T (not b) → b ≡ false
    not_so true t = absurd t
    not_so false t = refl

-- the next one may be declared
pub name_new : (e : ℕ) → e < most_events → is_new (names_up_to e) (name_of e) ≡ true
name_new e h =
    sym (new-by-event (names_up_to e) (name_of e) e e (omega (arith, name-length e h)) (name_free most_events all-free e h) (names-many e) (sym (event-none e e (omega arith) h)))
    ∙ le-leb e e (omega arith)
