-- What the place of a refusal is: A1's second claim. Assumes nothing.
-- A refusal comes from the first piece with a fault, or else from the grammar. Of the pieces only names are refused with 20, each at its first
-- byte; every other fault has place 0. The grammar's place is the first at which the text does not go on.
use mathlib.Core.Path.{◌≡◌, refl, sym, subst}
use mathlib.Core.Bool.{Bool, true, false, not, cond}
use mathlib.Core.List.{List, [], ◌∷◌}
use mathlib.Core.Logic.{◌⊎◌, inl, inr}
use mathlib.Core.Option.{Option, none, some}
use Prim.Native.Nat.{ℕ, ◌*◌, ◌<◌}
use lib.Dec.{leb, eqb}
use lib.ListN.{length}
use Rattle.laws.proofs.Tests.{never}
use Rattle.std.specs.Prelude.{Option as Spelt, None, Some}
use Rattle.meaning.specs.declared.Refusal.{Refusal}
use Rattle.meaning.specs.declared.Refusal.TheVariants.{Events, Clauses, Triples, Bound, Itself, Script}
use Rattle.meaning.specs.Refusal.{number_of}
use Rattle.meaning.specs.Limits.{most_events, most_clauses, most_alternatives, most_bound}
use Rattle.dialogue.specs.Words.{unsigned_of}
use Rattle.grammar.specs.Grammar.{Role, other, new_name, first_name, second_name, bound_digit, negated_digit, declaration_end, assert_end, check_end, script}
use Rattle.grammar.specs.Place.{RefusedAt, place_from}
use Rattle.grammar.specs.Pieces.{Piece, pieces}
use Rattle.grammar.proofs.Places.{refused-refused}
use Rattle.script.specs.Words.{event_of, is_declared, is_new}
use Rattle.script.specs.Reading.{Read, Answer, going, refused, unless, and_then, found, with_new, with_event, with_bound, with_name, with_clause, with_check, read_piece, read_all, settled, nothing_read, answer_at}
use Rattle.script.proofs.Refusals.{number-above}
use Rattle.script.proofs.Taking.{renamed, named, claused}

-- ---- where a fault is
-- a name's role
abbrev pub IsName : Role → Type 0
IsName other = ⊥
IsName new_name = Unit {0}
IsName first_name = Unit {0}
IsName second_name = Unit {0}
IsName bound_digit = ⊥
IsName negated_digit = ⊥
IsName declaration_end = ⊥
IsName assert_end = ⊥
IsName check_end = ⊥

-- one of the pieces is a name that begins at the place
abbrev pub NameAt : ℕ → List Piece → Type 0
NameAt p [] = ⊥
NameAt p (q ∷ ps) = (IsName q.role × (q.from ≡ p)) ⊎ NameAt p ps

-- the fault of a piece: 20 at its first byte and a name's, or another and no place
pub data Fault (q : Role) (from : ℕ) : Refusal → ℕ → Type 0 where
  of-name : IsName q → Fault q from Script from
  of_pair : Fault q from Itself 0
  of-bound : Fault q from Bound 0
  of-events : Fault q from Events 0
  of-clauses : Fault q from Clauses 0
  of-alternatives : Fault q from Triples 0

-- what an answer says of faults: none, or one of these
abbrev Faulty : (Refusal → ℕ → Type 0) → Answer → Type 0
Faulty F (going r) = Unit {0}
Faulty F (refused number place) = F number place

by-test : (F : Refusal → ℕ → Type 0) (ok : Bool) (number : Refusal) (place : ℕ) (r : Read) → F number place → Faulty F (unless ok number place r)
by-test F true number place r f = tt
by-test F false number place r f = f

by-bound : (q : Role) (from : ℕ) (negated : Bool) (o : Spelt ℕ) (r : Read) → Faulty (Fault q from) (with_bound negated o r)
unfolding with_bound
by-bound q from negated None r = of-bound
by-bound q from negated (Some v) r = tt

by_tests : (F : Refusal → ℕ → Type 0) (first ok : Bool) (number : Refusal) (place : ℕ) (later : Refusal) (r : Read) → F number place → F later 0 → Faulty F (cond first (unless ok later 0 r) (refused number place))
by_tests F true ok number place later r f g = by-test F ok later 0 r g
by_tests F false ok number place later r f g = f

piece-fault : (q : Role) (from : ℕ) (w : List ℕ) (r : Read) → Faulty (Fault q from) (read_piece q from w r)
unfolding read_piece with_new with_event with_name with_clause with_check
piece-fault other from w r = tt
piece-fault new_name from w r = by-test (Fault new_name from) (is_new r.names w) Script from (renamed r w) (of-name tt)
piece-fault first_name from w r = by-test (Fault first_name from) (is_declared r.names w) Script from (found false (event_of r.names w) r) (of-name tt)
piece-fault second_name from w r = by_tests (Fault second_name from) (is_declared r.names w) (not (eqb (event_of r.names w) r.x)) Script from Itself (found true (event_of r.names w) r) (of-name tt) of_pair
piece-fault bound_digit from w r = by-bound bound_digit from false (unsigned_of most_bound w) r
piece-fault negated_digit from w r = by-bound negated_digit from true (unsigned_of most_bound w) r
piece-fault declaration_end from w r = by-test (Fault declaration_end from) (leb (length (named r).names) most_events) Events 0 (named r) of-events
piece-fault assert_end from w r = by_tests (Fault assert_end from) (leb (length (claused r).counts) most_clauses) (leb (length r.triples) (3 * most_alternatives)) Clauses 0 Triples (claused r) of-clauses of-alternatives
piece-fault check_end from w r = by-test (Fault check_end from) (leb 1 (length r.names)) Events 0 r of-events

-- ---- the first of them
-- a refusal of pieces: 20 at a name among them, or another and no place
abbrev pub FaultIn : List Piece → Refusal → ℕ → Type 0
FaultIn ps e place = ((e ≡ Script) × NameAt place ps) ⊎ ((e ≡ Script → ⊥) × (place ≡ 0))

of_one : (q : Piece) (ps : List Piece) {e : Refusal} {place : ℕ} → Fault q.role q.from e place → FaultIn (q ∷ ps) e place
of_one q ps (of-name n) = inl (refl, inl (n, refl))
of_one q ps of_pair = inr (λ e. cc, refl)
of_one q ps of-bound = inr (λ e. cc, refl)
of_one q ps of-events = inr (λ e. cc, refl)
of_one q ps of-clauses = inr (λ e. cc, refl)
of_one q ps of-alternatives = inr (λ e. cc, refl)

later : (q : Piece) (ps : List Piece) (e : Refusal) (place : ℕ) → FaultIn ps e place → FaultIn (q ∷ ps) e place
later q ps e place (inl (d, n)) = inl (d, inr n)
later q ps e place (inr f) = inr f

all-faults : (ps : List Piece) (r : Read) → Faulty (FaultIn ps) (read_all ps r)
unfolding read_all
all-faults [] r = tt
all-faults (q ∷ ps) r = go (read_piece q.role q.from q.word r) (piece-fault q.role q.from q.word r) (λ x. all-faults ps x)
  where
    more : (a : Answer) → Faulty (FaultIn ps) a → Faulty (FaultIn (q ∷ ps)) a
    more (going x) f = tt
    more (refused number place) f = later q ps number place f

    go : (a : Answer) → Faulty (Fault q.role q.from) a → ((x : Read) → Faulty (FaultIn ps) (read_all ps x)) → Faulty (FaultIn (q ∷ ps)) (and_then a (λ x. read_all ps x))
    go (going x) f rest = more (read_all ps x) (rest x)
    go (refused number place) f rest = of_one q ps f

-- every refusal has a number
pub refusal-numbered : (text : List ℕ) (at : ℕ) (e : Refusal) (place : ℕ) → answer_at text at ≡ refused e place → 0 < number_of e
refusal-numbered text at e place q = number-above e

-- ---- the claim
-- the place of a refusal: where the text does not go on, or where a name begins; 0 with every number but 20
pub data Placed (text : List ℕ) : Refusal → ℕ → Type 0 where
  not_on : {p : ℕ} → RefusedAt script text p → Placed text Script p
  at_name : {p : ℕ} → NameAt p (pieces 0 script text) → Placed text Script p
  no_place : {e : Refusal} → (e ≡ Script → ⊥) → Placed text e 0

pub refusal-placed : (text : List ℕ) (e : Refusal) (place : ℕ) → answer_at text 0 ≡ refused e place → Placed text e place
unfolding answer_at settled
refusal-placed text e place q = go (place_from 0 script text) (refused-refused text) (read_all (pieces 0 script text) nothing_read) (all-faults (pieces 0 script text) nothing_read) q
  where
    of-pieces : (k : Refusal) (p : ℕ) → FaultIn (pieces 0 script text) k p → Placed text k p
    of-pieces k p (inl (d, n)) = subst (λ (j : Refusal). Placed text j p) (sym d) (at_name n)
    of-pieces k p (inr (d, z)) = subst (λ (j : ℕ). Placed text k j) (sym z) (no_place d)

    same : {k : Refusal} {p : ℕ} → refused k p ≡ refused e place → Placed text k p → Placed text e place
    same {k} {p} d f = let a : k ≡ e = cc in let b : p ≡ place = cc in subst (λ (j : Refusal). Placed text j place) a (subst (λ (j : ℕ). Placed text k j) b f)

    apart : (r : Read) → going r ≡ refused e place → ⊥
    apart r d = never (cc)

    go : (o : Option ℕ) → ((p : ℕ) → o ≡ some p → RefusedAt script text p) → (a : Answer) → Faulty (FaultIn (pieces 0 script text)) a → settled o a ≡ refused e place → Placed text e place
    go none f (going r) h d = absurd (apart r d)
    go none f (refused k p) h d = same d (of-pieces k p h)
    go (some p) f (going r) h d = same d (not_on (f p refl))
    go (some p) f (refused k q) h d = same d (of-pieces k q h)
