-- What is left after a search is what the screen shows of the call. Assumes nothing.
use mathlib.Core.Path.{◌≡◌, refl, sym, ap, ap₂, ◌∙◌}
use mathlib.Core.Bool.{true, false}
use mathlib.Core.List.{List, [], ◌++◌}
use Prim.Native.Nat.{ℕ, zero, suc, ◌-◌, ◌*◌, ◌<◌, ◌≤◌}
use native.Mathlib.Decide.{dec_lt}
use native.Mathlib.Omega.{arith}
use borrow.Author.Tests.{le-leb, lt-leb}
use lib.IntN.{ℤ}
use lib.ListN.{length, replicate}
use Rattle.laws.proofs.Lists.{drop-replicate}
use Rattle.meaning.specs.declared.Answer.{Answer}
use Rattle.meaning.specs.declared.Answer.TheVariants.{Plan, None, Unlisted, Stopped, Refused}
use Rattle.meaning.specs.Limits.{row_bytes, blank_byte, no_time}
use Rattle.meaning.specs.Problem.{Clause}
use Rattle.meaning.specs.Plain.{chosen, product, rank}
use Rattle.meaning.specs.Decision.{sound, latest_of}
use Rattle.meaning.specs.Search.{Outcome, found, closed, stopped, search}
use Rattle.meaning.specs.Listing.{rows_in}
use Rattle.meaning.specs.Screen.{Input, refusal, Screen, cleared, listed, shown, decided, screen, Shows}
use Rattle.meaning.proofs.Deciding.{sound-decides}
use Rattle.meaning.proofs.First.{plan-first, none-holds, stop-place}
use Rattle.problem.specs.declared.Problem.{Problem}
use Rattle.problem.specs.Laid.{clauses_in}
use Rattle.search.specs.declared.Place.{Place}
use Rattle.search.specs.Steps.{positions, Found, Ended, Stopped as Halted}
use Rattle.search.proofs.Steps.{deep}
use Rattle.planner.specs.Call.{Accepts, Closes, Plans}

-- what is left is what the screen x says, where that is the screen
shows-as : (i : Input) (a : Answer) (t : List ℤ) (p r : List ℕ) (x : Screen) → screen i ≡ x → a ≡ x.answer → t ≡ x.times → p ≡ x.picks → r ≡ x.reasons → Shows i a t p r
shows-as i a t p r x e ea et ep er =
    record {
      answers = ea ∙ sym (ap (λ (s : Screen). s.answer) e);
      times-are = et ∙ sym (ap (λ (s : Screen). s.times) e);
      picks-are = ep ∙ sym (ap (λ (s : Screen). s.picks) e);
      reasons-are = er ∙ sym (ap (λ (s : Screen). s.reasons) e);
    }

-- a refused call
pub shows-refused : (i : Input) (k : ℕ) → k ≡ refusal i → (k ≡ 0 → ⊥) → Shows i (Refused k) (replicate i.times no_time) (replicate i.picks blank_byte) (replicate i.room blank_byte)
unfolding screen decided cleared
shows-refused i zero e n = absurd (n refl)
shows-refused i (suc k) e n = shows-as i (Refused (suc k)) _ _ _ (cleared i (Refused (suc k))) (ap (decided i) (sym e)) refl refl refl refl

module _ (p : Problem) (a : ℕ) (i : Input) (times picks room : ℕ) (accepts : Accepts i p a times picks room) where
  -- the screen is what the search of the problem by value shows
  shown-is : (o : Outcome) → search sound (clauses_in p) 0 [] a ≡ o → screen i ≡ shown i o
  unfolding screen decided
  shown-is o e =
      ap (decided i) accepts.taken
      ∙ ap (shown i) (ap₂ (λ (cs : List Clause) (v : ℕ). search sound cs 0 [] v) accepts.reads.clauses accepts.allows ∙ e)

  pub shows-stopped : (s : Place) → Halted p a (search sound (clauses_in p) 0 [] a) s → Shows i (Stopped s.visits (rank (clauses_in p) (positions s))) (replicate times no_time) (replicate picks blank_byte) (replicate room blank_byte)
  unfolding shown cleared
  shows-stopped s h =
      shows-as i _ _ _ _ (shown i (stopped h.before h.rows (positions s))) (shown-is (stopped h.before h.rows (positions s)) h.is)
      (ap₂ Stopped (h.spent ∙ sym accepts.allows) (sym (stop-place sound sound-decides (clauses_in p) a h.before h.rows (positions s) h.is).2))
      (ap (λ (m : ℕ). replicate m no_time) (sym accepts.has-times))
      (ap (λ (m : ℕ). replicate m blank_byte) (sym accepts.has-picks))
      (ap (λ (m : ℕ). replicate m blank_byte) (sym accepts.has_room))

  pub shows-plan : (s : Place) (answer : Answer) (day : List ℤ) (choice : List ℕ) → length s.standing.picks ≡ 32 → Found p a (search sound (clauses_in p) 0 [] a) s → Plans p s answer (replicate times no_time) day (replicate picks blank_byte) choice → Shows i answer day choice (replicate room blank_byte)
  unfolding shown
  shows-plan s answer day choice long h k =
      shows-as i answer day choice _ (shown i (found (positions s) h.before (a - s.visits))) (shown-is (found (positions s) h.before (a - s.visits)) h.is)
      (k.says ∙ ap₂ Plan (let z : s.visits ≡ i.allowance - (a - s.visits) = omega (arith, h.spent, accepts.allows) in z) (sym (plan-first sound sound-decides (clauses_in p) a (positions s) h.before (a - s.visits) h.is).1))
      (k.day ∙ ap₂ ◌++◌ (ap₂ (λ (n : ℕ) (cs : List Clause). latest_of n (chosen cs (positions s))) accepts.reads.events (sym accepts.reads.clauses)) (drop-replicate p.n times no_time ∙ ap₂ (λ (x y : ℕ). replicate (x - y) no_time) (sym accepts.has-times) accepts.reads.events))
      (k.choice ∙ ap (λ (r : List ℕ). positions s ++ r) (drop-replicate p.m picks blank_byte ∙ ap₂ (λ (x y : ℕ). replicate (x - y) blank_byte) (sym accepts.has-picks) (sym h.whole ∙ sym (deep p s.standing.picks s.standing.k h.inside long))))
      (ap (λ (m : ℕ). replicate m blank_byte) (sym accepts.has_room))

  -- none: the rows fit, or they don't
  module _ (s : Place) (reasons : List ℕ) (answer : Answer) (size : length reasons ≡ room) (blank : length reasons < s.rows * row_bytes → reasons ≡ replicate room blank_byte) (h : Ended p a (search sound (clauses_in p) 0 [] a) s reasons) (k : Closes p s (length reasons) answer) where
    visits-same : s.visits ≡ i.allowance - (a - s.visits)
    visits-same = omega (arith, h.spent, accepts.allows)

    before_same : product (clauses_in p) ≡ h.before
    before_same = sym (none-holds sound sound-decides (clauses_in p) a h.before h.rows (a - s.visits) h.is).1

    many : length h.rows * row_bytes ≡ s.rows * row_bytes
    many = ap (λ (n : ℕ). n * row_bytes) h.counted

    shows-listed : s.rows * row_bytes ≤ length reasons → Shows i answer (replicate times no_time) (replicate picks blank_byte) reasons
    unfolding shown listed
    shows-listed fit =
        shows-as i answer _ _ reasons (listed i (i.allowance - (a - s.visits)) h.before h.rows true) (shown-is (closed h.before h.rows (a - s.visits)) h.is ∙ ap (listed i (i.allowance - (a - s.visits)) h.before h.rows) (le-leb (length h.rows * row_bytes) i.room (omega (arith, many, accepts.has_room))))
        (k.fits fit ∙ none-same)
        (ap (λ (m : ℕ). replicate m no_time) (sym accepts.has-times))
        (ap (λ (m : ℕ). replicate m blank_byte) (sym accepts.has-picks))
        (h.kept.lists (omega (arith, many)) ∙ ap (λ (m : ℕ). rows_in row_bytes m h.rows) (size ∙ sym accepts.has_room))
      where
        none-same : None s.visits (product (clauses_in p)) s.rows ≡ None (i.allowance - (a - s.visits)) h.before (length h.rows)
        none-same = ap₂ (λ (v b : ℕ). None v b s.rows) visits-same before_same ∙ ap (None (i.allowance - (a - s.visits)) h.before) (sym h.counted)

    shows-unlisted : length reasons < s.rows * row_bytes → Shows i answer (replicate times no_time) (replicate picks blank_byte) reasons
    unfolding shown listed cleared
    shows-unlisted over =
        shows-as i answer _ _ reasons (listed i (i.allowance - (a - s.visits)) h.before h.rows false) (shown-is (closed h.before h.rows (a - s.visits)) h.is ∙ ap (listed i (i.allowance - (a - s.visits)) h.before h.rows) (lt-leb (length h.rows * row_bytes) i.room (omega (arith, many, accepts.has_room))))
        (k.over over ∙ ap₂ (λ (v b : ℕ). Unlisted v b s.rows) visits-same before_same ∙ ap (Unlisted (i.allowance - (a - s.visits)) h.before) (sym h.counted))
        (ap (λ (m : ℕ). replicate m no_time) (sym accepts.has-times))
        (ap (λ (m : ℕ). replicate m blank_byte) (sym accepts.has-picks))
        (blank over ∙ ap (λ (m : ℕ). replicate m blank_byte) (sym accepts.has_room))

    pub shows-none : Shows i answer (replicate times no_time) (replicate picks blank_byte) reasons
    shows-none = go (dec_lt (length reasons) (s.rows * row_bytes))
      where
        go : Dec (length reasons < s.rows * row_bytes) → Shows i answer (replicate times no_time) (replicate picks blank_byte) reasons
        go (yes o) = shows-unlisted o
        go (no o) = shows-listed (omega arith)
