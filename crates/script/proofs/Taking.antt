-- What a piece makes of the notes: a refusal, or notes that stand for what was read with it. Assumes nothing.
use mathlib.Core.Path.{◌≡◌, sym, ap, subst}
use mathlib.Core.Bool.{Bool, true, false}
use mathlib.Core.List.{List, [], ◌∷◌, ◌++◌}
use Prim.Native.Nat.{ℕ, ◌*◌, ◌/◌, ◌≤◌, ◌<◌}
use native.Mathlib.Omega.{arith}
use lib.IntN.{pos}
use lib.ListN.{length, length-append}
use borrow.Author.Tests.{lt-leb, le-leb, lt-ltb, le-ltb}
use Rattle.meaning.specs.declared.Refusal.{Refusal}
use Rattle.meaning.specs.declared.Refusal.TheVariants.{Events, Clauses, Triples, Bound, Itself, Script}
use Rattle.meaning.specs.Limits.{most_events, most_clauses, most_alternatives}
use Rattle.std.specs.Prelude.{Option as Spelt, None, Some, Ok, Err}
use Rattle.script.specs.declared.names.Span.{Span}
use Rattle.script.specs.declared.reading.Notes.{Notes}
use Rattle.script.specs.declared.Refused.{Refused}
use Rattle.script.specs.Words.{event_of, is_new}
use Rattle.script.specs.Reading.{Read, Answer, going, refused, signed, with_new, found, is_again, with_event, with_bound, with_name, with_clause}
use Rattle.script.specs.Notes.{Lies, Kept, Stands, noted, Tells, Ready, Took}

-- ---- what was read, with a name
abbrev pub renamed : Read → List ℕ → Read
renamed R w = record { names = R.names; new = w; x = R.x; y = R.y; triples = R.triples; counts = R.counts }

-- ---- what a piece of each role gives, by what was read before
module _ (R : Read) where
  -- ---- names
  module _ (from : ℕ) (w : List ℕ) where
    pub new-refused : is_new R.names w ≡ false → with_new from w R ≡ refused Script from
    unfolding with_new
    new-refused e = rw e

    pub new-taken : is_new R.names w ≡ true → with_new from w R ≡ going (renamed R w)
    unfolding with_new
    new-taken e = rw e

    module _ (second : Bool) where
      pub event-refused : length R.names ≤ event_of R.names w → with_event second from w R ≡ refused Script from
      unfolding with_event
      event-refused h = rw (le-ltb (event_of R.names w) (length R.names) h)

      module _ (h : event_of R.names w < length R.names) where
        pub event-again : is_again second R.x (event_of R.names w) ≡ true → with_event second from w R ≡ refused Itself 0
        unfolding with_event
        event-again e = rw (lt-ltb (event_of R.names w) (length R.names) h, e)

        pub event-taken : is_again second R.x (event_of R.names w) ≡ false → with_event second from w R ≡ going (found second (event_of R.names w) R)
        unfolding with_event
        event-taken e = rw (lt-ltb (event_of R.names w) (length R.names) h, e)

  -- ---- bounds and ends
  pub name-refused : most_events ≤ length R.names → with_name R ≡ refused Events 0
  unfolding with_name
  name-refused h = rw (lt-leb (length (R.names ++ (R.new ∷ []))) most_events (simp (length-append) (omega arith)))

  abbrev pub named : Read
  named = record { names = R.names ++ (R.new ∷ []); new = R.new; x = R.x; y = R.y; triples = R.triples; counts = R.counts }

  pub name-taken : length R.names < most_events → with_name R ≡ going named
  unfolding with_name
  name-taken h = rw (le-leb (length (R.names ++ (R.new ∷ []))) most_events (simp (length-append) (omega arith)))

  abbrev pub bounded : Bool → ℕ → Read
  bounded negated v =
      record { names = R.names; new = R.new; x = R.x; y = R.y; triples = R.triples ++ (pos R.x ∷ pos R.y ∷ signed negated v ∷ []); counts = R.counts }

  pub bound-taken : (negated : Bool) (v : ℕ) (o : Spelt ℕ) → o ≡ Some v → with_bound negated o R ≡ going (bounded negated v)
  unfolding with_bound
  bound-taken negated v o e = rw e

  pub bound-refused : (negated : Bool) (o : Spelt ℕ) → o ≡ None → with_bound negated o R ≡ refused Bound 0
  unfolding with_bound
  bound-refused negated o e = rw e

  abbrev closed : List ℕ
  closed = R.counts ++ (length R.triples / 3 ∷ [])

  pub clause-refused : most_clauses ≤ length R.counts → with_clause R ≡ refused Clauses 0
  unfolding with_clause
  clause-refused h = rw (lt-leb (length closed) most_clauses (simp (length-append) (omega arith)))

  pub clause-too-long : length R.counts < most_clauses → 3 * most_alternatives < length R.triples → with_clause R ≡ refused Triples 0
  unfolding with_clause
  clause-too-long h k = rw (le-leb (length closed) most_clauses (simp (length-append) (omega arith)), lt-leb (length R.triples) (3 * most_alternatives) k)

  abbrev pub claused : Read
  claused = record { names = R.names; new = R.new; x = R.x; y = R.y; triples = R.triples; counts = closed }

  pub clause-taken : length R.counts < most_clauses → length R.triples ≤ 3 * most_alternatives → with_clause R ≡ going claused
  unfolding with_clause
  clause-taken h k = rw (le-leb (length closed) most_clauses (simp (length-append) (omega arith)), le-leb (length R.triples) (3 * most_alternatives) k)

-- ---- a piece is read
module _ (text : List ℕ) (piece : Span) (r : Notes) (ready : Ready text piece r) where
  -- the piece is a word of the text
  pub piece-lies : Lies text piece
  piece-lies = record { order = omega (arith, ready.some); inside = ready.inside }

  -- the notes are kept at the piece's end too
  pub kept_on : Kept text piece.to r
  kept_on =
      let k = ready.kept in
      record { names-within = k.names-within; new-within = k.new-within; few-clauses = k.few-clauses; few = omega (arith, k.few, ready.some) }

  -- it is refused
  pub took-refused : (read : Read → Answer) (e : Refusal) (place : ℕ) {d : Refused} → d ≡ record { refusal = e; place = place } → ((R : Read) → Stands text r R → read R ≡ refused e place) → Took text read r piece.to (Err d)
  took-refused read e place {d} q f = record { kept = tt; tells = λ R s. subst (λ (a : Answer). Tells text a (Err d)) (sym (f R s)) (ap Err q) }

  -- it is taken, and leaves other notes
  pub took-going : (read : Read → Answer) (next : Notes) (made : Read → Read) → Kept text piece.to next → ((R : Read) → Stands text r R → read R ≡ going (made R)) → ((R : Read) → Stands text r R → Stands text next (made R)) → Took text read r piece.to (Ok next)
  took-going read next made k f g = record { kept = k; tells = λ R s. subst (λ (a : Answer). Tells text a (Ok next)) (sym (f R s)) (g R s) }

-- ---- the event of an atom's name
module _ (text : List ℕ) (event : ℕ) where
  pub noted-kept : (second : Bool) (at : ℕ) (r : Notes) → Kept text at r → Kept text at (noted second event r)
  unfolding noted
  noted-kept false at r k = record { names-within = k.names-within; new-within = k.new-within; few-clauses = k.few-clauses; few = k.few }
  noted-kept true at r k = record { names-within = k.names-within; new-within = k.new-within; few-clauses = k.few-clauses; few = k.few }

  pub noted-stands : (second : Bool) (r : Notes) (R : Read) (e : ℕ) → event ≡ e → Stands text r R → Stands text (noted second event r) (found second e R)
  unfolding noted
  noted-stands false r R e q s = record { names-are = s.names-are; new_is = s.new_is; x-is = q; y-is = s.y-is; rules-are = s.rules-are }
  noted-stands true r R e q s = record { names-are = s.names-are; new_is = s.new_is; x-is = s.x-is; y-is = q; rules-are = s.rules-are }
