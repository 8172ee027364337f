-- A script read piece by piece: what remains, read from what was read, gives the same answer. Assumes nothing.
use mathlib.Core.Path.{◌≡◌, refl, ap, ap₂, ◌∙◌}
use mathlib.Core.Bool.{true, false, cond}
use mathlib.Core.List.{List}
use mathlib.Core.Option.{Option, none, some}
use Prim.Native.Nat.{ℕ, ◌≤◌, ◌<◌}
use lib.ListN.{length, drop, drop_of_length-le}
use lib.Seq.{slice}
use Rattle.grammar.specs.Grammar.{Role, script}
use Rattle.grammar.specs.Place.{ends, place_from}
use Rattle.grammar.specs.Pieces.{Piece, pieces}
use Rattle.grammar.specs.States.{grammar_of}
use Rattle.grammar.specs.Automaton.{NoPiece, IsPiece}
use Rattle.grammar.specs.Roles.{meant}
use Rattle.grammar.specs.declared.pieces.Part.{Part}
use Rattle.laws.proofs.Tests.{never}
use Rattle.meaning.specs.declared.Refusal.{Refusal}
use Rattle.meaning.specs.declared.Refusal.TheVariants.{Script}
use Rattle.std.specs.Prelude.{Result, Ok, Err}
use Rattle.script.specs.declared.reading.Notes.{Notes}
use Rattle.script.specs.declared.Refused.{Refused}
use Rattle.script.specs.Reading.{Read, Answer, going, refused, and_then, read_piece, read_all, settled, nothing_read, answer_at}
use Rattle.script.specs.Notes.{Kept, Stands, Blank, Tells, Took}

-- at the place i and a state: the answer is what remains, read from what the notes stand for
pub record Going (text : List ℕ) (at i state : ℕ) (r : Notes) : Type 0 where
  pub kept : Kept text i r
  pub read : Read
  pub stands : Stands text r read
  pub same : answer_at text at ≡ settled (place_from i (grammar_of state) (drop i text)) (read_all (pieces i (grammar_of state) (drop i text)) read)

-- at the beginning, all remains
pub begins : (text : List ℕ) (at : ℕ) (r : Notes) → grammar_of 1 ≡ script → Blank r → Going text at at 1 r
unfolding answer_at
begins text at r e b =
    record {
      kept = b.kept text at;
      read = nothing_read;
      stands = b.stands text;
      same = rw e;
    }

-- a fault is the answer, whatever the grammar says
settled-refused : (o : Option ℕ) (e : Refusal) (place : ℕ) → settled o (refused e place) ≡ refused e place
unfolding settled
settled-refused none e place = refl
settled-refused (some p) e place = refl

module _ (text : List ℕ) (at i state : ℕ) (r : Notes) (g : Going text at i state r) where
  -- ---- no piece
  module _ (none-there : NoPiece text i state) where
    nothing-more : answer_at text at ≡ settled (place_from i (grammar_of state) (drop i text)) (going g.read)
    unfolding read_all
    nothing-more = g.same ∙ rw none-there.no_more

    pub stuck : i < length text → answer_at text at ≡ refused Script i
    unfolding settled
    stuck h = nothing-more ∙ rw (none-there.stuck h)

    at-end : length text ≤ i → place_from i (grammar_of state) (drop i text) ≡ cond (ends (grammar_of state)) none (some i)
    unfolding place_from
    at-end h = rw (drop_of_length-le text h)

    pub breaks-off : length text ≤ i → ends (grammar_of state) ≡ false → answer_at text at ≡ refused Script i
    unfolding settled
    breaks-off h e = nothing-more ∙ rw (at-end h, e)

    pub ended : length text ≤ i → ends (grammar_of state) ≡ true → answer_at text at ≡ going g.read
    unfolding settled
    ended h e = nothing-more ∙ rw (at-end h, e)

  -- ---- a piece
  module _ (part : Part) (there : IsPiece text i state part) where
    abbrev ρ : Role
    ρ = meant part.role

    abbrev w : List ℕ
    w = slice i part.to text

    abbrev rest : Option ℕ
    rest = place_from part.to (grammar_of part.state) (drop part.to text)

    abbrev others : Read → Answer
    others q = read_all (pieces part.to (grammar_of part.state) (drop part.to text)) q

    this-then : answer_at text at ≡ settled rest (and_then (read_piece ρ i w g.read) others)
    unfolding read_all
    this-then = g.same ∙ ap₂ settled there.same_place (ap (λ (ps : List Piece). read_all ps g.read) there.the-piece)

    pub piece-refused : (d : Refused) → Took text (read_piece ρ i w) r part.to (Err d) → answer_at text at ≡ refused d.refusal d.place
    piece-refused d took = go (read_piece ρ i w g.read) (took.tells g.read g.stands) this-then
      where
        go : (a : Answer) → Tells text a (Err d) → answer_at text at ≡ settled rest (and_then a others) → answer_at text at ≡ refused d.refusal d.place
        go (going R) t e = absurd t
        go (refused f place) t e = e ∙ settled-refused rest f place ∙ same t
          where
            same : ◌≡◌ {A = Result Notes Refused} (Err d) (Err (record { refusal = f; place = place })) → refused f place ≡ refused d.refusal d.place
            same q = cc

    pub piece-taken : (next : Notes) → Took text (read_piece ρ i w) r part.to (Ok next) → Going text at part.to part.state next
    piece-taken next took = go (read_piece ρ i w g.read) (took.tells g.read g.stands) this-then
      where
        go : (a : Answer) → Tells text a (Ok next) → answer_at text at ≡ settled rest (and_then a others) → Going text at part.to part.state next
        go (going R) t e = record { kept = took.kept; read = R; stands = t; same = e }
        go (refused f place) t e = absurd (apart t)
          where
            apart : ◌≡◌ {A = Result Notes Refused} (Ok next) (Err (record { refusal = f; place = place })) → ⊥
            apart q = never (cc)
