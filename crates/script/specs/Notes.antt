-- What the code keeps of what was read, and that it stands for it. Cited by inner contracts only. Definitions only.
use Rattle.std.specs.Prelude.{◌≡◌, Bool, true, false, List, [], ◌∷◌, ◌++◌, ℕ, ◌+◌, ◌*◌, ◌≤◌, ◌<◌, ℤ, pos, length, map, take, All, Option, Some, None, Result, Ok, Err, IfOk, MatchResult}
use Rattle.std.proofs.Math.Seq.{slice}
use Rattle.meaning.specs.Limits.{most_events, most_clauses}
use Rattle.script.specs.declared.Script.{Script}
use Rattle.script.specs.declared.names.Names.{Names}
use Rattle.script.specs.declared.names.Span.{Span}
use Rattle.script.specs.declared.rules.Rules.{Rules}
use Rattle.script.specs.declared.reading.Notes.{Notes}
use Rattle.script.specs.declared.Refused.{Refused}
use Rattle.script.specs.Words.{event_of}
use Rattle.script.specs.Reading.{Read, Answer, going, refused, nothing_read}
use Rattle.script.specs.Script.{in_triples, in_counts, told}

-- ---- names
-- the word that stands in a text there
abbrev pub word_at : List ℕ → Span → List ℕ
word_at text s = slice s.from s.to text

-- it lies within the text
pub record Lies (text : List ℕ) (s : Span) : Type 0 where
  pub order : s.from ≤ s.to
  pub inside : s.to ≤ length text

abbrev pub names_of : List ℕ → Names → List (List ℕ)
names_of text names = map (word_at text) (take names.n names.spans)

-- all of them do
pub record Within (text : List ℕ) (names : Names) : Type 0 where
  pub few : names.n ≤ most_events
  pub lie : All (Lies text) (take names.n names.spans)

-- the event of the word among the names; None where it is none of them
abbrev pub Finds : List (List ℕ) → List ℕ → Option ℕ → Type 0
Finds names w None = event_of names w ≡ length names
Finds names w (Some k) = (event_of names w ≡ k) × (k < length names)

-- in whatever text they lie, these are the names and one more
pub record Gains (r : Names) (name : Span) (s : Names) : Type 0 where
  pub one_more : s.n ≡ r.n + 1
  pub within : (text : List ℕ) → Within text r → Lies text name → Within text s
  pub named : (text : List ℕ) → Within text r → names_of text s ≡ names_of text r ++ (word_at text name ∷ [])

-- ---- rules
pub record RulesAre (r : Rules) (triples : List ℤ) (counts : List ℕ) : Type 0 where
  pub triples-are : r.triples ≡ in_triples triples
  pub many-are : length triples ≡ r.alternatives * 3
  pub counts-are : r.counts ≡ in_counts counts
  pub clauses-are : length counts ≡ r.clauses

-- whatever the rules stand for, with one alternative more
pub record Adds (r : Rules) (x y : ℕ) (c : ℤ) (s : Rules) : Type 0 where
  pub one_more : s.alternatives ≡ r.alternatives + 1
  pub same-clauses : s.clauses ≡ r.clauses
  pub stands : (triples : List ℤ) (counts : List ℕ) → RulesAre r triples counts → RulesAre s (triples ++ (pos x ∷ pos y ∷ c ∷ [])) counts

-- whatever the rules stand for, with one clause more
pub record Ends (r s : Rules) : Type 0 where
  pub same-many : s.alternatives ≡ r.alternatives
  pub one_more : s.clauses ≡ r.clauses + 1
  pub stands : (triples : List ℤ) (counts : List ℕ) → RulesAre r triples counts → RulesAre s triples (counts ++ (r.alternatives ∷ []))

-- ---- all of it
-- at a place of the text: the names and the open name lie within it, and there are no more alternatives than bytes before the place
pub record Kept (text : List ℕ) (at : ℕ) (r : Notes) : Type 0 where
  pub names-within : Within text r.names
  pub new-within : Lies text r.new
  pub few-clauses : r.rules.clauses ≤ most_clauses
  pub few : r.rules.alternatives ≤ at

-- the notes stand for what was read
pub record Stands (text : List ℕ) (r : Notes) (R : Read) : Type 0 where
  pub names-are : names_of text r.names ≡ R.names
  pub new_is : word_at text r.new ≡ R.new
  pub x-is : r.x ≡ R.x
  pub y-is : r.y ≡ R.y
  pub rules-are : RulesAre r.rules R.triples R.counts

-- with the event of the open atom's first name, or of its second
unfoldable pub noted : Bool → ℕ → Notes → Notes
noted false event r = record { names = r.names; new = r.new; x = event; y = r.y; rules = r.rules }
noted true event r = record { names = r.names; new = r.new; x = r.x; y = event; rules = r.rules }

-- nothing was read, in whatever text
pub record Blank (r : Notes) : Type 0 where
  pub kept : (text : List ℕ) (at : ℕ) → Kept text at r
  pub stands : (text : List ℕ) → Stands text r nothing_read

-- whatever the notes stand for, the script says it
pub record Says (r : Notes) (s : Script) : Type 0 where
  pub says : (text : List ℕ) (R : Read) → Stands text r R → Ok s ≡ told (going R)

-- what is told of an answer: its refusal, or notes that stand for it
abbrev pub Tells : List ℕ → Answer → Result Notes Refused → Type 0
Tells text (going R) g = MatchResult g (λ r. Stands text r R) (λ e. ⊥)
Tells text (refused e place) g = g ≡ Err (record { refusal = e; place = place })

-- a piece is to be read: it lies within the text, and the notes are kept
pub record Ready (text : List ℕ) (piece : Span) (r : Notes) : Type 0 where
  pub some : piece.from < piece.to
  pub inside : piece.to ≤ length text
  pub kept : Kept text piece.from r

-- a piece up to a place was read: whatever the notes stood for, g tells what it makes of it
pub record Took (text : List ℕ) (read : Read → Answer) (r : Notes) (to : ℕ) (g : Result Notes Refused) : Type 0 where
  pub kept : IfOk g (Kept text to)
  pub tells : (R : Read) → Stands text r R → Tells text (read R) g

-- the same of a piece whose bytes do not matter, in every text
pub record Makes (read : Read → Answer) (r : Notes) (g : Result Notes Refused) : Type 0 where
  pub took : (text : List ℕ) (piece : Span) → Ready text piece r → Took text read r piece.to g
