-- What `read_script` gives for each answer, field by field. Definitions only.
use Rattle.std.specs.Prelude.{List, ◌++◌, ℕ, ◌*◌, ◌/◌, ℤ, pos, length, take, replicate, Result, Ok, Err}
use Rattle.meaning.specs.Limits.{most_clauses, most_alternatives}
use Rattle.meaning.specs.Screen.{Lent}
use Rattle.script.specs.declared.Script.{Script}
use Rattle.script.specs.declared.Refused.{Refused}
use Rattle.script.specs.Reading.{Answer, going, refused, answer_at}

-- the front of a list in w places, z in those left
abbrev pub fitted : {A : Type 0} → ℕ → A → List A → List A
fitted w z l = take w (l ++ replicate w z)

abbrev pub in_triples : List ℤ → List ℤ
in_triples l = fitted (3 * most_alternatives) (pos 0) l

abbrev pub in_counts : List ℕ → List ℕ
in_counts l = fitted most_clauses 0 l

-- what is read of a text, or why it is refused: "a refusal hands back no events and no clauses; unused numbers are 0"
unfoldable pub told : Answer → Result Script Refused
told (refused e place) = Err (record { refusal = e; place = place })
told (going r) =
    Ok (record {
      n = length r.names;
      rules = record { alternatives = length r.triples / 3; triples = in_triples r.triples; clauses = length r.counts; counts = in_counts r.counts };
    })

unfoldable pub script_at : List ℕ → ℕ → Result Script Refused
script_at text at = told (answer_at text at)

-- what `read_script` gives
abbrev pub script_in : List ℕ → Result Script Refused
script_in text = script_at text 0

-- the problem that the used front of its arrays says, as 01 has it lent
abbrev pub lent_in : Script → Lent
lent_in s = record { n = s.n; triples = take (3 * s.rules.alternatives) s.rules.triples; counts = take s.rules.clauses s.rules.counts }

-- a program that is handed a script "reads at most 65,536 bytes from standard input"
abbrev pub most_bytes : ℕ
most_bytes = 65536
