-- `script::script_of` meets its contract: field by field, the notes stand for what was read. Assumes nothing.
use mathlib.Core.Path.{◌≡◌, sym, ap, ◌∙◌}
use mathlib.Core.List.{List}
use Prim.Native.Nat.{ℕ}
use native.Mathlib.Omega.{arith}
use borrow.Author.Rules.{rules}
use lib.IntN.{ℤ}
use lib.ListN.{length}
use Rattle.std.specs.Prelude.{Result, Ok}
use Rattle.meaning.specs.Limits.{most_events}
use Rattle.script.specs.declared.Script.{Script}
use Rattle.script.specs.declared.Refused.{Refused}
use Rattle.script.specs.Script.{told}
use Rattle.script.proofs.Declaring.{names-count}
use Rattle.script.proofs.plain.script_of.Goals as goal

same-fields : {n n' k k' m m' : ℕ} {t t' : List ℤ} {e e' : List ℕ} → n ≡ n' → k ≡ k' → t ≡ t' → m ≡ m' → e ≡ e'
    → ◌≡◌ {A = Result Script Refused} (Ok (record { n = n; rules = record { alternatives = k; triples = t; clauses = m; counts = e } })) (Ok (record { n = n'; rules = record { alternatives = k'; triples = t'; clauses = m'; counts = e' } }))
same-fields a b c d e = cc

pub returns : goal.returns
unfolding told
returns c =
    let r = c.args.notes in
    let spans : length r.names.spans ≡ most_events = search rules in
    record {
      says = λ text R a.
          let rules = a.rules-are in
          same-fields (sym (names-count text r.names c.requires spans) ∙ ap length a.names-are) (omega (arith, rules.many-are)) rules.triples-are (sym rules.clauses-are) rules.counts-are;
    }
