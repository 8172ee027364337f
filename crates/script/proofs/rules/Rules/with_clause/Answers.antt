-- `script::Rules::with_clause` meets its contract: the count stands in the first place left. Assumes nothing.
use mathlib.Core.Path.{refl, sym, ap, ◌∙◌}
use mathlib.Core.List.{List}
use Prim.Native.Nat.{ℕ, ◌<◌}
use native.Mathlib.Omega.{arith}
use lib.ListN.{set, length-append}
use Rattle.meaning.specs.Limits.{most_clauses}
use Rattle.script.proofs.Fitting.{one-fitted}
use Rattle.script.proofs.rules.Rules.with_clause.Goals as goal

pub returns : goal.returns
returns c =
    let r = c.args.self in
    let room : r.clauses < most_clauses = omega arith in
    record {
      same-many = refl;
      one_more = refl;
      stands = λ triples counts s.
          record {
            triples-are = s.triples-are;
            many-are = s.many-are;
            counts-are = ap (λ (l : List ℕ). set l r.clauses r.alternatives) s.counts-are ∙ one-fitted 0 most_clauses counts r.alternatives r.clauses (sym s.clauses-are) room;
            clauses-are = simp length-append (omega (arith, s.clauses-are));
          };
    }
