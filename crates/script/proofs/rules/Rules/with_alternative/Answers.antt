-- `script::Rules::with_alternative` meets its contract: the three numbers stand in the first places left, where there are any. Assumes nothing.
use mathlib.Core.Path.{◌≡◌, refl, sym, ◌∙◌}
use mathlib.Core.List.{List, [], ◌∷◌, ◌++◌}
use Prim.Native.Nat.{ℕ, ◌+◌, ◌*◌, ◌≤◌, ◌<◌}
use native.Mathlib.Omega.{arith}
use lib.IntN.{ℤ, pos}
use lib.ListN.{length, length-append}
use mir.Syntax.{w32}
use mir.Facts.{to_z_pos, to_z-of_z}
use Rattle.meaning.specs.Limits.{most_alternatives}
use Rattle.script.proofs.Fitting.{none-fitted, three-fitted}
use Rattle.script.proofs.rules.Rules.with_alternative.Goals as goal

-- three numbers more are one alternative more
counted : (l : List ℤ) (k : ℕ) (x y c : ℤ) → length l ≡ k * 3 → length (l ++ (x ∷ y ∷ c ∷ [])) ≡ (k + 1) * 3
counted l k x y c e = simp length-append (omega arith)

pub returns-then-at-ge-ALTERNATIVES : goal.returns-then-at-ge-ALTERNATIVES
returns-then-at-ge-ALTERNATIVES c =
    let full : most_alternatives ≤ c.args.self.alternatives = omega arith in
    record {
      one_more = refl;
      same-clauses = refl;
      stands = λ triples counts r.
          record {
            triples-are = r.triples-are ∙ sym (none-fitted (pos 0) 192 triples _ (omega (arith, r.many-are)));
            many-are = counted triples _ _ _ _ r.many-are;
            counts-are = r.counts-are;
            clauses-are = r.clauses-are;
          };
    }

pub returns : goal.returns
returns c =
    let room : c.args.self.alternatives < most_alternatives = omega arith in
    record {
      one_more = refl;
      same-clauses = refl;
      stands = λ triples counts r.
          record {
            triples-are =
                rw (to_z_pos w32 {n = c.args.x} (omega arith), to_z_pos w32 {n = c.args.y} (omega arith), to_z-of_z c.ranges.c, r.triples-are)
                (three-fitted triples c.args.self.alternatives (pos c.args.x) (pos c.args.y) c.args.c r.many-are room);
            many-are = counted triples _ _ _ _ r.many-are;
            counts-are = r.counts-are;
            clauses-are = r.clauses-are;
          };
    }
