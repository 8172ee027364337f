-- `problem::loading::starts_of` meets its contract: after k turns 0 and the first k counts stand in it.
use mathlib.Core.Path.{◌≡◌, refl, ap, ◌∙◌}
use mathlib.Core.List.{List, ◌∷◌, ◌++◌}
use Prim.Native.Nat.{ℕ, suc, ◌≤◌, ◌<◌, ◌-◌, ◌+◌}
use native.Mathlib.Omega.{arith}
use lib.ListN.{length, get_or, take, drop, replicate, set}
use lib.Seq.{take_all}
use Rattle.meaning.specs.Limits.{most_clauses}
use Rattle.laws.proofs.Lists.{drop-replicate}
use Rattle.lent.proofs.Writing.{write-more}
use Rattle.problem.specs.Loaded.{placed}
use Rattle.problem.proofs.loading.starts_of.Goals as goal

-- a turn, and the end
more : (k : ℕ) (starts counts : List ℕ) → starts ≡ 0 ∷ (take k counts ++ drop k (replicate most_clauses 0)) → k < length counts → length counts ≤ most_clauses → set starts (k + 1) (get_or counts k 0) ≡ 0 ∷ (take (k + 1) counts ++ drop (k + 1) (replicate most_clauses 0))
more k starts counts e h few =
    let next : k + 1 ≡ suc k = omega arith in
    rw (e, next) (ap (λ (l : List ℕ). 0 ∷ l) (rw next at (write-more k (get_or counts k 0) 0 _ counts (replicate most_clauses 0) refl h (omega arith) refl)))

all-written : (k : ℕ) (starts counts : List ℕ) → starts ≡ 0 ∷ (take k counts ++ drop k (replicate most_clauses 0)) → k ≡ length counts → starts ≡ placed 0 (suc most_clauses) (0 ∷ counts)
all-written k starts counts e h =
    let q : most_clauses - length counts ≡ suc most_clauses - suc (length counts) = omega arith in
    e ∙ rw (h, take_all (length counts) counts (omega arith), drop-replicate {A = ℕ} (length counts) most_clauses 0) (ap (λ (r : ℕ). 0 ∷ (counts ++ replicate r 0)) q)

pub overflow_cast-starts : goal.overflow_cast-starts
overflow_cast-starts c = omega (arith, c.requires.1 c.loop-k.k (omega arith))

pub loop-k-preserved : goal.loop-k-preserved
loop-k-preserved c = more c.loop-k.k c.loop-k.starts c.args.counts.now c.loop-k.invariant (omega arith) (omega arith)

pub returns : goal.returns
returns c = all-written c.loop-k.k c.loop-k.starts c.args.counts.now c.loop-k.invariant (omega arith)
