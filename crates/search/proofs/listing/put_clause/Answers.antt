-- `search::listing::put_clause` meets its contract: the cycle rows of the alternatives passed are kept, and those to come are dead. Assumes nothing.
use mathlib.Core.Path.{◌≡◌, sym, ap, ◌∙◌, subst}
use mathlib.Core.Bool.{false}
use mathlib.Core.List.{List, ◌∷◌, map}
use Prim.Native.Nat.{ℕ, ◌+◌, ◌-◌, ◌<◌}
use native.Mathlib.Omega.{arith}
use native.Mathlib.Numerals.{add-one}
use Rattle.meaning.specs.Limits.{row_bytes}
use Rattle.meaning.specs.Problem.{Alternative}
use Rattle.meaning.specs.Decision.{sound}
use Rattle.meaning.specs.Search.{cycle, dead}
use Rattle.meaning.specs.Listing.{row_of}
use Rattle.problem.specs.Arcs.{Net, at, arc, arcs_from}
use Rattle.problem.specs.declared.Problem.{Problem}
use Rattle.problem.specs.Laid.{arcs}
use Rattle.problem.proofs.Laying.{clause-ends, size-most}
use Rattle.problem.proofs.Knowing.{known_more}
use Rattle.facts.specs.Tests.{Within}
use Rattle.held.specs.Held.{facts_in}
use Rattle.taking.specs.Tables.{IsDay}
use Rattle.taking.proofs.Taking.{table-small}
use Rattle.search.specs.Listing.{put_row, Keeps}
use Rattle.search.proofs.Numbers.{clause-next}
use Rattle.search.proofs.Dead.{dead-all}
use Rattle.search.proofs.Keeping.{keeps-none, keep-cycle}
use Rattle.search.proofs.Asides.{older-put}
use Rattle.search.proofs.listing.put_clause.Goals as goal

-- no cycle row is kept yet
none_kept : (bytes : List ℕ) (count : ℕ) (g : Net) (j : ℕ) (fs : List Alternative) → Keeps bytes bytes count (map (λ a. cycle (a ∷ fs)) (arcs_from g j (j - j)))
unfolding arcs_from
none_kept bytes count g j fs =
    subst (λ (n : ℕ). Keeps bytes bytes count (map (λ a. cycle (a ∷ fs)) (arcs_from g j n))) (let e : 0 ≡ j - j = omega arith in e) (keeps-none bytes count)

-- the facts held with one of the clause's alternatives more
within_put : (p : Problem) {d j : ℕ} {fs L : List ℕ} → d < p.m → j < at p.starts (d + 1) → Within (arcs p) fs p.n → L ≡ j ∷ fs → Within (arcs p) L p.n
within_put p {d} {j} {fs} h l w e =
    subst (λ (L : List ℕ). Within (arcs p) L p.n) (sym e) (record { known = known_more (arcs p) p.n j fs (p.laid.alternative j (omega (arith, clause-next p d h, clause-ends p d h))) w.known; few = w.few })

pub loop-j-init : goal.loop-j-init
loop-j-init g c =
    record {
      kept = none_kept _ _ _ _ _;
      left = ap (λ (e : ℕ). dead sound (facts_in c.args.p.now c.args.f.now) (arcs_from (arcs c.args.p.now) (at c.args.p.now.starts c.args.d) (at c.args.p.now.starts e - at c.args.p.now.starts c.args.d))) (add-one c.args.d) ∙ c.requires.5;
    }

pub put_closing-requires : goal.put_closing-requires
put_closing-requires g c =
    let p = c.args.p.now in
    let (all, row) = table-small g.row.W c.requires.2 in (
      all,
      (
        row,
        (
          within_put p c.requires.4 c.loop-j-test.true c.requires.0.within c.put.ensures.0,
          omega (arith, c.put.ensures.1, c.args.f.now.fits),
          subst (λ (L : List ℕ). sound (map (arc (arcs p)) L) ≡ false) (sym c.put.ensures.0) (dead-all _ _ _ _ c.loop-j-test.true c.loop-j.invariant.left).0,
          c.requires.1,
          c.requires.2,
          subst (λ (L : List ℕ). IsDay g.row.W (map (arc (arcs p)) L) c.args.day.now) (sym (older-put c.args.f.now c.put.new.self c.loop-j.j c.put.ensures.0)) c.requires.3,
          omega (arith, c.requires.6, c.from.ensures, clause-next p c.args.d c.requires.4, size-most p c.args.d c.requires.4),
        ),
      ),
    )

pub loop-j-preserved : goal.loop-j-preserved
loop-j-preserved g c =
    let l = c.loop-j in
    let x = cycle (arc (arcs c.args.p.now) l.j ∷ facts_in c.args.p.now c.args.f.now) in
    let k = c.args.rows + c.from.result in
    let put : c.put_closing.new.reasons ≡ put_row l.reasons k (row_of row_bytes x) = c.put_closing.ensures ∙ ap (λ (L : List ℕ). put_row l.reasons k (row_of row_bytes (cycle (map (arc (arcs c.args.p.now)) L)))) c.put.ensures.0 in
    record {
      kept = subst (λ (r : List ℕ). Keeps c.args.reasons.now r c.args.rows (map (λ a. cycle (a ∷ facts_in c.args.p.now c.args.f.now)) (arcs_from (arcs c.args.p.now) (at c.args.p.now.starts c.args.d) (l.j + 1 - at c.args.p.now.starts c.args.d)))) (sym put) (keep-cycle _ _ _ _ _ _ _ _ l.invariant.kept (omega arith) (omega (arith, c.from.ensures)) (omega arith));
      left = (dead-all _ _ _ _ c.loop-j-test.true l.invariant.left).1;
    }

pub returns : goal.returns
returns g c =
    let l = c.loop-j in
    let up = clause-next c.args.p.now c.args.d c.requires.4 in
    let over : at c.args.p.now.starts (c.args.d + 1) ≡ l.j = omega (arith, up, l.auto.j-end (omega (arith, up))) in
    subst (λ (e : ℕ). Keeps c.args.reasons.now l.reasons c.args.rows (map (λ a. cycle (a ∷ facts_in c.args.p.now c.args.f.now)) (arcs_from (arcs c.args.p.now) (at c.args.p.now.starts c.args.d) (e - at c.args.p.now.starts c.args.d)))) (sym over ∙ ap (at c.args.p.now.starts) (add-one c.args.d)) l.invariant.kept
