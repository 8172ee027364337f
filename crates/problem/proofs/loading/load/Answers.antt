-- `problem::loading::load` meets its contract: after j turns the first j alternatives and their opposites stand in the list.
use mathlib.Core.Path.{◌≡◌, refl, sym, ap, ◌∙◌}
use mathlib.Core.List.{List}
use Prim.Native.Nat.{ℕ, ◌≤◌, ◌<◌, ◌-◌, ◌+◌, ◌*◌, ◌^◌}
use native.Mathlib.Omega.{arith}
use borrow.Author.Rules.{rules}
use lib.Dec.{T}
use lib.Signed.{mag}
use lib.IntN.{ℤ, pos, nat_abs, ◌+ℤ◌}
use lib.ListN.{length, get_or}
use mir.Syntax.{w32}
use mir.Val.{of_z, to_z}
use Rattle.meaning.specs.Limits.{most_bound, most_alternatives}
use Rattle.meaning.specs.Problem.{opposite}
use Rattle.meaning.specs.Screen.{alternatives, bounds, is_bound}
use Rattle.lent.proofs.Signed.{element}
use Rattle.meaning.proofs.Accepted.{alternatives-count}
use Rattle.problem.specs.declared.Edge.{Edge}
use Rattle.problem.specs.Arcs.{bias}
use Rattle.problem.specs.Loaded.{biased, edge_of, turned}
use Rattle.problem.proofs.Triples.{alternative_at, alternative-at, events-at, bounds-at}
use Rattle.problem.proofs.Lifting.{lifts, lifts-opposite}
use Rattle.problem.proofs.Tables.{written_none, written-more, written_all}
use Rattle.problem.proofs.loading.load.Goals as goal

-- what the calls give of triple j: its events, its bound with the bias added, and the opposite's
module _ (ts : List ℤ) (j : ℕ) where
  first-is : {r : ℕ} → r ≡ nat_abs (to_z w32 (of_z w32 (get_or ts (j * 3) (pos 0)))) → mag (get_or ts (j * 3) (pos 0)) < 2 ^ 31 → r ≡ (alternative_at ts j).x
  first-is e h = e ∙ ap nat_abs (element (get_or ts (j * 3) (pos 0)) h)

  second_is : {r : ℕ} → r ≡ nat_abs (to_z w32 (of_z w32 (get_or ts (j * 3 + 1) (pos 0)))) → mag (get_or ts (j * 3 + 1) (pos 0)) < 2 ^ 31 → r ≡ (alternative_at ts j).y
  second_is e h = e ∙ ap nat_abs (element (get_or ts (j * 3 + 1) (pos 0)) h)

  bound-is : {r : ℕ} → r ≡ nat_abs (to_z w32 (of_z w32 (get_or ts (j * 3 + 2) (pos 0))) +ℤ pos bias) → mag (get_or ts (j * 3 + 2) (pos 0)) < 2 ^ 31 → r ≡ biased (alternative_at ts j)
  bound-is e h = e ∙ ap (λ (z : ℤ). nat_abs (z +ℤ pos bias)) (element (get_or ts (j * 3 + 2) (pos 0)) h)

  lifted-small : {r : ℕ} → T (bounds is_bound ts) → j * 3 + 2 < length ts → r ≡ biased (alternative_at ts j) → r ≤ 2 * most_bound + 1
  lifted-small t h e = let b = lifts (alternative_at ts j).c (bounds-at ts t j h) in omega (arith, e, ap nat_abs b.is, b.small)

  turned-is : {r : ℕ} → T (bounds is_bound ts) → j * 3 + 2 < length ts → r ≡ biased (alternative_at ts j) → 2 * most_bound + 1 - r ≡ biased (opposite (alternative_at ts j))
  unfolding opposite
  turned-is t h e = ap (λ (k : ℕ). 2 * most_bound + 1 - k) e ∙ sym (ap nat_abs (lifts-opposite (alternative_at ts j).c (bounds-at ts t j h)))

-- an arc of three numbers
abbrev edge : ℕ → ℕ → ℕ → Edge
edge x y b = record { x = x; y = y; b = b }

edges-same : {x y b x' y' b' : ℕ} → x ≡ x' → y ≡ y' → b ≡ b' → edge x y b ≡ edge x' y' b'
edges-same p q r = rw (p, q, r) refl

pub loop-j-init : goal.loop-j-init
loop-j-init c = written_none _

pub event-x-requires : goal.event-x-requires
event-x-requires c =
    let ts = c.args.triples.now in
    let e = (events-at c.requires.n ts c.requires.events c.loop-j.j (omega arith)).0 in
    (e.0, (element (get_or ts (c.loop-j.j * 3) (pos 0)) (search rules) ∙ e.1.0, omega (arith, e.1.1)))

pub event-y-requires : goal.event-y-requires
event-y-requires c =
    let ts = c.args.triples.now in
    let e = (events-at c.requires.n ts c.requires.events c.loop-j.j (omega arith)).1 in
    (e.0, (element (get_or ts (c.loop-j.j * 3 + 1) (pos 0)) (search rules) ∙ e.1.0, omega (arith, e.1.1)))

pub lifted-b-requires : goal.lifted-b-requires
lifted-b-requires c =
    let ts = c.args.triples.now in
    let z = get_or ts (c.loop-j.j * 3 + 2) (pos 0) in
    let b = lifts z (bounds-at ts c.requires.bounds c.loop-j.j (omega arith)) in
    (omega arith, (b.b, (rw (element z (search rules)) b.is, omega (arith, b.small))))

pub overflow_sub-arcs : goal.overflow_sub-arcs
overflow_sub-arcs c =
    let ts = c.args.triples.now in
    let j = c.loop-j.j in
    omega (arith, lifted-small ts j c.requires.bounds (omega arith) (bound-is ts j c.lifted-b.ensures (search rules)))

pub loop-j-preserved : goal.loop-j-preserved
unfolding opposite
loop-j-preserved c =
    let ts = c.args.triples.now in
    let j = c.loop-j.j in
    let few : length (alternatives 0 ts) ≤ most_alternatives = omega (arith, alternatives-count 0 ts) in
    let h : j < length (alternatives 0 ts) = omega (arith, alternatives-count 0 ts) in
    let e = alternative-at j ts (omega arith) in
    let x = first-is ts j c.event-x.ensures (search rules) in
    let y = second_is ts j c.event-y.ensures (search rules) in
    let b = bound-is ts j c.lifted-b.ensures (search rules) in
    let o = turned-is ts j c.requires.bounds (omega arith) b in
    written-more _ j _ _ _ c.loop-j.invariant few h (edges-same x y b ∙ sym (ap edge_of e)) (edges-same y x o ∙ sym (ap turned e))

pub returns : goal.returns
returns c = written_all _ c.loop-j.j _ c.loop-j.invariant (omega (arith, alternatives-count 0 c.args.triples.now))
