-- `tried` meets its contract. Assumes nothing.
use mathlib.Core.Path.{◌≡◌, sym, ap, ◌∙◌, subst}
use mathlib.Core.Bool.{Bool, true, false}
use mathlib.Core.List.{List}
use Prim.Native.Nat.{ℕ, ◌+◌, ◌*◌, ◌<◌, ◌≤◌}
use native.Mathlib.Omega.{arith}
use borrow.Author.Rules.{rules}
use lib.Dec.{T, leb}
use lib.IntN.{sub_ℕ}
use lib.ListN.{length, get_or}
use Rattle.problem.specs.declared.Edge.{Edge}
use Rattle.std.specs.Prelude.{Ok, Err}
use Rattle.meaning.specs.Limits.{most_events}
use Rattle.meaning.specs.Problem.{Alternative}
use Rattle.meaning.specs.declared.Refusal.TheVariants.{NoTimetable, NoDay}
use Rattle.problem.specs.Arcs.{bias, no_edge, net, head, tail, bound, arc, Arc, at}
use Rattle.problem.proofs.Knowing.{head-is, tail-is, bound-is, in-edges}
use Rattle.distances.specs.declared.Grid.{Grid}
use Rattle.distances.specs.declared.Fact.{Fact}
use Rattle.distances.specs.Numbers.{turn, distance, table_at, Stands}
use Rattle.distances.specs.Rows.{Extended}
use Rattle.standing.specs.Standing.{every, in_range, is_table}
use Rattle.standing.specs.Numbers.{Capped, Tries}
use Rattle.standing.proofs.Making.{tries-unsound, tries-beyond, tries-taken}
use Rattle.standing.proofs.adding.tried.Goals as goal

pub offset_bounds-p-j : goal.offset_bounds-p-j
offset_bounds-p-j c =
    let l : c.args.j < length c.args.p.now.arcs = in-edges _ _ c.requires.1 in
    let long : length c.args.p.now.arcs ≡ 128 = search rules in
    omega arith

-- ---- the arc in numbers, and what is found of it
module _ (numbers : List ℕ) (edges : List Edge) (n j : ℕ) (a : Arc (net edges) n j) (day : Grid) (fact : Fact) (lies : (day.base ≡ 0) × (day.w ≡ most_events) × (day.n ≡ n)) (of : (fact.x ≡ (get_or edges j no_edge).x) × (fact.y ≡ (get_or edges j no_edge).y) × (fact.b ≡ (get_or edges j no_edge).b)) where
  abbrev tried : Alternative
  tried = arc (net edges) j

  first : head (net edges) j ≡ fact.x
  first = head-is edges j ∙ sym of.0

  second : tail (net edges) j ≡ fact.y
  second = tail-is edges j ∙ sym of.1

  number : bound (net edges) j ≡ fact.b
  number = bound-is edges j ∙ sym of.2

  starts_in : fact.x < n
  starts_in = subst (λ (k : ℕ). k < n) first a.in_head

  ends_in : fact.y < n
  ends_in = subst (λ (k : ℕ). k < n) second a.in_tail

  small : fact.b < 2 * bias
  small = subst (λ (k : ℕ). k < 2 * bias) number a.small

  stands : Stands fact.x fact.y fact.b tried
  stands = record { first = first; second = second; bound = ap (λ (b : ℕ). sub_ℕ b bias) number }

  module _ {r : Bool} (fits : r ≡ leb turn (at numbers (day.base + (fact.x * day.w + fact.y)) + fact.b)) where
    here : r ≡ leb turn (at numbers (0 + (fact.x * most_events + fact.y)) + fact.b)
    here = rw (lies.0, lies.1) at fits

    unsound : r ≡ false → Tries numbers n tried (Err NoTimetable)
    unsound f = tries-unsound numbers n fact.x fact.y fact.b tried starts_in ends_in stands here f

    module _ {q : Bool} (z : List ℕ) (f : r ≡ true) (all : q ≡ every (most_events * most_events) (λ (k : ℕ). in_range (distance (at z k)))) (few : n ≤ most_events) (cap : Capped numbers) (table : T (is_table n (table_at numbers 0 most_events))) (extended : Extended numbers z day.base 0 day.w day.n fact.x fact.y fact.b) where
      there : Extended numbers z 0 0 most_events n fact.x fact.y fact.b
      there = rw (lies.0, lies.1, lies.2) at extended

      beyond : q ≡ false → Tries numbers n tried (Err NoDay)
      beyond g = tries-beyond numbers n fact.x fact.y fact.b tried starts_in ends_in stands z here f all few small cap table there g

      taken : q ≡ true → Tries numbers n tried (Ok z)
      taken g = tries-taken numbers n fact.x fact.y fact.b tried starts_in ends_in stands z here f all few small cap table there g

pub returns-then-not-fits_with : goal.returns-then-not-fits_with
returns-then-not-fits_with c =
    unsound c.args.numbers c.args.p.now.arcs c.args.p.now.n c.args.j c.requires.1 c.grid-day.result c.of-fact.result c.grid-day.ensures c.of-fact.ensures c.fits_with.ensures.numbers c.if-not-fits_with.true

pub returns-then-not-all_numbers : goal.returns-then-not-all_numbers
returns-then-not-all_numbers c =
    beyond c.args.numbers c.args.p.now.arcs c.args.p.now.n c.args.j c.requires.1 c.grid-day.result c.of-fact.result c.grid-day.ensures c.of-fact.ensures c.fits_with.ensures.numbers c.extend.new.s c.if-not-fits_with.false
    c.all_numbers.ensures c.requires.0 c.requires.2 c.requires.3 c.extend.ensures.numbers c.if-not-all_numbers.true

pub returns : goal.returns
returns c =
    taken c.args.numbers c.args.p.now.arcs c.args.p.now.n c.args.j c.requires.1 c.grid-day.result c.of-fact.result c.grid-day.ensures c.of-fact.ensures c.fits_with.ensures.numbers c.extend.new.s c.if-not-fits_with.false
    c.all_numbers.ensures c.requires.0 c.requires.2 c.requires.3 c.extend.ensures.numbers c.if-not-all_numbers.false
