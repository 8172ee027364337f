-- One step of the search: what remains at a place is the step and what remains at the next. Assumes nothing.
use mathlib.Core.Path.{◌≡◌, refl, sym, ap, ap₂, ◌∙◌, subst}
use mathlib.Core.Bool.{true, false}
use mathlib.Core.Option.{Option, some, none}
use mathlib.Core.List.{List, [], ◌∷◌, ◌++◌, map}
use Prim.Native.Nat.{ℕ, zero, suc, ◌+◌, ◌-◌, ◌*◌, ◌<◌, ◌≤◌}
use native.Mathlib.Nat.{not-suc-le-zero, le_of_suc-le-suc}
use native.Mathlib.Decide.{dec_lt}
use native.Mathlib.Omega.{arith}
use lib.ListN.{length, get_or, take, drop, set, length-append, length-take}
use lib.Seq.{take-suc-set, get_or-set_same, get_or-set_other, drop-nil}
use Rattle.laws.proofs.Tests.{never}
use Rattle.std.proofs.Common.{ControlFlow, Continue, Break}
use Rattle.meaning.specs.Limits.{onward_mark, dead_mark}
use Rattle.meaning.specs.Problem.{Alternative, Clause}
use Rattle.meaning.specs.Plain.{product}
use Rattle.meaning.specs.Decision.{sound}
use Rattle.meaning.specs.Search.{Standing, facts, past, next, Row, mark, cycle, Outcome, found, closed, stopped, later, dead, first_dead, resume}
use Rattle.meaning.proofs.Carry.{later-later}
use Rattle.meaning.proofs.Step.{onward, closed-later, step-unsound, step-stopped, step-found, step-dead, step-open}
use Rattle.problem.specs.declared.Problem.{Problem}
use Rattle.problem.specs.Arcs.{at, arcs_from}
use Rattle.problem.specs.Laid.{arcs, size_of, clause_of, clauses_from, clauses_in}
use Rattle.problem.proofs.Laying.{arcs-length, clauses-length, clause-at, clause-of, clauses-drop, size-most}
use Rattle.search.specs.declared.Place.{Place}
use Rattle.search.specs.declared.End.{End}
use Rattle.search.specs.declared.End.TheVariants.{Plan, Closed, Stop}
use Rattle.search.specs.Standing.{Inside}
use Rattle.search.specs.Places.{open_at}
use Rattle.search.specs.Listing.{Kept, Keeps}
use Rattle.search.specs.Steps.{positions, effort, Fine, At, Found, Ended, Stopped, Goes, Means, Leaves}
use Rattle.search.proofs.Numbers.{inside-standing}
use Rattle.search.proofs.Dead.{clauses-first}

-- ---- clauses past a standing, and the alternatives open after it
past-drop : (cs : List Clause) (q : List ℕ) → past cs q ≡ drop (length q) cs
unfolding past
past-drop [] q = sym (drop-nil (length q))
past-drop (c ∷ cs) [] = refl
past-drop (c ∷ cs) (i ∷ q) = past-drop cs q

open-deeper : (cs : List Clause) (q : List ℕ) (i : ℕ) → length q < length cs → open_at cs (q ++ i ∷ []) ≡ open_at cs q + (length (get_or cs (length q) []) - suc i)
unfolding open_at
open-deeper [] q i l = absurd (not-suc-le-zero l)
open-deeper (c ∷ cs) [] i l = omega (arith, none_open cs)
  where
    none_open : (cs : List Clause) → open_at cs [] ≡ 1
    none_open cs = unfold open_at in refl
open-deeper (c ∷ cs) (j ∷ q) i l = omega (arith, open-deeper cs q i (le_of_suc-le-suc l))

-- the standing of the first k picks
module _ (p : Problem) (picks : List ℕ) (k : ℕ) (inside : Inside p picks k) (long : length picks ≡ 32) where
  pub stands : Standing (clauses_in p) (take k picks)
  stands = inside-standing p picks k 0 (omega (arith, p.laid.few, inside.few)) (λ i l. subst (λ (d : ℕ). at picks i < size_of p d) (let e : i ≡ 0 + i = omega arith in e) (inside.each i l)) p.m inside.few

  pub deep : length (take k picks) ≡ k
  deep = omega (arith, length-take k picks, p.laid.few, inside.few)

  pub past_is : past (clauses_in p) (take k picks) ≡ clauses_from p k (p.m - k)
  past_is =
      past-drop (clauses_in p) (take k picks)
      ∙ ap (λ (d : ℕ). drop d (clauses_in p)) deep
      ∙ clauses-drop p 0 p.m k inside.few
      ∙ ap (λ (d : ℕ). clauses_from p d (p.m - k)) (let e : 0 + k ≡ k = omega arith in e)

-- ---- a standing that is closed
-- s with its visits and rows counted on
abbrev pub counted-on : Place → ℕ → ℕ → Place
counted-on s v r = record { standing = s.standing; visits = v; rows = r }

module _ (p : Problem) (a : ℕ) (s : Place) (entry exit : List ℕ) (w : ControlFlow End Place) (v : ℕ) (n : ℕ) (r : List Row)
    (fine : Fine p a s)
    (leaves : Leaves p (counted-on s v (s.rows + length r)) w)
    (spent : v ≤ a) (later-on : s.visits ≤ v) (paid : length r + 5 * (a - v) ≤ 5 * (a - s.visits) + 1)
    (is : resume sound (clauses_in p) 0 (positions s) [] (a - s.visits) ≡ later n r (onward sound (clauses_in p) 0 (next (clauses_in p) (positions s)) [] (a - v)))
    (keeps : Keeps entry exit s.rows r) (sized : length exit ≡ length entry)
    (o : Outcome) (here : At p a o s entry) where
  together : o ≡ later (here.before + n) (here.rows ++ r) (onward sound (clauses_in p) 0 (next (clauses_in p) (positions s)) [] (a - v))
  together = here.is ∙ ap (later here.before here.rows) is ∙ later-later here.before n here.rows r _

  kept_on : Kept (length exit) (here.rows ++ r) exit
  kept_on = subst (λ (z : ℕ). Kept z (here.rows ++ r) exit) (sym sized) (keeps.keeps here.rows here.counted here.kept)

  many : length (here.rows ++ r) ≡ s.rows + length r
  many = length-append here.rows r ∙ ap (λ (z : ℕ). z + length r) here.counted

  goes_on : (t : Place) → t.visits ≡ v → t.rows ≡ s.rows + length r → next (clauses_in p) (positions s) ≡ some (positions t) → Inside p t.standing.picks t.standing.k → open_at (clauses_in p) (positions t) < open_at (clauses_in p) (positions s) → Goes p a o (effort p a s) t exit
  goes_on t tv tr e i less =
      record {
        fine = record { inside = i; spent = omega arith; few = omega (arith, fine.few, ap (λ (z : ℕ). a - z) tv) };
        here = record {
          before = here.before + n;
          rows = here.rows ++ r;
          is = together ∙ ap (later (here.before + n) (here.rows ++ r)) (unfold onward in (ap (λ (x : Option (List ℕ)). onward sound (clauses_in p) 0 x [] (a - v)) e ∙ ap (λ (z : ℕ). resume sound (clauses_in p) 0 (positions t) [] (a - z)) (sym tv)));
          counted = many ∙ sym tr;
          kept = kept_on;
        };
        nearer = omega (arith, ap (λ (z : ℕ). a - z) tv);
      }

  ends-here : (t : Place) → t.visits ≡ v → t.rows ≡ s.rows + length r → next (clauses_in p) (positions s) ≡ none → Ended p a o t exit
  ends-here t tv tr e =
      record {
        before = here.before + n;
        rows = here.rows ++ r;
        is = together ∙ ap (later (here.before + n) (here.rows ++ r)) ended ∙ sym (closed-later sound (here.before + n) (here.rows ++ r) (a - v)) ∙ ap (λ (z : ℕ). closed (here.before + n) (here.rows ++ r) (a - z)) (sym tv);
        spent = omega arith;
        counted = many ∙ sym tr;
        kept = kept_on;
      }
    where
      ended : onward sound (clauses_in p) 0 (next (clauses_in p) (positions s)) [] (a - v) ≡ closed 0 [] (a - v)
      ended = unfold onward in ap (λ (x : Option (List ℕ)). onward sound (clauses_in p) 0 x [] (a - v)) e

  -- what a step that closes the standing means
  pub closes : Means p a o (effort p a s) w exit
  closes = go w leaves
    where
      go : (w : ControlFlow End Place) → Leaves p (counted-on s v (s.rows + length r)) w → Means p a o (effort p a s) w exit
      go (Continue t) (c, e, i, less, long) = goes_on t c.visits c.rows e i less
      go (Break (Plan t)) h = absurd h
      go (Break (Closed t)) (c, e) = ends-here t c.visits c.rows e
      go (Break (Stop t)) h = absurd h

-- ---- the five ways of a step
module _ (p : Problem) (a : ℕ) (s : Place) (long : length s.standing.picks ≡ 32) (fine : Fine p a s) where
  cs : List Clause
  cs = clauses_in p

  place : Standing (clauses_in p) (positions s)
  place = stands p s.standing.picks s.standing.k fine.inside long

  -- the facts of the standing
  abbrev pub own : List Alternative
  own = facts (clauses_in p) (positions s) []

  -- an unsound standing is closed without a visit
  pub unsound-is : sound own ≡ false → resume sound (clauses_in p) 0 (positions s) [] (a - s.visits) ≡ later (product (past (clauses_in p) (positions s))) (cycle own ∷ []) (onward sound (clauses_in p) 0 (next (clauses_in p) (positions s)) [] (a - s.visits))
  unsound-is e = step-unsound sound (clauses_in p) 0 (positions s) [] place (a - s.visits) e

  -- a sound one stops a search whose allowance is spent
  pub stops-is : sound own ≡ true → s.visits ≡ a → (o : Outcome) (entry : List ℕ) → At p a o s entry → Stopped p a o s
  stops-is e q o entry here =
      record {
        before = here.before + 0;
        rows = here.rows ++ [];
        is = here.is ∙ ap (later here.before here.rows) (ap (resume sound (clauses_in p) 0 (positions s) []) (let z : a - s.visits ≡ 0 = omega arith in z) ∙ step-stopped sound (clauses_in p) 0 (positions s) [] place e) ∙ stopped-later;
        spent = q;
        inside = fine.inside;
      }
    where
      stopped-later : later here.before here.rows (stopped 0 [] (positions s)) ≡ stopped (here.before + 0) (here.rows ++ []) (positions s)
      stopped-later = unfold later in refl

  -- the visits left, one of them made
  one_less : s.visits < a → a - s.visits ≡ suc (a - (s.visits + 1))
  one_less h = omega arith

  -- a whole one is the plan
  pub found-is : sound own ≡ true → s.visits < a → s.standing.k ≡ p.m → (o : Outcome) (entry : List ℕ) → At p a o s entry → Found p a o (counted-on s (s.visits + 1) s.rows)
  found-is e h q o entry here =
      record {
        before = here.before + 0;
        is = here.is ∙ ap (later here.before here.rows) (ap (resume sound (clauses_in p) 0 (positions s) []) (one_less h) ∙ step-found sound (clauses_in p) 0 (positions s) [] place (a - (s.visits + 1)) e none-past) ∙ found-later;
        spent = omega arith;
        inside = fine.inside;
        whole = q;
      }
    where
      none-past : past (clauses_in p) (positions s) ≡ []
      none-past = past_is p s.standing.picks s.standing.k fine.inside long ∙ ap (clauses_from p s.standing.k) (let z : p.m - s.standing.k ≡ 0 = omega arith in z) ∙ unfold clauses_from in refl

      found-later : later here.before here.rows (found (positions s) 0 (a - (s.visits + 1))) ≡ found (positions s) (here.before + 0) (a - (s.visits + 1))
      found-later = unfold later in refl

  -- a dead one is closed: its mark, and a cycle row for each alternative of the dead clause
  pub dead-is : (d : ℕ) → sound own ≡ true → s.visits < a → s.standing.k ≤ d → d < p.m → first_dead sound own (clauses_from p s.standing.k (p.m - s.standing.k)) ≡ some (d - s.standing.k) → resume sound (clauses_in p) 0 (positions s) [] (a - s.visits) ≡ later (product (past (clauses_in p) (positions s))) (mark (dead_mark + d) ∷ map (λ x. cycle (x ∷ own)) (clause_of p d)) (onward sound (clauses_in p) 0 (next (clauses_in p) (positions s)) [] (a - (s.visits + 1)))
  dead-is d e h l m f =
      ap (resume sound (clauses_in p) 0 (positions s) []) (one_less h)
      ∙ step-dead sound (clauses_in p) 0 (positions s) [] place (a - (s.visits + 1)) (d - s.standing.k) e (ap (first_dead sound own) (past_is p s.standing.picks s.standing.k fine.inside long) ∙ f)
      ∙ ap₂ (λ (z : ℕ) (c : Clause). later (product (past (clauses_in p) (positions s))) (mark (dead_mark + z) ∷ map (λ x. cycle (x ∷ own)) c) (onward sound (clauses_in p) 0 (next (clauses_in p) (positions s)) [] (a - (s.visits + 1)))) number clause
    where
      number : length (positions s) + 0 + (d - s.standing.k) ≡ d
      number = omega (arith, deep p s.standing.picks s.standing.k fine.inside long)

      clause : get_or (past (clauses_in p) (positions s)) (d - s.standing.k) [] ≡ clause_of p d
      clause =
          ap (λ (r : List Clause). get_or r (d - s.standing.k) []) (past_is p s.standing.picks s.standing.k fine.inside long)
          ∙ clause-at p s.standing.k (p.m - s.standing.k) (d - s.standing.k) (omega arith)
          ∙ ap (clause_of p) (let z : s.standing.k + (d - s.standing.k) ≡ d = omega arith in z)

  -- where no clause is dead, the next has an alternative
  some_next : s.standing.k < p.m → first_dead sound own (clauses_from p s.standing.k (p.m - s.standing.k)) ≡ none → 0 < size_of p s.standing.k
  some_next l f = go (size_of p s.standing.k) refl
    where
      first : first_dead sound own (clause_of p s.standing.k ∷ clauses_from p (s.standing.k + 1) (p.m - (s.standing.k + 1))) ≡ none
      first = ap (first_dead sound own) (sym (clauses-first p s.standing.k p.m l)) ∙ f

      empty : size_of p s.standing.k ≡ 0 → some 0 ≡ first_dead sound own (clause_of p s.standing.k ∷ clauses_from p (s.standing.k + 1) (p.m - (s.standing.k + 1)))
      empty z = sym (ap (λ (n : ℕ). first_dead sound own (arcs_from (arcs p) (at p.starts s.standing.k) n ∷ clauses_from p (s.standing.k + 1) (p.m - (s.standing.k + 1)))) z ∙ unfold first_dead dead arcs_from in refl)

      go : (n : ℕ) → size_of p s.standing.k ≡ n → 0 < size_of p s.standing.k
      go zero z = let q = empty z in let r = first in absurd (never (cc))
      go (suc n) z = omega arith

  -- any other goes down to position 0 of the next clause
  pub opens : (entry exit : List ℕ) → sound own ≡ true → s.visits < a → s.standing.k < p.m → first_dead sound own (clauses_from p s.standing.k (p.m - s.standing.k)) ≡ none → Keeps entry exit s.rows (mark onward_mark ∷ []) → length exit ≡ length entry → (o : Outcome) → At p a o s entry → Goes p a o (effort p a s) (record { standing = record { picks = set s.standing.picks s.standing.k 0; k = s.standing.k + 1 }; visits = s.visits + 1; rows = s.rows + 1 }) exit
  opens entry exit e h l f keeps sized o here =
      record {
        fine = record { inside = down; spent = omega arith; few = omega (arith, fine.few, open-down, size-most p s.standing.k l) };
        here = record {
          before = here.before + 0;
          rows = here.rows ++ (mark onward_mark ∷ []);
          is = here.is ∙ ap (later here.before here.rows) (ap (resume sound (clauses_in p) 0 (positions s) []) (one_less h) ∙ step-open sound (clauses_in p) 0 (positions s) [] place (a - (s.visits + 1)) (clause_of p s.standing.k) (clauses_from p (s.standing.k + 1) (p.m - (s.standing.k + 1))) (past_is p s.standing.picks s.standing.k fine.inside long ∙ clauses-first p s.standing.k p.m l) e (ap (first_dead sound own) (past_is p s.standing.picks s.standing.k fine.inside long) ∙ f)) ∙ later-later here.before 0 here.rows (mark onward_mark ∷ []) _ ∙ ap (λ (q : List ℕ). later (here.before + 0) (here.rows ++ (mark onward_mark ∷ [])) (resume sound (clauses_in p) 0 q [] (a - (s.visits + 1)))) (sym moved);
          counted = length-append here.rows (mark onward_mark ∷ []) ∙ ap (λ (z : ℕ). z + 1) here.counted;
          kept = subst (λ (z : ℕ). Kept z (here.rows ++ (mark onward_mark ∷ [])) exit) (sym sized) (keeps.keeps here.rows here.counted here.kept);
        };
        nearer = omega (arith, open-down, size-most p s.standing.k l);
      }
    where
      fits : s.standing.k < length s.standing.picks
      fits = omega (arith, p.laid.few, fine.inside.few)

      moved : take (s.standing.k + 1) (set s.standing.picks s.standing.k 0) ≡ positions s ++ 0 ∷ []
      moved = ap (λ (d : ℕ). take d (set s.standing.picks s.standing.k 0)) (let z : s.standing.k + 1 ≡ suc s.standing.k = omega arith in z) ∙ take-suc-set s.standing.picks s.standing.k 0 fits

      size-here : length (get_or (clauses_in p) (length (positions s)) []) ≡ size_of p s.standing.k
      size-here =
          ap (λ (d : ℕ). length (get_or (clauses_in p) d [])) (deep p s.standing.picks s.standing.k fine.inside long)
          ∙ ap length (clause-of p s.standing.k l)
          ∙ arcs-length (arcs p) (at p.starts s.standing.k) (size_of p s.standing.k)

      open-down : open_at (clauses_in p) (take (s.standing.k + 1) (set s.standing.picks s.standing.k 0)) ≡ open_at (clauses_in p) (positions s) + (size_of p s.standing.k - 1)
      open-down =
          ap (open_at (clauses_in p)) moved
          ∙ open-deeper (clauses_in p) (positions s) 0 (omega (arith, deep p s.standing.picks s.standing.k fine.inside long, clauses-length p 0 p.m))
          ∙ ap (λ (z : ℕ). open_at (clauses_in p) (positions s) + (z - 1)) size-here

      down : Inside p (set s.standing.picks s.standing.k 0) (s.standing.k + 1)
      down = record { few = omega arith; each = each }
        where
          each : (i : ℕ) → i < s.standing.k + 1 → at (set s.standing.picks s.standing.k 0) i < size_of p i
          each i b = go (dec_lt i s.standing.k)
            where
              go : Dec (i < s.standing.k) → at (set s.standing.picks s.standing.k 0) i < size_of p i
              go (no n) =
                  let z : s.standing.k ≡ i = omega arith in
                  subst (λ (d : ℕ). at (set s.standing.picks s.standing.k 0) d < size_of p d) z (rw (get_or-set_same s.standing.picks s.standing.k 0 0 fits) (some_next l f))
              go (yes n) = rw (get_or-set_other s.standing.picks s.standing.k i 0 0 (λ z. let q : i < s.standing.k = n in omega arith)) (fine.inside.each i n)
