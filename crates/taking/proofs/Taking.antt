-- One fact more, and the facts of a position, table by table. Assumes nothing.
use Rattle.std.specs.Prelude.{Option, None, Some}
use mathlib.Core.Path.{◌≡◌, refl, sym, ◌∙◌, subst}
use mathlib.Core.Bool.{Bool, false, false≢true}
use mathlib.Core.List.{List, ◌∷◌}
use Prim.Native.Nat.{ℕ, ◌+◌, ◌-◌, ◌*◌, ◌<◌, ◌≤◌}
use native.Mathlib.Omega.{arith}
use native.Mathlib.Nat.{le_refl, mul-le-mul_right}
use lib.IntN.{nat_abs}
use lib.ListN.{length}
use Rattle.meaning.specs.Limits.{most_events, opposite_from}
use Rattle.meaning.specs.Problem.{Alternative}
use Rattle.meaning.specs.Decision.{sound}
use Rattle.problem.specs.Arcs.{Net, bias, head, tail, bound, arc, Arc}
use Rattle.distances.specs.Numbers.{Stands}
use Rattle.distances.proofs.Meaning.{number-bounded}
use Rattle.taking.specs.Tables.{IsDay, Held, table_at, Tall, Beside}
use Rattle.taking.specs.Taking.{passed, taken, Arcs, Adds, Passes}
use Rattle.taking.proofs.Passing.{passed_none, passed-more, unsound-more, unsound-first, unsound-passed}
use Rattle.taking.proofs.Implied.{implied-holds}

-- ---- arcs as facts
-- an arc whose events and bound were read stands for the alternative, or the opposite of one, that it is
pub arc-stands : (g : Net) (j x y b : ℕ) → x ≡ head g j → y ≡ tail g j → b ≡ bound g j → Stands x y b (arc g j)
arc-stands g j x y b e f d = record { first = sym e; second = sym f; bound = rw d refl }

pub arc-bounded : (g : Net) (n j : ℕ) → Arc g n j → nat_abs (arc g j).c ≤ bias
arc-bounded g n j h = number-bounded (head g j) (tail g j) (bound g j) (arc g j) (arc-stands g j (head g j) (tail g j) (bound g j) refl refl refl) h.small

pub arcs-fewer : (g : Net) (n last j : ℕ) → j ≤ last → Arcs g n last → Arcs g n j
arcs-fewer g n last j l h =
    record {
      few = omega (arith, h.few);
      own = λ i m. h.own i (omega arith);
      turned = λ i m. h.turned i (omega arith);
      opposites = λ i m. h.opposites i (omega arith);
    }

-- ---- tables one after another
-- a table of so few events is small in memory
pub table-small : (w : ℕ) → w ≤ most_events → (w * (w * 4) < 9223372036854775808) × (w * 4 < 9223372036854775808)
table-small w few = (omega (arith, mul-le-mul_right (w * 4) few), omega arith)

pub beside-none : (r : List (List (List ℕ))) (k : ℕ) → Beside r r k
beside-none r k = record { long = refl; tall = λ i. refl; rest = λ i d. refl }

pub beside-then : (r s z : List (List (List ℕ))) (k : ℕ) → Beside r s k → Beside s z k → Beside r z k
beside-then r s z k h m = record { long = m.long ∙ h.long; tall = λ i. m.tall i ∙ h.tall i; rest = λ i d. m.rest i d ∙ h.rest i d }

pub still-tall : (w : ℕ) (r s : List (List (List ℕ))) (k : ℕ) → Beside r s k → Tall w r → Tall w s
still-tall w r s k h t = record { rows = λ i l. h.tall i ∙ t.rows i (omega (arith, h.long)) }

-- ---- the opposites of the alternatives passed over
-- the opposite of an alternative that has no timetable with the facts is implied by them: the table stays
pub passes-implied : (w : ℕ) → w ≤ most_events → (r : List (List (List ℕ))) (base to : ℕ) (g : Net) (j : ℕ) → base < length r → Arcs g w j → (ok : Bool) → ((fs : List Alternative) → IsDay w fs (table_at r base) → ok ≡ sound (arc g j ∷ fs)) → ok ≡ false → Passes w r r base to (λ fs. arc g (opposite_from + j) ∷ fs) (Some base)
passes-implied w few r base to g j l arcs ok decides e =
    record {
      beside = beside-none r to;
      room = λ v q. let same : base ≡ v = cc in rw (← same) l;
      fails = λ q. absurd (cc);
      day = λ v q. let same : base ≡ v = cc in rw (← same) implied;
    }
  where
    own : Arc g w j
    own = arcs.own j (le_refl j)

    implied : (fs : List Alternative) → IsDay w fs (table_at r base) → IsDay w (arc g (opposite_from + j) ∷ fs) (table_at r base)
    implied fs h =
        implied-holds w few fs (table_at r base) h (arc g j) (arc g (opposite_from + j)) (arcs.opposites j (le_refl j)) (own.in_head, own.in_tail) (arc-bounded g w j own) (arc-bounded g w (opposite_from + j) (arcs.turned j (le_refl j))) (sym (decides fs h) ∙ e)

-- those before alternative j are passed over, in the table at depth `base`
pub record Passing (w : ℕ) (r s : List (List (List ℕ))) (from to : ℕ) (g : Net) (first j base : ℕ) : Type 0 where
  pub beside : Beside r s to
  pub room : base < length s
  pub day : (fs : List Alternative) → IsDay w fs (table_at r from) → IsDay w (passed g first (j - first) fs) (table_at s base)

-- some facts are those of the table
pub passing-held : {w : ℕ} {r s : List (List (List ℕ))} {from to : ℕ} {g : Net} {first j base : ℕ} → Passing w r s from to g first j base → Held w (table_at r from) → Held w (table_at s base)
passing-held {g = g} {first} {j} h held = record { fs = passed g first (j - first) held.fs; holds = h.day held.fs held.holds }

module _ (w : ℕ) (r : List (List (List ℕ))) (from to : ℕ) (g : Net) (first : ℕ) where
  pub passing-none : from < length r → Passing w r r from to g first first from
  passing-none l = record { beside = beside-none r to; room = l; day = λ fs h. subst (λ (l : List Alternative). IsDay w l (table_at r from)) (sym (passed_none g first fs)) h }

  module _ (s z : List (List (List ℕ))) (j base : ℕ) {p : Option ℕ} (l : first ≤ j) (h : Passing w r s from to g first j base) (a : Passes w s z base to (λ fs. arc g (opposite_from + j) ∷ fs) p) where
    pub passing-more : (with : ℕ) → p ≡ Some with → Passing w r z from to g first (j + 1) with
    passing-more v e =
        record {
          beside = beside-then r s z to h.beside a.beside;
          room = a.room v e;
          day = λ fs k. subst (λ (l : List Alternative). IsDay w l (table_at z v)) (passed-more g first j fs l) (a.day v e (passed g first (j - first) fs) (h.day fs k));
        }

    -- an opposite on the way that does not fit: more facts are no sounder
    pub passing-fails : (last : ℕ) → j < last → p ≡ None → Passes w r z from to (passed g first (last - first)) None
    passing-fails last m e =
        record {
          beside = beside-then r s z to h.beside a.beside;
          room = λ v q. absurd (cc);
          fails = λ q fs k. unsound-passed g first j last fs l m (a.fails e (passed g first (j - first) fs) (h.day fs k));
          day = λ v q. absurd (cc);
        }

  pub passing-all : (s : List (List (List ℕ))) (j last base : ℕ) → j ≡ last → Passing w r s from to g first j base → Passes w r s from to (passed g first (last - first)) (Some base)
  passing-all s j last base e h =
      record {
        beside = h.beside;
        room = λ v q. let same : base ≡ v = cc in rw (← same) h.room;
        fails = λ q. absurd (cc);
        day = λ v q. let same : base ≡ v = cc in rw (← same, ← e) h.day;
      }

-- ---- the facts of a position
module _ (w : ℕ) (r : List (List (List ℕ))) (from to : ℕ) (g : Net) (first last : ℕ) where
  -- an alternative that has no timetable with the facts by itself has none in any position
  pub takes-none : (ok : Bool) → ((fs : List Alternative) → IsDay w fs (table_at r from) → ok ≡ sound (arc g last ∷ fs)) → ok ≡ false → Adds w r r from to (taken g first last) false
  takes-none ok decides e =
      record {
        beside = beside-none r to;
        decides = λ fs h. sym (unsound-first g first last fs (sym (decides fs h) ∙ e));
        day = λ t. absurd (false≢true t);
      }

  module _ (s : List (List (List ℕ))) {p : Option ℕ} (h : Passes w r s from to (passed g first (last - first)) p) where
    pub takes-fails : p ≡ None → Adds w r s from to (taken g first last) false
    takes-fails e =
        record {
          beside = h.beside;
          decides = λ fs k. sym (unsound-more (arc g last) (passed g first (last - first) fs) (h.fails e fs k));
          day = λ t. absurd (false≢true t);
        }

    pub takes-last : (base : ℕ) → p ≡ Some base → (z : List (List (List ℕ))) (ok : Bool) → Adds w s z base to (λ fs. arc g last ∷ fs) ok → Adds w r z from to (taken g first last) ok
    takes-last base e z ok a =
        record {
          beside = beside-then r s z to h.beside a.beside;
          decides = λ fs k. a.decides (passed g first (last - first) fs) (h.day base e fs k);
          day = λ q fs k. a.day q (passed g first (last - first) fs) (h.day base e fs k);
        }

    pub passed-held : (base : ℕ) → p ≡ Some base → Held w (table_at r from) → Held w (table_at s base)
    passed-held base e held = record { fs = passed g first (last - first) held.fs; holds = h.day base e held.fs held.holds }
