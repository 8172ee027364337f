-- The start of a run, and what a first run without room says of one with room. Assumes nothing.
use mathlib.Core.Path.{◌≡◌, refl, sym, ap, ◌∙◌}
use mathlib.Core.List.{List, []}
use Prim.Native.Nat.{ℕ, ◌-◌, ◌≤◌}
use native.Mathlib.Omega.{arith}
use lib.ListN.{length, replicate, length-replicate, get_or-replicate}
use Rattle.meaning.specs.Limits.{blank_byte, most_allowance, most_events}
use Rattle.meaning.specs.Decision.{sound}
use Rattle.meaning.specs.Search.{search, resume}
use Rattle.meaning.specs.Listing.{listing, rows_in}
use Rattle.meaning.proofs.Carry.{later-none}
use Rattle.meaning.proofs.Step.{resume-none}
use Rattle.laws.proofs.Tests.{is_true}
use Rattle.meaning.specs.Plain.{times_of}
use Rattle.meaning.proofs.Deciding.{sound-decides}
use Rattle.meaning.proofs.Rows.{rows_few}
use Rattle.problem.specs.declared.Problem.{Problem}
use Rattle.problem.specs.Laid.{clauses_in}
use Rattle.search.specs.declared.Place.{Place}
use Rattle.search.specs.Places.{open_at}
use Rattle.search.specs.Steps.{most_rows, Fine, At, Ended}
use Rattle.search.specs.Depths.{Roomy, Depths}
use Rattle.search.proofs.Ranks.{laid-short}

-- ---- the start
module _ (p : Problem) (a : ℕ) (picks : List ℕ) where
  abbrev pub start : Place
  start = record { standing = record { picks = picks; k = 0 }; visits = 0; rows = 0 }

  pub start_fine : a ≤ most_allowance → Fine p a start
  start_fine h = record { inside = record { few = omega arith; each = λ i l. absurd (omega arith) }; spent = omega arith; few = unfold open_at in omega arith }

  pub start-here : (reasons : List ℕ) → reasons ≡ replicate (length reasons) blank_byte → At p a (search sound (clauses_in p) 0 [] a) start reasons
  start-here reasons e =
      record {
        before = 0;
        rows = [];
        is = sym (later-none _ ∙ ap (resume sound (clauses_in p) 0 [] []) (let z : a - 0 ≡ a = omega arith in z) ∙ resume-none sound (clauses_in p) 0 [] a);
        counted = refl;
        kept = record { size = refl; lists = λ l. unfold rows_in listing in (e ∙ ap (λ (n : ℕ). replicate n blank_byte) (let z : length reasons ≡ length reasons - 0 = omega arith in z)) };
      }

-- the rows of none are few
pub none-few : (p : Problem) (a : ℕ) (s : Place) (reasons : List ℕ) → a ≤ most_allowance → Ended p a (search sound (clauses_in p) 0 [] a) s reasons → s.rows ≤ most_rows
none-few p a s reasons l h =
    omega (arith, h.counted, rows_few sound (clauses_in p) a h.before h.rows _ (laid-short p 0 p.m (omega arith)) (is_true (sound []) (sound-decides.whole [] (times_of []) tt)) h.is)

-- ---- tables of its own
-- the tables of no clause
pub depths-none : (w : ℕ) (p : Problem) (picks : List ℕ) (days : List (List (List ℕ))) → Roomy w p days → Depths w p picks 0 days
depths-none w p picks days h = record { roomy = h; each = λ i l. absurd (omega arith) }

pub roomy-own : (w : ℕ) (p : Problem) (x : List ℕ) → p.n ≤ w → w ≤ most_events → Roomy w p (replicate 33 (replicate w x))
roomy-own w p x wide few =
    record {
      wide = wide;
      few = few;
      room = omega (arith, length-replicate 33 (replicate w x), p.laid.few);
      tall = record { rows = λ k l. rw (get_or-replicate 33 k (replicate w x) [] (omega (arith, length-replicate 33 (replicate w x)))) (length-replicate w x) };
    }
