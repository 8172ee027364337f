-- The answer of a test from a start: times that the last round left as they are keep the facts, and where an event rose in it no timetable does.
-- Assumes nothing.
use Prim.Native.Nat.{ℕ, suc, ◌-◌, ◌≤◌}
use mathlib.Core.Path.{◌≡◌, refl, ap, ◌∙◌}
use mathlib.Core.List.{List, []}
use mathlib.Core.Bool.{true≢false}
use native.Mathlib.Omega.{arith}
use lib.ListN.{length, get_or}
use Rattle.std.proofs.Common.{Some, None}
use Rattle.problem.specs.Arcs.{Net}
use Rattle.facts.specs.Tests.{Within}
use Rattle.facts.specs.Rounds.{Under, rows, Ended, Rising, TestsFrom}
use Rattle.facts.proofs.Rounding.{rows_under, rows-bounded, still-holds}
use Rattle.facts.proofs.Tables.{some-changed, none-changed}
use Rattle.facts.proofs.Settling.{sound-still}

-- facts over n events are facts over more
pub within_more : (g : Net) (L : List ℕ) (n m : ℕ) → n ≤ m → Within g L n → Within g L m
within_more g L n m h w =
    record {
      known =
          record {
            each = λ i l.
                let a = w.known.each i l in
                record { in-xs = a.in-xs; in_ys = a.in_ys; in-bs = a.in-bs; in_head = omega (arith, a.in_head); in_tail = omega (arith, a.in_tail); small = a.small };
          };
      few = w.few;
    }

module _ (g : Net) (L : List ℕ) (n : ℕ) (b : Within g L n) (p : 1 ≤ n) (z : List ℕ) (long : n ≤ length z) (u : Under g L z) (t : List (List ℕ)) (k : ℕ) (h : Ended g L z n k t) where
  -- the last two rows are those that n rounds have
  prev : get_or t (k - 1) [] ≡ rows g L z (n - 1)
  prev = h.rounds.row (k - 1) (omega arith) ∙ h.before

  final : get_or t k [] ≡ rows g L z (suc (n - 1))
  final = h.rounds.row k (omega arith) ∙ h.last ∙ ap (λ (i : ℕ). rows g L z i) (omega arith)

  -- no event rose between them, or one did
  pub tests-from : Rising n (get_or t (k - 1) []) (get_or t k []) None → TestsFrom g L z n (Some (get_or t (k - 1) []))
  tests-from r =
      record {
        keeps = rw prev (still-holds g L n b z long (n - 1) (none-changed g L z n (n - 1) _ _ prev final None r refl b long));
        under = rw prev (rows_under g L n b z long u (n - 1));
        risen = λ m s e. rw prev (rows-bounded g L n b z long m s (n - 1) e);
        unsound = λ y. absurd (true≢false y);
      }

  pub none-from : (v : ℕ) → Rising n (get_or t (k - 1) []) (get_or t k []) (Some v) → TestsFrom g L z n None
  none-from v r =
      record {
        keeps = tt;
        under = tt;
        risen = tt;
        unsound = λ y σ c. some-changed g L z n (n - 1) _ _ prev final (Some v) r refl (sound-still g L n b p z long u σ c);
      }
