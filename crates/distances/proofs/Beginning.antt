-- The table of no facts, written number by number. Assumes nothing.
use Rattle.std.proofs.Common.{rules, replicate}
use Rattle.std.proofs.lemmas.List.{places}
use borrow.Rule.Slice.PartMut.{put_mid}
use Rattle.std.proofs.lemmas.Nat.{same_from_place}
use mathlib.Core.Path.{◌≡◌, refl, sym, ap, ◌∙◌}
use mathlib.Core.Logic.{◌⊎◌, inl, inr, by_cases}
use mathlib.Core.List.Memᴰ
use mathlib.Core.List.{List, []}
use Prim.Native.Nat.{ℕ, ◌+◌, ◌-◌, ◌*◌, ◌<◌, ◌≤◌}
use native.Mathlib.Omega.{arith}
use native.Mathlib.Decide.{ℕ_discrete}
use lib.ListN.{length, set, length-set}
use lib.Seq.{get_or-set_same, get_or-set_other}
use Rattle.problem.specs.Arcs.{at}
use Rattle.distances.specs.Adding.{fresh}
use Rattle.distances.specs.Numbers.{no_way, middle, distance, table_at}
use Rattle.distances.specs.Rows.{Beside, Outside}
use Rattle.distances.specs.Rows.{Blanked, Begun}
use Rattle.distances.proofs.Afresh.{fresh-same, fresh-other, fresh-day}
use Rattle.distances.proofs.Numbers.{place}
use Rattle.distances.proofs.Meaning.{same-day}

-- a part of the list filled with none
pub filled : (r x : List ℕ) (from to : ℕ) → from ≤ to → to ≤ length r → x ≡ replicate (to - from) no_way → Blanked r (put_mid from (to - from) r x) from to
filled r x from to f l e =
    rw e (record {
      long = search (rules, places);
      blank = λ j a b. grind (arith, places);
      rest = other;
    })
  where
    other : (j : ℕ) → (j < from) ⊎ (to ≤ j) → at (put_mid from (to - from) r (replicate (to - from) no_way)) j ≡ at r j
    other j (inl a) = grind (arith, places)
    other j (inr a) = grind (arith, places)

-- the first k events are 0 from themselves, and no other way leads anywhere
pub record Started (r s : List ℕ) (base w n k : ℕ) : Type 0 where
  pub long : length s ≡ length r
  pub own : (u : ℕ) → u < k → at s (base + (u * w + u)) ≡ middle
  pub other : (u v : ℕ) → u < n → v < n → (u ≡ v → k ≤ u) → at s (base + (u * w + v)) ≡ no_way
  pub past : (j : ℕ) → base ≤ j → j < base + n * w → Outside j base w n → at s j ≡ no_way
  pub rest : (j : ℕ) → Beside j base (n * w) → at s j ≡ at r j

module _ (r : List ℕ) (base w n : ℕ) (wide : n ≤ w) where
  pub started_none : (s : List ℕ) → Blanked s r base (base + n * w) → Started r r base w n 0
  started_none s h =
      record {
        long = refl;
        own = λ u l. absurd (omega arith);
        other = λ u v l m q. h.blank (base + (u * w + v)) (omega arith) (omega (arith, place n w u v l (omega arith)));
        past = λ j a b o. h.blank j a b;
        rest = λ j b. refl;
      }

  pub started-more : (s : List ℕ) (k : ℕ) {p : ℕ} → Started r s base w n k → k < n → base + n * w ≤ length r → p ≡ base + (k * w + k) → Started r (set s p middle) base w n (k + 1)
  started-more s k h l f q =
      rw q (record {
        long = length-set s (base + (k * w + k)) middle ∙ h.long;
        own = λ u m. by_cases (ℕ_discrete u k)
            (λ q. rw q (get_or-set_same s (base + (k * w + k)) middle 0 (omega (arith, h.long, place n w k k l (omega arith)))))
            (λ q. get_or-set_other s (base + (k * w + k)) (base + (u * w + u)) middle 0 (λ e. q (same_from_place u u k k w (omega arith) (omega arith) (omega arith)).0) ∙ h.own u (omega arith));
        other = λ u v a b q. get_or-set_other s (base + (k * w + k)) (base + (u * w + v)) middle 0
            (λ e. let (x, y) = same_from_place u v k k w (omega arith) (omega arith) (omega arith) in never-past (q (x ∙ sym y)) x)
            ∙ h.other u v a b (λ e. less (q e));
        past = λ j a b o. get_or-set_other s (base + (k * w + k)) j middle 0 (o k k l l) ∙ h.past j a b o;
        rest = rest;
      })
    where
      never-past : {u : ℕ} → k + 1 ≤ u → u ≡ k → ⊥
      never-past a b = omega arith

      less : {u : ℕ} → k + 1 ≤ u → k ≤ u
      less a = omega arith

      rest : (j : ℕ) → Beside j base (n * w) → at (set s (base + (k * w + k)) middle) j ≡ at r j
      rest j (inl b) = get_or-set_other s (base + (k * w + k)) j middle 0 (omega arith) ∙ h.rest j (inl b)
      rest j (inr b) = get_or-set_other s (base + (k * w + k)) j middle 0 (omega (arith, place n w k k l (omega arith))) ∙ h.rest j (inr b)

  -- the numbers of no facts
  pub begun : (z s : List ℕ) → Blanked z r base (base + n * w) → Started r s base w n n → Begun z s base w n
  begun z s f h =
      record {
        long = h.long ∙ f.long;
        holds =
            record {
              day = same-day n [] fresh (table_at s base w) same (fresh-day n);
              ranged = record { each = λ u v l m. by_cases (ℕ_discrete u v) (λ q. inr (in-it (number u v l m q))) (λ q. inl (h.other u v l m (λ e. absurd (q e)))) };
              bounded = λ a m. absurd (Memᴰ.not-nil m);
            };
        past = h.past;
        rest = λ j b. h.rest j b ∙ f.rest j b;
      }
    where
      number : (u v : ℕ) → u < n → v < n → u ≡ v → at s (base + (u * w + v)) ≡ middle
      number u v l m q = ap (λ (j : ℕ). at s (base + (u * w + j))) (sym q) ∙ h.own u l

      in-it : {e : ℕ} → e ≡ middle → (1 ≤ e) × (e < 2 * middle)
      in-it q = omega arith

      same : (u v : ℕ) → u < n → v < n → table_at s base w u v ≡ fresh u v
      same u v l m =
          by_cases (ℕ_discrete u v)
          (λ q. ap distance (number u v l m q) ∙ (unfold distance in sym (fresh-same u v q)))
          (λ q. ap distance (h.other u v l m (λ e. absurd (q e))) ∙ (unfold distance in sym (fresh-other u v q)))
