-- Facts with the spans of every pair of events: they are as sound as without, and no distance under them lies beyond a span. Assumes nothing.
use mathlib.Core.Path.{◌≡◌, refl, sym, ap, ◌∙◌, subst}
use mathlib.Core.Logic.{⊎_elim, by_cases}
use mathlib.Core.List.Memᴰ
use mathlib.Core.List.{List, ◌++◌, Memᴰ}
use Prim.Native.Nat.{ℕ, zero, suc, ◌+◌, ◌-◌, ◌<◌, ◌≤◌}
use native.Mathlib.Nat.{mul-le-mul_right}
use native.Mathlib.Decide.{ℕ_discrete}
use native.Mathlib.Omega.{arith}
use mathlib.Core.Bool.{cond}
use lib.Dec.{T, eqb}
use borrow.Author.Tests.{eq-eqb, ne_eqb}
use lib.IntN.{ℤ, pos, negsuc, nat_abs, ◌+ℤ◌}
use lib.Signed.{◌≤ℤ◌, ≤ℤ_refl}
use Rattle.laws.proofs.Tests.{same_test}
use Rattle.laws.proofs.Integers.{down, add-law, le-to, le_of, abs_is, one_side}
use Rattle.meaning.specs.Limits.{most_events}
use Rattle.meaning.specs.Problem.{Alternative}
use Rattle.meaning.specs.Decision.{at, ask, least, sound}
use Rattle.meaning.proofs.Settling.{Each, In, Meets}
use Rattle.meaning.proofs.Deciding.{day, day-satisfies, least-met, sound-decides}
use Rattle.meaning.proofs.Order.{each_member, member-each}
use Rattle.meaning.proofs.Range.{Small, least-bound}
use Rattle.problem.specs.Arcs.{bias, farthest}
use Rattle.distances.specs.Distances.{Walk, stay, onward, far, AtMost, most, Table, DayOf}
use Rattle.distances.proofs.Distances.{at-most-far, far-one}
use Rattle.distances.proofs.Walking.{satisfies-member, members-satisfied, single, zero-itself, no-detour}
use Rattle.taking.specs.Spans.{span, spans_from, spans_between, spans}

-- ---- which facts the spans are
pub record IsSpan (n : ℕ) (a : Alternative) : Type 0 where
  pub from : ℕ
  pub to : ℕ
  pub starts : from < n
  pub ends : to < n
  pub same : a ≡ span from to

from-are : (n u k : ℕ) → u < n → k ≤ n → (a : Alternative) → Memᴰ a (spans_from u k) → IsSpan n a
unfolding spans_from
from-are n u zero l m a i = absurd (Memᴰ.not-nil i)
from-are n u (suc k) l m a i =
    ⊎_elim (λ e. record { from = u; to = k; starts = l; ends = omega arith; same = e }) (λ j. from-are n u k l (omega arith) a j) (Memᴰ.cases_cons i)

between-are : (n k : ℕ) → k ≤ n → (a : Alternative) → Memᴰ a (spans_between n k) → IsSpan n a
unfolding spans_between
between-are n zero m a i = absurd (Memᴰ.not-nil i)
between-are n (suc k) m a i =
    ⊎_elim (λ j. from-are n k n (omega arith) (omega arith) a j) (λ j. between-are n k (omega arith) a j) (Memᴰ.append_cases (spans_from k n) i)

pub spans-are : (n : ℕ) (a : Alternative) → Memᴰ a (spans n) → IsSpan n a
spans-are n a i = between-are n n (omega arith) a i

in-from : (u k v : ℕ) → v < k → Memᴰ (span u v) (spans_from u k)
unfolding spans_from
in-from u zero v l = absurd (omega arith)
in-from u (suc k) v l = by_cases (ℕ_discrete v k) (λ e. Memᴰ.head (ap (span u) e)) (λ d. Memᴰ.tail (in-from u k v (omega arith)))

in-between : (n k u v : ℕ) → u < k → v < n → Memᴰ (span u v) (spans_between n k)
unfolding spans_between
in-between n zero u v l m = absurd (omega arith)
in-between n (suc k) u v l m =
    by_cases (ℕ_discrete u k) (λ e. rw e (Memᴰ.append_left (spans_between n k) (in-from k n v m))) (λ d. Memᴰ.append_right (spans_from k n) (in-between n k u v (omega arith) m))

pub span-in : (n u v : ℕ) → u < n → v < n → Memᴰ (span u v) (spans n)
span-in n u v l m = in-between n n u v l m

-- ---- with them facts are as sound as without
small_of : (a : Alternative) → nat_abs a.c ≤ bias → Small bias a
small_of a h s = go a.c h
  where
    go : (c : ℤ) → nat_abs c ≤ bias → ask s c ≤ s + bias
    go (pos k) l = unfold ask in omega arith
    go (negsuc k) l = unfold ask in omega arith

-- A timetable of all is one of the facts. The other way round, the latest timetable of the facts has every event at most `farthest` before closing, and so no two further apart.
pub sound-spanned : (n : ℕ) (fs : List Alternative) → n ≤ most_events → ((a : Alternative) → Memᴰ a fs → In n a) → ((a : Alternative) → Memᴰ a fs → nat_abs a.c ≤ bias) → sound (fs ++ spans n) ≡ sound fs
sound-spanned n fs few inside bounded =
    same_test (sound (fs ++ spans n)) (sound fs)
    (λ h. let (t, k) = sound-decides.right (fs ++ spans n) h in sound-decides.whole fs t (members-satisfied t fs (λ a m. satisfies-member t (fs ++ spans n) a k (Memᴰ.append_left (spans n) m))))
    (λ h. sound-decides.whole (fs ++ spans n) (day latest) (day-satisfies latest (fs ++ spans n) (member-each (Meets latest) (fs ++ spans n) (λ a m. ⊎_elim (λ j. each_member (Meets latest) fs a (met h) j) (λ j. spanned h a (spans-are n a j)) (Memᴰ.append_cases fs m)))))
  where
    latest : ℕ → ℕ
    latest = at (least n fs)

    inside-each : Each (In n) fs
    inside-each = member-each (In n) fs inside

    met : T (sound fs) → Each (Meets latest) fs
    met h = least-met n fs inside-each (sound-decides.right fs h)

    near : T (sound fs) → (e : ℕ) → e < n → latest e ≤ farthest
    near h e l =
        omega (arith, least-bound n fs inside-each (met h) bias (member-each (Small bias) fs (λ a m. small_of a (bounded a m))) e l, mul-le-mul_right bias (let q : n - 1 ≤ most_events - 1 = omega arith in q))

    spanned : T (sound fs) → (a : Alternative) → IsSpan n a → Meets latest a
    spanned h a i = subst (λ (a : Alternative). Meets latest a) (sym i.same) (unfold ask in omega (arith, near h i.from i.starts))

-- ---- distances under them
module _ (n : ℕ) (fs : List Alternative) (d : Table) (spanned : DayOf n (fs ++ spans n) d) where
  -- no distance lies beyond a span: a span leads there, and from there back to the start no way is so short that the two sum below 0
  pub spanned-near : (u v : ℕ) → u < n → v < n → (z : ℤ) → d u v ≡ far z → nat_abs z ≤ farthest
  spanned-near u v l m z e =
      let (b, f, k) = at-most-far ((spanned.each u v l m).least (pos farthest) (single (span u v) (Memᴰ.append_right fs (span-in n u v l m)))) in
      let (r, g, j) = at-most-far ((spanned.each v u m l).least (pos farthest) (single (span v u) (Memᴰ.append_right fs (span-in n v u m l)))) in
      let (o, i, c) = at-most-far (no-detour n (fs ++ spans n) d spanned u v u l m l z r e g) in
      let same : b ≡ z = far-one (sym f ∙ e) in
      let zero : o ≡ pos 0 = far-one (sym i ∙ zero-itself n (fs ++ spans n) d spanned u l) in
      let most : z ≤ℤ pos farthest = subst (λ (b : ℤ). b ≤ℤ pos farthest) same k in
      let back : pos 0 ≤ℤ (z +ℤ r) = subst (λ (o : ℤ). o ≤ℤ (z +ℤ r)) zero c in
      near r most back j
    where
      near : (r : ℤ) → z ≤ℤ pos farthest → pos 0 ≤ℤ (z +ℤ r) → r ≤ℤ pos farthest → nat_abs z ≤ farthest
      near r a b c =
          let p = le-to z (pos farthest) a in
          let q = le-to (pos 0) (z +ℤ r) b in
          let s = le-to r (pos farthest) c in
          ⊎_elim (λ e. omega (arith, abs_is z, p, q, s, add-law z r)) (λ e. omega (arith, abs_is z, p)) (one_side z)

-- ---- no facts
-- with spans alone an event is 0 from itself, and a span from each other
pub apart : ℕ → ℕ → ℤ
apart u v = cond (eqb u v) (pos 0) (pos farthest)

pub apart-same : (u v : ℕ) → u ≡ v → apart u v ≡ pos 0
unfolding apart
apart-same u v e = rw (eq-eqb u v e)

pub apart-other : (u v : ℕ) → (u ≡ v → ⊥) → apart u v ≡ pos farthest
unfolding apart
apart-other u v e = rw (ne_eqb u v e)

pub spans-day : (n : ℕ) → DayOf n (spans n) (λ u v. far (apart u v))
spans-day n =
    record {
      within = λ a m. let i = spans-are n a m in rw i.same (i.ends, i.starts);
      each = λ u v l m. record { walked = λ z e. subst (λ (z : ℤ). Walk (spans n) u v z) (far-one e) (walked u v l m); least = λ s w. least w };
    }
  where
    walked : (u v : ℕ) → u < n → v < n → Walk (spans n) u v (apart u v)
    walked u v l m =
        by_cases (ℕ_discrete u v) (λ e. rw (apart-same u v e) (subst (λ (v : ℕ). Walk (spans n) u v (pos 0)) e stay))
        (λ d. rw (apart-other u v d) (single (span u v) (span-in n u v l m)))

    -- a walk of spans sums to no less than 0, and to no less than one where it leads to another event
    rises : {u v : ℕ} {s : ℤ} → Walk (spans n) u v s → down s ≡ 0
    rises stay = refl
    rises (onward {s = s} a w m) = let i = spans-are n a m in rw i.same (omega (arith, rises w, add-law s (pos farthest), one_side (s +ℤ pos farthest)))

    least : {u v : ℕ} {s : ℤ} → Walk (spans n) u v s → AtMost (far (apart u v)) s
    least {u} stay = rw (apart-same u u refl) (most (≤ℤ_refl (pos 0)))
    least {u} (onward {s = s} a w m) =
        let i = spans-are n a m in
        let r = rises w in
        most (subst (λ (c : ℤ). apart u a.x ≤ℤ (s +ℤ c)) (sym (ap (λ (a : Alternative). a.c) i.same)) (by_cases (ℕ_discrete u a.x) (λ e. rw (apart-same u a.x e) (le_of (pos 0) (s +ℤ pos farthest) (omega (arith, add-law s (pos farthest))))) (λ d. rw (apart-other u a.x d) (le_of (pos farthest) (s +ℤ pos farthest) (omega (arith, add-law s (pos farthest)))))))
