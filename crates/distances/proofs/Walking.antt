-- Walks: joined, over more facts, and their sums under a timetable; the distance between two events is one, and follows from the set of facts. An event is 0 from itself, and no
-- detour is shorter than a distance. Assumes nothing.
use mathlib.Core.Path.{◌≡◌, sym, ap, ◌∙◌, subst}
use mathlib.Core.List.{List, Memᴰ}
use Prim.Native.Nat.{ℕ, ◌+◌, ◌<◌, ◌≤◌}
use native.Mathlib.Omega.{arith}
use lib.Dec.{T}
use lib.IntN.{ℤ, pos, ◌+ℤ◌, ◌-ℤ◌, +ℤ_idr, +ℤ_idl, +ℤ_assoc}
use lib.Signed.{◌≤ℤ◌}
use Rattle.meaning.specs.Problem.{Alternative, Timetable, satisfied, Satisfies}
use Rattle.meaning.proofs.Deciding.{satisfies-each, each-satisfies}
use Rattle.meaning.proofs.Order.{Among, each_member, member-each}
use Rattle.distances.specs.Distances.{Walk, stay, onward, Distance, far, AtMost, IsDistance, Table, DayOf}
use Rattle.laws.proofs.Integers.{up, down, add-law, minus-law, le-to, le_of, ≤ℤ-antisym}
use Rattle.distances.proofs.Distances.{at-most-more, at-most-far, far-one, same-distance}

pub over-more : {fs gs : List Alternative} {u v : ℕ} {s : ℤ} → Among fs gs → Walk fs u v s → Walk gs u v s
over-more f stay = stay
over-more f (onward a w m) = onward a (over-more f w) (f a m)

pub joined : {fs : List Alternative} {u v w : ℕ} {s r : ℤ} → Walk fs u v s → Walk fs v w r → Walk fs u w (s +ℤ r)
joined {fs} {u} {v} {s = s} p stay = subst (λ (z : ℤ). Walk fs u v z) (sym (+ℤ_idr s)) p
joined {fs} {u} {s = s} p (onward {s = r} a q m) = subst (λ (z : ℤ). Walk fs u a.x z) (+ℤ_assoc s r a.c) (onward a (joined p q) m)

-- a walk of one fact
pub single : {fs : List Alternative} (a : Alternative) → Memᴰ a fs → Walk fs a.y a.x a.c
single {fs} a m = subst (λ (z : ℤ). Walk fs a.y a.x z) (+ℤ_idl a.c) (onward a stay m)

-- ---- under a timetable
pub satisfies-member : (t : Timetable) (fs : List Alternative) (a : Alternative) → Satisfies t fs → Memᴰ a fs → T (satisfied t a)
satisfies-member t fs a h m = each_member (λ b. T (satisfied t b)) fs a (satisfies-each t fs h) m

pub members-satisfied : (t : Timetable) (fs : List Alternative) → ((a : Alternative) → Memᴰ a fs → T (satisfied t a)) → Satisfies t fs
members-satisfied t fs h = each-satisfies t fs (member-each (λ b. T (satisfied t b)) fs h)

-- a fact in sums: time of x ≤ time of y + c
pub satisfied-sum : (t : Timetable) (a : Alternative) → T (satisfied t a) → up (t a.x) + down (t a.y) + down a.c ≤ up (t a.y) + up a.c + down (t a.x)
unfolding satisfied
satisfied-sum t a h = omega (arith, le-to (t a.x -ℤ t a.y) a.c (record { le = h }), minus-law (t a.x) (t a.y))

pub sum-satisfied : (t : Timetable) (a : Alternative) → up (t a.x) + down (t a.y) + down a.c ≤ up (t a.y) + up a.c + down (t a.x) → T (satisfied t a)
unfolding satisfied
sum-satisfied t a h = (le_of (t a.x -ℤ t a.y) a.c (omega (arith, minus-law (t a.x) (t a.y)))).le

-- a timetable of the facts keeps every walk: time of v ≤ time of u + sum
pub walk_kept : (t : Timetable) (fs : List Alternative) → Satisfies t fs → {u v : ℕ} {s : ℤ} → Walk fs u v s → up (t v) + down (t u) + down s ≤ up (t u) + up s + down (t v)
walk_kept t fs h stay = omega arith
walk_kept t fs h (onward {s = s} a w m) = omega (arith, walk_kept t fs h w, satisfied-sum t a (satisfies-member t fs a h m), add-law s a.c)

-- ---- the distance
-- a distance that is at most a sum has a walk that is
pub shown : {fs : List Alternative} {u v : ℕ} {d : Distance} → IsDistance fs u v d → {s : ℤ} → AtMost d s → (z : ℤ) × Walk fs u v z × (z ≤ℤ s)
shown h l = let (z, e, k) = at-most-far l in (z, h.walked z e, k)

-- what is shortest over some facts is at most what is shortest over fewer
no-longer : {fs gs : List Alternative} {u v : ℕ} {d e : Distance} → Among fs gs → IsDistance fs u v d → IsDistance gs u v e → (s : ℤ) → AtMost d s → AtMost e s
no-longer f h k s l = let (z, w, b) = shown h l in at-most-more (k.least z (over-more f w)) b

-- the distance follows from the set of facts: their order and their copies do not count
pub any_order : {fs gs : List Alternative} {u v : ℕ} {d e : Distance} → Among fs gs → Among gs fs → IsDistance fs u v d → IsDistance gs u v e → d ≡ e
any_order {d = d} {e = e} f g h k = same-distance d e (no-longer f h k) (no-longer g k h)

-- one day for a set of facts
pub one-day : (n : ℕ) (fs gs : List Alternative) (d e : Table) → Among fs gs → Among gs fs → DayOf n fs d → DayOf n gs e → (u v : ℕ) → u < n → v < n → d u v ≡ e u v
one-day n fs gs d e f g h k u v l m = any_order f g (h.each u v l m) (k.each u v l m)

-- ---- what every day passes
module _ (n : ℕ) (fs : List Alternative) (d : Table) (day : DayOf n fs d) where
  -- a walk from an event to itself does not sum below 0: gone twice, it would be shorter
  round_trip : (u : ℕ) → u < n → (z : ℤ) → d u u ≡ far z → pos 0 ≤ℤ z
  round_trip u l z e =
      let w : Walk fs u u z = (day.each u u l l).walked z e in
      let (y, f, k) = at-most-far ((day.each u u l l).least (z +ℤ z) (joined w w)) in
      let q : y ≡ z = far-one (sym f ∙ e) in
      le_of (pos 0) z (omega (arith, le-to y (z +ℤ z) k, add-law z z, ap up q, ap down q))

  -- "0 from an event to itself"
  pub zero-itself : (u : ℕ) → u < n → d u u ≡ far (pos 0)
  zero-itself u l = let (z, e, k) = at-most-far ((day.each u u l l).least (pos 0) stay) in e ∙ ap far (≤ℤ-antisym k (round_trip u l z e))

  pub no-detour : (u w v : ℕ) → u < n → w < n → v < n → (p q : ℤ) → d u w ≡ far p → d w v ≡ far q → AtMost (d u v) (p +ℤ q)
  no-detour u w v l m k p q e f = (day.each u v l k).least (p +ℤ q) (joined ((day.each u w l m).walked p e) ((day.each w v m k).walked q f))
