-- The order of facts and their copies do not count: sets of facts with the same members are as sound, and have the same shortest reason. Assumes nothing.
use mathlib.Core.Path.{◌≡◌, refl, sym, ◌∙◌, subst}
use mathlib.Core.Bool.{false}
use mathlib.Core.Option.{some}
use mathlib.Core.List.{List, [], ◌∷◌, Memᴰ}
use Prim.Native.Nat.{ℕ}
use native.Mathlib.Omega.{arith}
use lib.Dec.{T}
use Rattle.meaning.specs.Problem.{Alternative, Timetable, satisfied, Satisfies}
use Rattle.meaning.specs.Decision.{sound}
use Rattle.meaning.specs.Reasons.{named, loops}
use Rattle.meaning.specs.Shortest.{Shortest, shortest}
use Rattle.meaning.proofs.Settling.{Each}
use Rattle.meaning.proofs.Deciding.{satisfies-each, each-satisfies, sound-decides}
use Rattle.meaning.proofs.First.{sound-same}
use Rattle.meaning.proofs.Numbered.{Numbered, Own, named-each, numbered-own}
use Rattle.meaning.proofs.Ways.{Way, rise, fall, loops-loop, loop-loops}
use Rattle.meaning.proofs.Reasoning.{shortest-is, shortest-one}

pub each_member : (P : Alternative → Type 0) (fs : List Alternative) (a : Alternative) → Each P fs → Memᴰ a fs → P a
each_member P [] a h m = elim m [ ]
each_member P (b ∷ fs) a h (Memᴰ.head e) = subst P (sym e) h.0
each_member P (b ∷ fs) a h (Memᴰ.tail m) = each_member P fs a h.1 m

pub member-each : (P : Alternative → Type 0) (fs : List Alternative) → ((a : Alternative) → Memᴰ a fs → P a) → Each P fs
member-each P [] h = tt
member-each P (a ∷ fs) h = (h a (Memᴰ.head refl), member-each P fs (λ b m. h b (Memᴰ.tail m)))

abbrev pub Among : List Alternative → List Alternative → Type 0
Among fs gs = (a : Alternative) → Memᴰ a fs → Memᴰ a gs

pub any_order : (fs gs : List Alternative) → Among fs gs → Among gs fs → sound fs ≡ sound gs
any_order fs gs f g = sound-same sound sound-decides fs gs (λ t h. moved t fs gs g h) (λ t h. moved t gs fs f h)
  where
    moved : (t : Timetable) (fs gs : List Alternative) → Among gs fs → Satisfies t fs → Satisfies t gs
    moved t fs gs g h = each-satisfies t gs (member-each (λ a. T (satisfied t a)) gs (λ a m. each_member (λ a. T (satisfied t a)) fs a (satisfies-each t fs h) (g a m)))

-- ---- the shortest reason
module _ (f : ℕ → Alternative) (fs gs : List Alternative) (numbered : Numbered f gs) (among : Among fs gs) where
  -- a number names the same fact
  same-named : (b : ℕ) (a : Alternative) → named fs b ≡ some a → named gs b ≡ some a
  same-named b a e =
      let (m, n) = named-each (λ x. Memᴰ x gs) fs b a (member-each (λ x. Memᴰ x gs) fs among) e in
      subst (λ (j : ℕ). named gs j ≡ some a) n (each_member (Own gs) gs a (numbered-own f gs numbered) m)

  same_way : (l : List ℕ) (u v : ℕ) → Way fs u l v → Way gs u l v × (rise fs l ≡ rise gs l) × (fall fs l ≡ fall gs l)
  unfolding rise fall
  same_way [] u v p = (p, refl, refl)
  same_way (b ∷ l) u v (a, e, h, p) =
      let (q, r, s) = same_way l a.x v p in
      ((a, same-named b a e, h, q), rw (e, same-named b a e, r) refl, rw (e, same-named b a e, s) refl)

  same-loops : (l : List ℕ) → T (loops fs l) → T (loops gs l)
  same-loops l t =
      let r = loops-loop fs l t in
      let (w, p, q) = same_way l r.node r.node r.way in
      loop-loops gs l (record { node = r.node; way = w; below = omega (arith, r.below, p, q) })

pub any-order-reason : (f : ℕ → Alternative) (fs gs : List Alternative) → Numbered f fs → Among fs gs → Among gs fs → sound fs ≡ false → shortest fs ≡ shortest gs
any-order-reason f fs gs h i j e = shortest-one f gs k (sym (any_order fs gs i j) ∙ e) (shortest fs) same
  where
    k : Numbered f gs
    k = member-each (λ a. f a.no ≡ a) gs (λ a m. each_member (λ a. f a.no ≡ a) fs a h (j a m))

    s : Shortest fs (shortest fs)
    s = shortest-is f fs h e

    same : Shortest gs (shortest fs)
    same =
        record {
          closed = same-loops f fs gs k i (shortest fs) s.closed;
          fewest = λ l t. s.fewest l (same-loops f gs fs h j l t);
          first = λ l t. s.first l (same-loops f gs fs h j l t);
        }
