-- Sums and products of binary32 that are exact. `Val x z d` says that x is finite and is z / d. Assumes nothing.
use mathlib.Core.Path.{◌≡◌, refl, sym, ap, ◌∙◌, subst}
use Prim.Native.Nat.{ℕ, ◌+◌, ◌-◌, ◌*◌, ◌^◌, ◌≤◌, ◌<◌}
use native.Mathlib.Nat.{le_trans, le_of_eq, le_of_lt, lt_of_lt_of_le, mul_assoc, mul_comm, mul_right_comm, mul-mul-mul_comm, mul-pos, add-mul, mul-sub, mul-le-mul_right, le_of_mul-le-mul_right, eq_of_mul-eq-mul_right, sub-eq-zero_of_le}
use native.Mathlib.Omega.{arith}
use mathlib.Core.Bool.{Bool, true, false, not, ◌&&◌, cond}
use lib.Dec.{T, ltb, ltb→lt, nltb→le}
use lib.Pow.{pow-add, pow_mono, shl_lt}
use lib.IntN.{ℤ, pos, neg_ℤ, nat_abs, ◌+ℤ◌, ◌-ℤ◌, ◌*ℤ◌, +ℤ_comm, neg_ℤ-+ℤ}
use lib.Ieee.{Float, nan, inf, fin, up, down, binary32, unlike, round, sum, add, sub, mul, neg}
use lib.Ieee.Fits.{down_pos}
use lib.Ieee.Exact.{HasValue, round_exact}
use Rattle.slider.specs.Readings.{signed}
use Rattle.slider.proofs.Whole.{abs-signed, neg-signed, sub-ge, sub-le, mul-signed, abs_neg}

pub record Val (x : Float) (z : ℤ) (d : ℕ) : Type 0 where
  pub sign : Bool
  pub size : ℕ
  pub value : HasValue x sign size d
  pub is : z ≡ signed sign size

-- ---- one rounding of a fraction that is a / 2 ^ j, with an a of 24 digits, changes nothing
rescale : (x : Float) (s : Bool) (w l num den : ℕ) → 0 < l → num * l ≡ w * den → HasValue x s w l → HasValue x s num den
rescale nan s w l num den p h v = v
rescale (inf t) s w l num den p h v = v
rescale (fin t m e) s w l num den p h v = (
  v.0,
  eq_of_mul-eq-mul_right l p (m * up e * den) (num * down e)
      (mul_right_comm (m * up e) den l
      ∙ ap (λ (x : ℕ). x * den) v.1
      ∙ mul_right_comm w (down e) den
      ∙ ap (λ (x : ℕ). x * down e) (sym h)
      ∙ mul_right_comm num l (down e)),
)

pub rounded : (s : Bool) (num den a j : ℕ) → 0 < den → j ≤ 149 → a < 2 ^ 24 → num * 2 ^ j ≡ a * den → HasValue (round binary32 s num den) s a (2 ^ j)
rounded s num den a j P J A h =
    let k = 149 - j in
    rescale (round binary32 s num den) s num den a (2 ^ j) P (sym h)
    (round_exact binary32 s num den a k P A (lt_of_lt_of_le (shl_lt 24 k A) (pow_mono (room j)))
    (ap (λ (z : ℕ). num * z) (ap (λ (z : ℕ). 2 ^ z) (sym (join j J)) ∙ pow-add 2 j k)
    ∙ sym (mul_assoc num (2 ^ j) (2 ^ k))
    ∙ ap (λ (z : ℕ). z * 2 ^ k) h
    ∙ mul_right_comm a den (2 ^ k)))
  where
    room : (j : ℕ) → 24 + (149 - j) ≤ 277
    room j = omega arith

    join : (j : ℕ) → j ≤ 149 → j + (149 - j) ≡ 149
    join j h = omega arith

-- ---- a sum of two fractions with one denominator c, each also over 2 ^ j
sum-val : (s t : Bool) (A B c a b j : ℕ) → 0 < c → j ≤ 149 → a + b < 2 ^ 24 → A * 2 ^ j ≡ a * c → B * 2 ^ j ≡ b * c → Val (sum binary32 s A t B c) (signed s a +ℤ signed t b) (2 ^ j)
unfolding sum
sum-val s t A B c a b j P J L p q = go s t
  where
    diff : (X Y x y : ℕ) → X * 2 ^ j ≡ x * c → Y * 2 ^ j ≡ y * c → (X - Y) * 2 ^ j ≡ (x - y) * c
    diff X Y x y p q =
        mul_comm (X - Y) (2 ^ j) ∙ mul-sub (2 ^ j) X Y ∙ ap (λ (z : ℕ). z - 2 ^ j * Y) (mul_comm (2 ^ j) X ∙ p) ∙ ap (λ (z : ℕ). x * c - z) (mul_comm (2 ^ j) Y ∙ q)
        ∙ sym (mul_comm (x - y) c ∙ mul-sub c x y ∙ ap (λ (z : ℕ). z - c * y) (mul_comm c x) ∙ ap (λ (z : ℕ). x * c - z) (mul_comm c y))

    order : (X Y x y : ℕ) → X * 2 ^ j ≡ x * c → Y * 2 ^ j ≡ y * c → X ≤ Y → x ≤ y
    order X Y x y p q h = le_of_mul-le-mul_right (le_trans (le_of_eq (sym p)) (le_trans (mul-le-mul_right (2 ^ j) h) (le_of_eq q))) P

    less : (x y : ℕ) → x + y < 2 ^ 24 → x - y < 2 ^ 24
    less x y h = omega arith

    alike : (r : Bool) → HasValue (round binary32 r (A + B) c) r (a + b) (2 ^ j)
    alike r = rounded r (A + B) c (a + b) j P J L (add-mul A B (2 ^ j) ∙ ap (λ (z : ℕ). z + B * 2 ^ j) p ∙ ap (λ (z : ℕ). a * c + z) q ∙ sym (add-mul a b c))

    go : (s t : Bool) → Val (sum binary32 s A t B c) (signed s a +ℤ signed t b) (2 ^ j)
    go false false = record { sign = false; size = a + b; value = alike false; is = refl }
    go true true = record { sign = true; size = a + b; value = alike true; is = sym (neg_ℤ-+ℤ (pos a) (pos b)) }
    go false true = pick (ltb A B) (ltb→lt A B) (nltb→le A B)
      where
        pick : (r : Bool) → (T r → A < B) → (T (not r) → B ≤ A) → Val (cond r (round binary32 true (B - A) c) (round binary32 false (A - B) c)) (pos a +ℤ neg_ℤ (pos b)) (2 ^ j)
        pick true l g =
            record {
              sign = true;
              size = b - a;
              value = rounded true (B - A) c (b - a) j P J (less b a (omega arith)) (diff B A b a q p);
              is = sub-le a b (order A B a b p q (le_of_lt (l tt)));
            }
        pick false l g =
            record {
              sign = false;
              size = a - b;
              value = rounded false (A - B) c (a - b) j P J (less a b L) (diff A B a b p q);
              is = sub-ge a b (order B A b a q p (g tt));
            }
    go true false = pick (ltb A B) (ltb→lt A B) (nltb→le A B)
      where
        -- a sum that is zero has no sign
        sure : (r : Bool) → (T (not r) → A ≤ B) → neg_ℤ (pos (a - b)) ≡ signed r (a - b)
        sure true g = refl
        sure false g = ap (λ (n : ℕ). neg_ℤ (pos n)) none ∙ sym (ap pos none)
          where
            none : a - b ≡ 0
            none = sub-eq-zero_of_le (order A B a b p q (g tt))

        pick : (r : Bool) → (T r → A < B) → (T (not r) → B ≤ A) → Val (cond r (round binary32 false (B - A) c) (round binary32 (true && ltb B A) (A - B) c)) (neg_ℤ (pos a) +ℤ pos b) (2 ^ j)
        pick true l g =
            record {
              sign = false;
              size = b - a;
              value = rounded false (B - A) c (b - a) j P J (less b a (omega arith)) (diff B A b a q p);
              is = +ℤ_comm (neg_ℤ (pos a)) (pos b) ∙ sub-ge b a (order A B a b p q (le_of_lt (l tt)));
            }
        pick false l g =
            record {
              sign = ltb B A;
              size = a - b;
              value = rounded (ltb B A) (A - B) c (a - b) j P J (less a b L) (diff A B a b p q);
              is = +ℤ_comm (neg_ℤ (pos a)) (pos b) ∙ sub-le b a (order B A b a q p (g tt)) ∙ sure (ltb B A) (nltb→le B A);
            }

-- ---- the operations
pub size_of : {x : Float} {z : ℤ} {d : ℕ} (v : Val x z d) → v.size ≡ nat_abs z
size_of v = sym (ap nat_abs v.is ∙ abs-signed v.sign v.size)

-- the sign that `Val` names is the number's own
pub own_sign : {s : Bool} {m : ℕ} {e z : ℤ} {d : ℕ} (v : Val (fin s m e) z d) → z ≡ signed s v.size
own_sign v = v.is ∙ ap (λ (k : Bool). signed k v.size) (sym v.value.0)

-- the same value, written otherwise
same-val : {x : Float} {y z : ℤ} {d : ℕ} → z ≡ y → Val x y d → Val x z d
same-val p v = record { sign = v.sign; size = v.size; value = v.value; is = p ∙ v.is }

fit2 : (a b x y : ℕ) → a ≡ x → b ≡ y → x + y < 2 ^ 24 → a + b < 2 ^ 24
fit2 a b x y e f h = omega arith

pub add-val : (x y : Float) (z w : ℤ) (j : ℕ) → j ≤ 149 → nat_abs z + nat_abs w < 2 ^ 24 → Val x z (2 ^ j) → Val y w (2 ^ j) → Val (add binary32 x y) (z +ℤ w) (2 ^ j)
unfolding add
add-val nan y z w j J L v u = absurd v.value
add-val (inf s) y z w j J L v u = absurd v.value
add-val (fin s m e) nan z w j J L v u = absurd u.value
add-val (fin s m e) (inf t) z w j J L v u = absurd u.value
add-val (fin s m e) (fin t n d) z w j J L v u =
    let a = v.size in
    let b = u.size in
    same-val (ap (λ (k : ℤ). k +ℤ w) (own_sign v) ∙ ap (λ (k : ℤ). signed s a +ℤ k) (own_sign u))
    (sum-val s t (m * up e * down d) (n * up d * down e) (down e * down d) a b j (mul-pos (down_pos e) (down_pos d)) J
    (fit2 a b (nat_abs z) (nat_abs w) (size_of v) (size_of u) L)
    (mul_right_comm (m * up e) (down d) (2 ^ j) ∙ ap (λ (k : ℕ). k * down d) v.value.1 ∙ mul_assoc a (down e) (down d))
    (mul_right_comm (n * up d) (down e) (2 ^ j) ∙ ap (λ (k : ℕ). k * down e) u.value.1 ∙ mul_right_comm b (down d) (down e) ∙ mul_assoc b (down e) (down d)))

neg-val : (x : Float) (z : ℤ) (d : ℕ) → Val x z d → Val (neg x) (neg_ℤ z) d
unfolding neg
neg-val nan z d v = absurd v.value
neg-val (inf s) z d v = absurd v.value
neg-val (fin s m e) z d v =
    record { sign = not v.sign; size = v.size; value = (ap not v.value.0, v.value.1); is = ap neg_ℤ v.is ∙ neg-signed v.sign v.size }

pub sub_val : (x y : Float) (z w : ℤ) (j : ℕ) → j ≤ 149 → nat_abs z + nat_abs w < 2 ^ 24 → Val x z (2 ^ j) → Val y w (2 ^ j) → Val (sub binary32 x y) (z -ℤ w) (2 ^ j)
unfolding sub
sub_val x y z w j J L v u = add-val x (neg y) z (neg_ℤ w) j J (subst (λ (n : ℕ). nat_abs z + n < 2 ^ 24) (sym (abs_neg w)) L) v (neg-val y w (2 ^ j) u)

pub mul_val : (x y : Float) (z w : ℤ) (i j : ℕ) → i + j ≤ 149 → nat_abs z * nat_abs w < 2 ^ 24 → Val x z (2 ^ i) → Val y w (2 ^ j) → Val (mul binary32 x y) (z *ℤ w) (2 ^ (i + j))
unfolding mul
mul_val nan y z w i j J L v u = absurd v.value
mul_val (inf s) y z w i j J L v u = absurd v.value
mul_val (fin s m e) nan z w i j J L v u = absurd u.value
mul_val (fin s m e) (inf t) z w i j J L v u = absurd u.value
mul_val (fin s m e) (fin t n d) z w i j J L v u =
    let a = v.size in
    let b = u.size in
    record {
      sign = unlike s t;
      size = a * b;
      value = rounded (unlike s t) (m * up e * (n * up d)) (down e * down d) (a * b) (i + j) (mul-pos (down_pos e) (down_pos d)) J
          (subst (λ (k : ℕ). k < 2 ^ 24) (sym (ap (λ (k : ℕ). k * b) (size_of v) ∙ ap (λ (k : ℕ). nat_abs z * k) (size_of u))) L)
          (ap (λ (k : ℕ). m * up e * (n * up d) * k) (pow-add 2 i j)
          ∙ mul-mul-mul_comm (m * up e) (n * up d) (2 ^ i) (2 ^ j)
          ∙ ap (λ (k : ℕ). k * (n * up d * 2 ^ j)) v.value.1
          ∙ ap (λ (k : ℕ). a * down e * k) u.value.1
          ∙ mul-mul-mul_comm a (down e) b (down d));
      is = ap (λ (k : ℤ). k *ℤ w) (own_sign v) ∙ ap (λ (k : ℤ). signed s a *ℤ k) (own_sign u) ∙ mul-signed s t a b;
    }
