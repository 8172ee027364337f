-- Span: low + (high - low) * position is exact in binary32, so what a use takes of it is what it takes of the fraction of 01. Assumes nothing.
use mathlib.Core.Path.{◌≡◌, refl, sym, ap, ◌∙◌, subst}
use Prim.Native.Nat.{ℕ, ◌+◌, ◌*◌, ◌^◌, ◌≤◌, ◌<◌}
use native.Mathlib.Nat.{le_refl, mul_comm, mul_right_comm, mul-le-mul, mul-one}
use native.Mathlib.Omega.{arith}
use mathlib.Core.Bool.{Bool, true, false}
use lib.Dec.{T, lit<}
use lib.IntN.{ℤ, pos, neg_ℤ, nat_abs, ◌+ℤ◌, ◌-ℤ◌, ◌*ℤ◌}
use lib.Ieee.{Float, nan, inf, fin, up, down, binary32, unlike, add, sub, mul}
use Rattle.slider.specs.declared.Use.{Use}
use Rattle.slider.specs.Readings.{end_limit, grid, signed, Reading, at, off, reading, end_of, position_of}
use Rattle.slider.specs.Slider.{unread, bounded, span_gives, fixed_gives}
use Rattle.slider.specs.Steps.{is_at}
use Rattle.slider.proofs.Whole.{abs-add, abs_neg, abs-mul, mul-signed}
use Rattle.slider.proofs.Exactly.{Val, add-val, sub_val, mul_val}
use Rattle.slider.proofs.Readings.{at_of, read-val, within-at, allowed-le, fixed-val}

-- a whole number in parts of 1 / 256
in_parts : (x : Float) (z : ℤ) → Val x z 1 → Val x (pos grid *ℤ z) grid
in_parts nan z v = absurd v.value
in_parts (inf s) z v = absurd v.value
in_parts (fin s m e) z v =
    record {
      sign = v.sign;
      size = grid * v.size;
      value = (v.value.0, ap (λ (k : ℕ). k * grid) (sym (mul-one (m * up e)) ∙ v.value.1) ∙ mul_right_comm v.size (down e) grid ∙ ap (λ (k : ℕ). k * down e) (mul_comm v.size grid));
      is = ap (λ (k : ℤ). pos grid *ℤ k) v.is ∙ mul-signed false v.sign grid v.size ∙ ap (λ (t : Bool). signed t (grid * v.size)) (same v.sign);
    }
  where
    same : (b : Bool) → unlike false b ≡ b
    same true = refl
    same false = refl

-- no step leaves 24 digits: |high - low| ≤ 8,192, its product with k ≤ 256 is at most 2 ^ 21, and the sum stays below 2 ^ 24
pub span-taken : (u : Use) (low high p : Float) (l h k : ℤ) → end_of low ≡ at l → end_of high ≡ at h → position_of p ≡ at k
    → fixed_gives u (add binary32 low (mul binary32 (sub binary32 high low) p)) ≡ bounded u (pos grid *ℤ l +ℤ (h -ℤ l) *ℤ k) grid
span-taken u low high p l h k el eh ek =
    let wl = within-at true end_limit (reading 1 low) l el in
    let wh = within-at true end_limit (reading 1 high) h eh in
    let wk = within-at false grid (reading grid p) k ek in
    let vl : Val low l 1 = read-val 1 low l wl.0 in
    let vh : Val high h 1 = read-val 1 high h wh.0 in
    let vk : Val p k grid = read-val grid p k wk.0 in
    let bl : nat_abs l ≤ end_limit = allowed-le true end_limit l wl.1 in
    let bh : nat_abs h ≤ end_limit = allowed-le true end_limit h wh.1 in
    let bk : nat_abs k ≤ grid = allowed-le false grid k wk.1 in
    let dv : Val (sub binary32 high low) (h -ℤ l) 1 = sub_val high low h l 0 (omega arith) (omega arith) vh vl in
    let bd : nat_abs (h -ℤ l) ≤ 8192 = near (nat_abs (h -ℤ l)) (nat_abs h) (nat_abs l) (nat_abs (neg_ℤ l)) (abs-add h (neg_ℤ l)) (abs_neg l) bh bl in
    let bp : nat_abs (h -ℤ l) * nat_abs k ≤ 2097152 = mul-le-mul bd bk in
    let pv : Val (mul binary32 (sub binary32 high low) p) ((h -ℤ l) *ℤ k) grid = mul_val (sub binary32 high low) p (h -ℤ l) k 0 8 (omega arith) (small _ bp) dv vk in
    let bq : nat_abs ((h -ℤ l) *ℤ k) ≤ 2097152 = subst (λ (n : ℕ). n ≤ 2097152) (sym (abs-mul (h -ℤ l) k)) bp in
    let bw : nat_abs (pos grid *ℤ l) ≤ 1048576 = subst (λ (n : ℕ). n ≤ 1048576) (sym (abs-mul (pos grid) l)) (mul-le-mul (le_refl grid) bl) in
    let sv = add-val low (mul binary32 (sub binary32 high low) p) (pos grid *ℤ l) ((h -ℤ l) *ℤ k) 8 (omega arith) (small2 _ _ bw bq) (in_parts low l vl) pv in
    fixed-val u (add binary32 low (mul binary32 (sub binary32 high low) p)) (pos grid *ℤ l +ℤ (h -ℤ l) *ℤ k) grid (lit< tt) sv
  where
    near : (d a b c : ℕ) → d ≤ a + c → c ≡ b → a ≤ end_limit → b ≤ end_limit → d ≤ 8192
    near d a b c h e p q = omega arith

    small : (n : ℕ) → n ≤ 2097152 → n < 2 ^ 24
    small n h = omega arith

    small2 : (m n : ℕ) → m ≤ 1048576 → n ≤ 2097152 → m + n < 2 ^ 24
    small2 m n h k = omega arith

-- ---- the ways through `span`
pub span-read : (u : Use) (low high p : Float) → is_at (end_of low) ≡ true → is_at (end_of high) ≡ true → is_at (position_of p) ≡ true
    → fixed_gives u (add binary32 low (mul binary32 (sub binary32 high low) p)) ≡ span_gives u (end_of low) (end_of high) (position_of p)
unfolding span_gives
span-read u low high p a b c =
    let l = at_of (end_of low) a in
    let h = at_of (end_of high) b in
    let k = at_of (position_of p) c in
    span-taken u low high p l.0 h.0 k.0 l.1 h.1 k.1
    ∙ sym (ap (λ (r : Reading). span_gives u r (end_of high) (position_of p)) l.1
    ∙ ap (λ (r : Reading). span_gives u (at l.0) r (position_of p)) h.1
    ∙ ap (λ (r : Reading). span_gives u (at l.0) (at h.0) r) k.1)

pub low-unread : (u : Use) (l h k : Reading) → is_at l ≡ false → span_gives u l h k ≡ unread
unfolding span_gives
low-unread u (at z) h k e = absurd (subst T e tt)
low-unread u off h k e = refl

pub high-unread : (u : Use) (l h k : Reading) → is_at h ≡ false → span_gives u l h k ≡ unread
unfolding span_gives
high-unread u off h k e = refl
high-unread u (at l) (at z) k e = absurd (subst T e tt)
high-unread u (at l) off k e = refl

pub span-place-unread : (u : Use) (l h k : Reading) → is_at k ≡ false → span_gives u l h k ≡ unread
unfolding span_gives
span-place-unread u off h k e = refl
span-place-unread u (at l) off k e = refl
span-place-unread u (at l) (at h) (at z) e = absurd (subst T e tt)
span-place-unread u (at l) (at h) off e = refl
