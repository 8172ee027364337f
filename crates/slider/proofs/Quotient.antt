-- A quotient that is rounded once to binary32 keeps its floor and its ceiling: no rounding crosses a whole number. Assumes nothing.
use mathlib.Core.Path.{◌≡◌, refl, sym, ap, ◌∙◌}
use mathlib.Core.Logic.{by_cases}
use Prim.Native.Nat.{ℕ, zero, suc, ◌+◌, ◌-◌, ◌*◌, ◌/◌, ◌^◌, ◌≤◌, ◌<◌}
use native.Mathlib.Nat.{lt_of_not-le, not-le_of_lt, le-suc, le_of_suc-le-suc, add-mul, zero-mul, mul-add, le_trans, le_of_eq, lt_of_lt_of_le, lt_of_le_of_lt, mul_assoc, mul_comm, mul_left_comm, mul-le-mul_left, mul-le-mul_right, mul-one, one-mul, suc-mul, le-div_iff_mul-le, mul-pos, mul-sub, div-mul-le_self, div-eq_of_lt-le, lt_of_mul-lt-mul_right, mul-lt-mul_of_pos_right}
use native.Mathlib.Decide.{dec_le}
use native.Mathlib.Omega.{arith}
use borrow.Author.Count.{falls_down}
use mathlib.Core.Bool.{true, false}
use lib.Dec.{T, lit≤}
use lib.Pow.{pow_pos}
use lib.IntN.{pos, negsuc}
use lib.Ieee.{Float, nan, inf, fin, up, down, binary32, round, le}
use lib.Ieee.Fits.{down_pos}
use lib.Ieee.Exact.{HasValue}
use lib.Ieee.Order.{round_mono}
use lib.Ieee.Positive.{num, den, positive, own_value, positive_of_value, values_of_le, between}
use Rattle.slider.specs.declared.Use.{Use}
use Rattle.slider.specs.declared.Use.TheVariants.{AtMost, AtLeast}
use Rattle.slider.specs.Readings.{grid, work_limit}
use Rattle.slider.specs.Slider.{taken, kept, bounded, fixed_gives}
use Rattle.slider.proofs.Floor.{under_next}
use Rattle.slider.proofs.Exactly.{rounded}

-- ---- a fraction n / k between a / 2 ^ j and b / 2 ^ i, which a binary32 holds, is rounded to a value between them
record Between (x : Float) (a P b R : ℕ) : Type 0 where
  pub above_zero : T (positive x)
  pub low : a * den x ≤ num x * P
  pub high : num x * R ≤ b * den x

squeeze : (n k a j b i : ℕ) → 0 < k → 0 < a → 0 < b → a < 2 ^ 24 → b < 2 ^ 24 → j ≤ 149 → i ≤ 149 → a * k ≤ n * 2 ^ j → n * 2 ^ i ≤ b * k
    → Between (round binary32 false n k) a (2 ^ j) b (2 ^ i)
squeeze n k a j b i K A B As Bs J I lo hi =
    let x = round binary32 false n k in
    let l = round binary32 false a (2 ^ j) in
    let h = round binary32 false b (2 ^ i) in
    let l-val : HasValue l false a (2 ^ j) = rounded false a (2 ^ j) a j (pow_pos j) J As refl in
    let h-val : HasValue h false b (2 ^ i) = rounded false b (2 ^ i) b i (pow_pos i) I Bs refl in
    let l-pos : T (positive l) = positive_of_value l a (2 ^ j) l-val A in
    let h-pos : T (positive h) = positive_of_value h b (2 ^ i) h-val B in
    let l_le : T (le l x) = round_mono binary32 a (2 ^ j) n k (pow_pos j) K lo in
    let h_le : T (le x h) = round_mono binary32 n k b (2 ^ i) K (pow_pos i) hi in
    let x_pos : T (positive x) = between l x h l-pos h-pos l_le h_le in
    record {
      above_zero = x_pos;
      low = values_of_le l x a (2 ^ j) (num x) (den x) l-pos x_pos l-val (own_value x x_pos) l_le;
      high = values_of_le x h (num x) (den x) b (2 ^ i) x_pos h-pos (own_value x x_pos) h-val h_le;
    }

-- n * P ≤ (P * (q + 1) - 1) * k, where n is below (q + 1) * k and k is at most P
under_top : (n k q P : ℕ) → n < (q + 1) * k → k ≤ P → n * P ≤ (P * (q + 1) - 1) * k
under_top n k q P h l =
    let e : (P * (q + 1) - 1) * k ≡ k * (P * (q + 1)) - k * 1 = mul_comm (P * (q + 1) - 1) k ∙ mul-sub k (P * (q + 1)) 1 in
    let f : k * (P * (q + 1)) ≡ (q + 1) * k * P = simp (mul_assoc, mul_comm) in
    let g : suc n * P ≤ (q + 1) * k * P = mul-le-mul_right P h in
    let s : suc n * P ≡ n * P + P = suc-mul n P in
    let o : k * 1 ≡ k = mul-one k in
    omega arith

next-pos : (q : ℕ) → 0 < q + 1
next-pos q = omega arith

-- between q and (P * (q + 1) - 1) / P the floor is q
floor-between : (q P a d : ℕ) → 0 < d → 0 < P → q * d ≤ a * 1 → a * P ≤ (P * (q + 1) - 1) * d → a / d ≡ q
floor-between q P a d D p lo hi =
    div-eq_of_lt-le d (le_trans lo (le_of_eq (mul-one a)))
    (lt_of_mul-lt-mul_right P (lt_of_le_of_lt hi (lt_of_lt_of_le (mul-lt-mul_of_pos_right (falls_down (P * (q + 1)) (mul-pos p (next-pos q))) D) (le_of_eq (simp (mul_assoc, mul_comm, mul_left_comm))))))

bottom-times : (k q P : ℕ) → (P * q + 1) * k ≡ q * k * P + k
bottom-times k q P = simp (add-mul, one-mul, mul_assoc, mul_comm, mul_left_comm)

-- (P * q + 1) * k ≤ (m + 1) * P, where q * k is at most m and k is at most P
over-bottom : (m k q P : ℕ) → q * k ≤ m → k ≤ P → (P * q + 1) * k ≤ suc m * P
over-bottom m k q P h l =
    let e : (P * q + 1) * k ≡ q * k * P + k = bottom-times k q P in
    let g : q * k * P ≤ m * P = mul-le-mul_right P h in
    let s : suc m * P ≡ m * P + P = suc-mul m P in
    omega arith

-- between (P * q + 1) / P and q + 1 the ceiling is q + 1; that of (a + 1) / d is a / d + 1
ceiling-between : (q P a d : ℕ) → 0 < d → 0 < P → (P * q + 1) * d ≤ suc a * P → suc a * 1 ≤ (q + 1) * d → a / d ≡ q
ceiling-between q P a d D p lo hi =
    div-eq_of_lt-le d
    (le_of_suc-le-suc (lt_of_mul-lt-mul_right P (lt_of_lt_of_le (less (q * d * P) D) (le_trans (le_of_eq (sym (bottom-times d q P))) lo))))
    (le_trans (le_of_eq (sym (mul-one (suc a)))) hi)
  where
    less : (n : ℕ) → 0 < d → n < n + d
    less n h = omega arith

-- ---- from such a number to the answer
down-gives : (x : Float) (q P : ℕ) → T (positive x) → 0 < P → q * den x ≤ num x * 1 → num x * P ≤ (P * (q + 1) - 1) * den x → fixed_gives AtMost x ≡ kept (pos q)
unfolding fixed_gives
down-gives nan q P p some lo hi = absurd p
down-gives (inf s) q P p some lo hi = absurd p
down-gives (fin true m e) q P p some lo hi = absurd p
down-gives (fin false m e) q P p some lo hi = ap (λ (z : ℕ). kept (pos z)) (floor-between q P (m * up e) (down e) (down_pos e) some lo hi)

up-gives : (x : Float) (q P : ℕ) → T (positive x) → 0 < P → (P * q + 1) * den x ≤ num x * P → num x * 1 ≤ (q + 1) * den x → fixed_gives AtLeast x ≡ kept (negsuc q)
unfolding fixed_gives
up-gives nan q P p some lo hi = absurd p
up-gives (inf s) q P p some lo hi = absurd p
up-gives (fin true m e) q P p some lo hi = absurd p
up-gives (fin false m e) q P p some lo hi = go (m * up e) lo hi
  where
    go : (n : ℕ) → (P * q + 1) * down e ≤ n * P → n * 1 ≤ (q + 1) * down e → kept (taken AtLeast (pos n) (down e)) ≡ kept (negsuc q)
    go zero lo hi = absurd (not-le_of_lt (mul-pos (next-pos (P * q)) (down_pos e)) (le_trans lo (le_of_eq (zero-mul P))))
    go (suc a) lo hi = ap (λ (z : ℕ). kept (negsuc z)) (ceiling-between q P a (down e) (down_pos e) some lo hi)

-- ---- the rounded quotient; k is at most 2 ^ j, and 2 ^ j * (q + 1) has 24 digits for each whole q up to the quotient
scaled : (j n : ℕ) → n ≤ 2 ^ j * n
scaled j n = le_trans (le_of_eq (sym (one-mul n))) (mul-le-mul_right n (pow_pos j))

-- Down: the quotient lies between q, its floor, and q + 1 - 1 / 2 ^ j. Binary32 holds both, so rounding crosses neither, and the floor stays.
quotient-down : (n k j : ℕ) → 0 < k → k ≤ 2 ^ j → k ≤ n → j ≤ 149 → 2 ^ j * (n / k + 1) < 2 ^ 24 → fixed_gives AtMost (round binary32 false n k) ≡ bounded AtMost (pos n) k
quotient-down n k j K l some J small =
    let q = n / k in
    let P = 2 ^ j in
    let x = round binary32 false n k in
    let all : P * (q + 1) < 2 ^ 24 = small in
    let q-pos : 0 < q = (le-div_iff_mul-le K).1 (le_trans (le_of_eq (one-mul k)) some) in
    let big : q + 1 ≤ P * (q + 1) = scaled j (q + 1) in
    let s = squeeze n k q 0 (P * (q + 1) - 1) j K q-pos (omega arith) (omega arith) (omega arith) (lit≤ tt) J
    (le_trans (div-mul-le_self n k) (le_of_eq (sym (mul-one n)))) (under_top n k q P (under_next n k K) l) in
    down-gives x q P s.above_zero (pow_pos j) s.low s.high

-- Up: the quotient (m + 1) / k lies between q + 1 / 2 ^ j and q + 1, its ceiling, where q = m / k. Binary32 holds both, so the ceiling stays.
quotient-up : (m k j : ℕ) → 0 < k → k ≤ 2 ^ j → j ≤ 149 → 2 ^ j * (m / k + 1) < 2 ^ 24 → fixed_gives AtLeast (round binary32 false (suc m) k) ≡ bounded AtLeast (pos (suc m)) k
quotient-up m k j K l J small =
    let q = m / k in
    let P = 2 ^ j in
    let x = round binary32 false (suc m) k in
    let all : P * (q + 1) < 2 ^ 24 = small in
    let big : q + 1 ≤ P * (q + 1) = scaled j (q + 1) in
    let next : P * (q + 1) ≡ P * q + P = mul-add P q 1 ∙ ap (λ (z : ℕ). P * q + z) (mul-one P) in
    let P_pos : 0 < P = pow_pos j in
    let s = squeeze (suc m) k (P * q + 1) j (q + 1) 0 K (omega arith) (omega arith) (omega arith) (omega arith) J (lit≤ tt)
    (over-bottom m k q P (div-mul-le_self m k) l) (le_trans (le_of_eq (mul-one (suc m))) (under_next m k K)) in
    up-gives x q P s.above_zero P_pos s.low s.high

quotient : (u : Use) (n k j : ℕ) → 0 < k → k ≤ 2 ^ j → k ≤ n → j ≤ 149 → ((q : ℕ) → q * k ≤ n → 2 ^ j * (q + 1) < 2 ^ 24) → fixed_gives u (round binary32 false n k) ≡ bounded u (pos n) k
quotient AtMost n k j K l some J small = quotient-down n k j K l some J (small (n / k) (div-mul-le_self n k))
quotient AtLeast zero k j K l some J small = absurd (not-le_of_lt K some)
quotient AtLeast (suc m) k j K l some J small = quotient-up m k j K l J (small (m / k) (le_trans (div-mul-le_self m k) (le-suc m)))

-- ---- a j for each k: 2 ^ j is at least k, and so small that 2 ^ j * (q + 1) has 24 digits
-- a whole q up to n / k is at most n / g for any g up to k
quot_le : (q n k g : ℕ) → g ≤ k → q * k ≤ n → q * g ≤ n
quot_le q n k g h l = le_trans (mul-le-mul_left q h) l

pub quotient-taken : (u : Use) (n k : ℕ) → 0 < k → k ≤ grid → k ≤ n → n ≤ grid * work_limit → fixed_gives u (round binary32 false n k) ≡ bounded u (pos n) k
quotient-taken u n k K l some N =
    by_cases (dec_le k 8) (λ a. quotient u n k 3 K a some (lit≤ tt) (λ q h. few q n (quot_le q n k 1 K h) N))
    (λ a. by_cases (dec_le k 64) (λ b. quotient u n k 6 K b some (lit≤ tt) (λ q h. mid q n (quot_le q n k 9 (lt_of_not-le a) h) N))
    (λ b. quotient u n k 8 K l some (lit≤ tt) (λ q h. many q n (quot_le q n k 65 (lt_of_not-le b) h) N)))
  where
    few : (q n : ℕ) → q * 1 ≤ n → n ≤ grid * work_limit → 8 * (q + 1) < 2 ^ 24
    few q n h k = omega arith

    mid : (q n : ℕ) → q * 9 ≤ n → n ≤ grid * work_limit → 64 * (q + 1) < 2 ^ 24
    mid q n h k = omega arith

    many : (q n : ℕ) → q * 65 ≤ n → n ≤ grid * work_limit → 256 * (q + 1) < 2 ^ 24
    many q n h k = omega arith
