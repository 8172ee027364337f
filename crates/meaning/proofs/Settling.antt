-- n rounds of raising settle the facts over n events wherever some numbers meet them, and stay below all such numbers.
-- No walk and no cycle: where a round makes no event final and some event is not, every such event's number can be lowered by one. Assumes nothing.
use mathlib.Core.Path.{◌≡◌, refl, sym, ap, ◌∙◌, subst}
use mathlib.Core.Bool.{Bool, true, false, cond}
use mathlib.Core.Logic.{◌⊎◌, inl, inr, ⊎_elim, by_cases}
use mathlib.Core.List.{List, [], ◌∷◌}
use Prim.Native.Nat.{ℕ, zero, suc, ◌+◌, ◌-◌, ◌<◌, ◌≤◌, zero-le, max}
use native.Mathlib.Nat.{le_of_suc-le-suc, not-suc-le-zero, le_refl, le_trans}
use native.Mathlib.Decide.{dec_lt}
use native.Mathlib.Omega.{arith, by_contra}
use lib.Dec.{T, leb, ltb, leb→le, le→leb, ltb→lt, lt→ltb}
use lib.IntN.{ℤ, pos, negsuc}
use lib.ListN.{length, set, length-set, replicate, length-replicate}
use mir.Facts.{yes_and, and_yes}
use Rattle.meaning.specs.Problem.{Alternative}
use Rattle.meaning.specs.Decision.{at, ask, raise, round, rounds, least, settled, sound_by}

abbrev pub Each : (Alternative → Type 0) → List Alternative → Type 0
Each P [] = Unit {0}
Each P (a ∷ more) = P a × Each P more

pub each_map : {P Q : Alternative → Type 0} (fs : List Alternative) → ((a : Alternative) → P a → Q a) → Each P fs → Each Q fs
each_map [] f h = tt
each_map (a ∷ more) f h = (f a h.0, each_map more f h.1)

pub each-map₃ : {P Q R S : Alternative → Type 0} (fs : List Alternative) → ((a : Alternative) → P a → Q a → R a → S a) → Each P fs → Each Q fs → Each R fs → Each S fs
each-map₃ [] f h g k = tt
each-map₃ (a ∷ more) f h g k = (f a h.0 g.0 k.0, each-map₃ more f h.1 g.1 k.1)

-- the events are below n
abbrev pub In : ℕ → Alternative → Type 0
In n a = (a.x < n) × (a.y < n)

-- the numbers, in minutes before closing, satisfy the alternative
abbrev pub Meets : (ℕ → ℕ) → Alternative → Type 0
Meets σ a = ask (σ a.y) a.c ≤ σ a.x

pub ask-mono : {m n : ℕ} (c : ℤ) → m ≤ n → ask m c ≤ ask n c
unfolding ask
ask-mono (pos k) h = omega arith
ask-mono (negsuc k) h = omega arith

-- ---- a store to one place
set-up : (s : List ℕ) (i v e : ℕ) → at s i ≤ v → at s e ≤ at (set s i v) e
set-up [] i v e h = le_refl _
set-up (x ∷ s) zero v zero h = h
set-up (x ∷ s) zero v (suc e) h = le_refl _
set-up (x ∷ s) (suc i) v zero h = le_refl _
set-up (x ∷ s) (suc i) v (suc e) h = set-up s i v e h

set-under : (s : List ℕ) (i v e m : ℕ) → at s e ≤ m → (e ≡ i → v ≤ m) → at (set s i v) e ≤ m
set-under [] i v e m h k = h
set-under (x ∷ s) zero v zero m h k = k refl
set-under (x ∷ s) zero v (suc e) m h k = h
set-under (x ∷ s) (suc i) v zero m h k = h
set-under (x ∷ s) (suc i) v (suc e) m h k = set-under s i v e m h (λ p. k (ap suc p))

set-has : (s : List ℕ) (i v : ℕ) → i < length s → v ≤ at (set s i v) i
set-has [] i v h = absurd (not-suc-le-zero h)
set-has (x ∷ s) zero v h = le_refl v
set-has (x ∷ s) (suc i) v h = set-has s i v (le_of_suc-le-suc h)

-- ---- one raise
raise-up : (s : List ℕ) (a : Alternative) (e : ℕ) → at s e ≤ at (raise s a) e
unfolding raise
raise-up s a e = set-up s a.x (max (at s a.x) (ask (at s a.y) a.c)) e (omega arith)

raise-has : (s : List ℕ) (a : Alternative) → a.x < length s → ask (at s a.y) a.c ≤ at (raise s a) a.x
unfolding raise
raise-has s a h = le_trans (omega arith) (set-has s a.x (max (at s a.x) (ask (at s a.y) a.c)) h)

raise-under : (s : List ℕ) (a : Alternative) (σ : ℕ → ℕ) → Meets σ a → ((e : ℕ) → at s e ≤ σ e) → (e : ℕ) → at (raise s a) e ≤ σ e
unfolding raise
raise-under s a σ m h e =
    set-under s a.x (max (at s a.x) (ask (at s a.y) a.c)) e (σ e) (h e)
    (λ p. subst (λ (i : ℕ). max (at s a.x) (ask (at s a.y) a.c) ≤ σ i) (sym p)
    (omega (arith, h a.x, m, ask-mono a.c (h a.y))))

raise-length : (s : List ℕ) (a : Alternative) → length (raise s a) ≡ length s
unfolding raise
raise-length s a = length-set s a.x _

-- ---- one round
round_up : (fs : List Alternative) (s : List ℕ) (e : ℕ) → at s e ≤ at (round fs s) e
unfolding round
round_up [] s e = le_refl _
round_up (a ∷ more) s e = le_trans (raise-up s a e) (round_up more (raise s a) e)

round-length : (fs : List Alternative) (s : List ℕ) → length (round fs s) ≡ length s
unfolding round
round-length [] s = refl
round-length (a ∷ more) s = round-length more (raise s a) ∙ raise-length s a

round_under : (fs : List Alternative) (s : List ℕ) (σ : ℕ → ℕ) → Each (Meets σ) fs → ((e : ℕ) → at s e ≤ σ e) → (e : ℕ) → at (round fs s) e ≤ σ e
unfolding round
round_under [] s σ m h e = h e
round_under (a ∷ more) s σ m h e = round_under more (raise s a) σ m.1 (raise-under s a σ m.0 h) e

round-has : (n : ℕ) (fs : List Alternative) (s : List ℕ) → length s ≡ n → Each (In n) fs → Each (λ a. ask (at s a.y) a.c ≤ at (round fs s) a.x) fs
unfolding round
round-has n [] s l i = tt
round-has n (a ∷ more) s l i = (
  le_trans (raise-has s a (subst (λ (m : ℕ). a.x < m) (sym l) i.0.0)) (round_up more (raise s a) a.x),
  each_map more (λ b h. le_trans (ask-mono b.c (raise-up s a b.y)) h)
      (round-has n more (raise s a) (raise-length s a ∙ l) i.1),
)

rounds-under : (k : ℕ) (fs : List Alternative) (s : List ℕ) (σ : ℕ → ℕ) → Each (Meets σ) fs → ((e : ℕ) → at s e ≤ σ e) → (e : ℕ) → at (rounds k fs s) e ≤ σ e
unfolding rounds
rounds-under zero fs s σ m h e = h e
rounds-under (suc k) fs s σ m h e = rounds-under k fs (round fs s) σ m (round_under fs s σ m h) e

pub rounds-length : (k : ℕ) (fs : List Alternative) (s : List ℕ) → length (rounds k fs s) ≡ length s
unfolding rounds
rounds-length zero fs s = refl
rounds-length (suc k) fs s = rounds-length k fs (round fs s) ∙ round-length fs s

pub zero-at : (n e : ℕ) → at (replicate n 0) e ≡ 0
zero-at zero e = refl
zero-at (suc n) zero = refl
zero-at (suc n) (suc e) = zero-at n e

-- ---- counts
abbrev one : Bool → ℕ
one b = cond b 1 0

pub tally : (ℕ → Bool) → ℕ → ℕ
tally p zero = 0
tally p (suc n) = one (p n) + tally p n

pub total : (ℕ → ℕ) → ℕ → ℕ
total σ zero = 0
total σ (suc n) = σ n + total σ n

pub total-has : (σ : ℕ → ℕ) (n e : ℕ) → e < n → σ e ≤ total σ n
unfolding total
total-has σ zero e l = absurd (not-suc-le-zero l)
total-has σ (suc n) e l =
    by_cases (dec_lt e n) (λ m. le_trans (total-has σ n e m) (omega arith))
    (λ m. let p : n ≡ e = omega arith in subst (λ (i : ℕ). σ i ≤ σ n + total σ n) p (omega arith))

one-le : (p q : Bool) → (T q → T p) → one q ≤ one p
one-le p false h = zero-le
one-le true true h = le_refl 1
one-le false true h = absurd (h tt)

tally-le : (p q : ℕ → Bool) → ((e : ℕ) → T (q e) → T (p e)) → (n : ℕ) → tally q n ≤ tally p n
unfolding tally
tally-le p q h zero = zero-le
tally-le p q h (suc n) = omega (arith, tally-le p q h n, one-le (p n) (q n) (h n))

pub tally-zero : (p : ℕ → Bool) (n : ℕ) → tally p n ≡ 0 → (e : ℕ) → e < n → T (p e) → ⊥
unfolding tally
tally-zero p zero z e l t = not-suc-le-zero l
tally-zero p (suc n) z e l t = by_cases (dec_lt e n) (λ m. tally-zero p n (omega arith) e m t) (λ m. here (p n) refl (subst (λ (i : ℕ). T (p i)) (omega arith) t))
  where
    here : (b : Bool) → p n ≡ b → T (p n) → ⊥
    here true d y = omega (arith, ap one d)
    here false d y = subst T d y

pub tally-none : (p : ℕ → Bool) (n : ℕ) → ((e : ℕ) → e < n → T (p e) → ⊥) → tally p n ≡ 0
unfolding tally
tally-none p zero h = refl
tally-none p (suc n) h = go (p n) refl (tally-none p n (λ i l. h i (omega arith)))
  where
    go : (b : Bool) → p n ≡ b → tally p n ≡ 0 → one (p n) + tally p n ≡ 0
    go true e z = absurd (h n (le_refl (suc n)) (subst T (sym e) tt))
    go false e z = omega (arith, ap one e)

pub tally-most : (p : ℕ → Bool) (n : ℕ) → tally p n ≤ n
unfolding tally
tally-most p zero = zero-le
tally-most p (suc n) = omega (arith, tally-most p n, one-le true (p n) (λ y. tt))

-- fewer, or none less
pub progress : (p q : ℕ → Bool) → ((e : ℕ) → T (q e) → T (p e)) → (n : ℕ) → (tally q n < tally p n) ⊎ ((e : ℕ) → e < n → T (p e) → T (q e))
unfolding tally
progress p q h zero = inr (λ e l. absurd (not-suc-le-zero l))
progress p q h (suc n) = step (p n) (q n) refl refl (progress p q h n)
  where
    step : (b d : Bool) → p n ≡ b → q n ≡ d → (tally q n < tally p n) ⊎ ((e : ℕ) → e < n → T (p e) → T (q e)) → (tally q (suc n) < tally p (suc n)) ⊎ ((e : ℕ) → e < suc n → T (p e) → T (q e))
    step b d eb ed (inl l) = inl (omega (arith, one-le (p n) (q n) (h n)))
    step true false eb ed (inr g) =
        inl (omega (arith, tally-le p q h n, ap one eb, ap one ed))
    step b true eb ed (inr g) =
        inr (λ e l t. by_cases (dec_lt e n) (λ m. g e m t) (λ m. subst (λ (i : ℕ). T (q i)) (omega arith) (subst T (sym ed) tt)))
    step false false eb ed (inr g) =
        inr (λ e l t. by_cases (dec_lt e n) (λ m. g e m t) (λ m. absurd (subst T eb (subst (λ (i : ℕ). T (p i)) (omega arith) t))))

-- ---- lowering
-- an event that is not final, one less
pub lower : ℕ → ℕ → ℕ
lower v s = cond (ltb v s) (s - 1) s

pub data Lower (v s : ℕ) : ℕ → Type 0 where
  less : v < s → Lower v s (s - 1)
  same : s ≤ v → Lower v s s

pub lowered : (v s : ℕ) → Lower v s (lower v s)
unfolding lower
lowered v s = go (ltb v s) refl
  where
    go : (b : Bool) → ltb v s ≡ b → Lower v s (cond b (s - 1) s)
    go true e = less (ltb→lt v s (subst T (sym e) tt))
    go false e = same (by_contra _ _ (λ h. subst T e (lt→ltb v s h)))

lower-one : (v s : ℕ) → lower v s + one (ltb v s) ≡ s
unfolding lower
lower-one v s = go (ltb v s) refl
  where
    go : (b : Bool) → ltb v s ≡ b → cond b (s - 1) s + one b ≡ s
    go true e = let h : v < s = ltb→lt v s (subst T (sym e) tt) in omega arith
    go false e = omega arith

pub total-lower : (v σ : ℕ → ℕ) (n : ℕ) → total (λ e. lower (v e) (σ e)) n + tally (λ e. ltb (v e) (σ e)) n ≡ total σ n
unfolding total tally
total-lower v σ zero = refl
total-lower v σ (suc n) = omega (arith, total-lower v σ n, lower-one (v n) (σ n))

pub ask-less : (s x : ℕ) (c : ℤ) → 0 < s → 0 < x → ask s c ≤ x → ask (s - 1) c ≤ x - 1
unfolding ask
ask-less s x (pos k) hs hx h = omega arith
ask-less s x (negsuc k) hs hx h = omega arith

-- the lowered numbers meet a fact, where the round kept each event of it that was not final from becoming so
lower-meets : (uy vx vy x y : ℕ) (c : ℤ) → ask uy c ≤ vx → ask y c ≤ x → (uy < y → vy < y) → ask (lower vy y) c ≤ lower vx x
lower-meets uy vx vy x y c h m k = go (lowered vx x) (lowered vy y)
  where
    go : {r s : ℕ} → Lower vx x r → Lower vy y s → ask s c ≤ r
    go (same i) l = le_trans (ask-mono c (below l)) m
      where
        below : {s : ℕ} → Lower vy y s → s ≤ y
        below (less j) = omega arith
        below (same j) = le_refl y
    go (less i) (less j) = ask-less y x c (omega arith) (omega arith) m
    go (less i) (same j) =
        le_trans (le_trans (ask-mono c (by_contra _ _ (λ g. let q : vy < y = k g in omega arith))) h) (omega arith)

module _ (n : ℕ) (fs : List Alternative) (inside : Each (In n) fs) where
  gap : List ℕ → (ℕ → ℕ) → ℕ → Bool
  gap s σ e = ltb (at s e) (σ e)

  -- numbers that meet the facts and are less in all
  Smaller : (ℕ → ℕ) → Type 0
  Smaller σ = (τ : ℕ → ℕ) × Each (Meets τ) fs × (total τ n < total σ n)

  -- a round makes an event final, or all are final, or the numbers of those that are not can be lowered
  step : (k : ℕ) (s : List ℕ) (σ : ℕ → ℕ) → length s ≡ n → Each (Meets σ) fs → ((e : ℕ) → at s e ≤ σ e) → tally (gap s σ) n ≤ suc k → Smaller σ ⊎ (tally (gap (round fs s) σ) n ≤ k)
  unfolding gap Smaller
  step k s σ l m u h = go (progress (gap s σ) (gap v σ) fewer n) (dec_lt 0 (tally (gap v σ) n))
    where
      v : List ℕ
      v = round fs s

      fewer : (e : ℕ) → T (gap v σ e) → T (gap s σ e)
      fewer e t = lt→ltb (at s e) (σ e) (omega (arith, ltb→lt (at v e) (σ e) t, round_up fs s e))

      go : (tally (gap v σ) n < tally (gap s σ) n) ⊎ ((e : ℕ) → e < n → T (gap s σ e) → T (gap v σ e)) → Dec (0 < tally (gap v σ) n) → Smaller σ ⊎ (tally (gap v σ) n ≤ k)
      go (inl p) d = inr (omega arith)
      go (inr p) (no d) = inr (omega arith)
      go (inr p) (yes d) =
          inl (
            (λ e. lower (at v e) (σ e)),
            each-map₃ fs
                (λ a i g f. lower-meets (at s a.y) (at v a.x) (at v a.y) (σ a.x) (σ a.y) a.c g f (λ q. ltb→lt (at v a.y) (σ a.y) (p a.y i.1 (lt→ltb (at s a.y) (σ a.y) q))))
                inside (round-has n fs s l inside) m,
            omega (arith, total-lower (at v) σ n),
          )

  advance : (k : ℕ) (s : List ℕ) (σ : ℕ → ℕ) → length s ≡ n → Each (Meets σ) fs → ((e : ℕ) → at s e ≤ σ e) → tally (gap s σ) n ≤ k → Smaller σ ⊎ (tally (gap (rounds k fs s) σ) n ≡ 0)
  unfolding rounds
  advance zero s σ l m u h = inr (omega arith)
  advance (suc k) s σ l m u h =
      ⊎_elim inl (λ g. advance k (round fs s) σ (round-length fs s ∙ l) m (round_under fs s σ m u) g) (step k s σ l m u h)

  zeros-under : (σ : ℕ → ℕ) (e : ℕ) → at (replicate n 0) e ≤ σ e
  zeros-under σ e = omega (arith, zero-at n e)

  -- the least numbers are below all that meet the facts
  pub least_under : (σ : ℕ → ℕ) → Each (Meets σ) fs → (e : ℕ) → at (least n fs) e ≤ σ e
  unfolding least
  least_under σ m = rounds-under n fs (replicate n 0) σ m (zeros-under σ)

  all-final : (σ : ℕ → ℕ) → Each (Meets σ) fs → tally (gap (least n fs) σ) n ≡ 0 → Each (Meets (at (least n fs))) fs
  unfolding gap
  all-final σ m z =
      each-map₃ fs
      (λ a i f g. le_trans (le_trans (ask-mono a.c (least_under σ m a.y)) f)
      (by_contra _ _ (λ l. tally-zero (gap (least n fs) σ) n z a.x i.0 (lt→ltb (at (least n fs) a.x) (σ a.x) l))))
      inside m m

  -- where some numbers meet the facts, the least do
  least-meets : (N : ℕ) (σ : ℕ → ℕ) → total σ n ≤ N → Each (Meets σ) fs → Each (Meets (at (least n fs))) fs
  unfolding least Smaller
  least-meets zero σ t m =
      ⊎_elim (λ q. absurd (nothing-less q.2 t)) (all-final σ m)
      (advance n (replicate n 0) σ (length-replicate n 0) m (zeros-under σ) (tally-most _ n))
    where
      nothing-less : {u v : ℕ} → u < v → v ≤ 0 → ⊥
      nothing-less h k = omega arith
  least-meets (suc N) σ t m =
      ⊎_elim (λ q. least-meets N q.0 (one_less q.2 t) q.1) (all-final σ m)
      (advance n (replicate n 0) σ (length-replicate n 0) m (zeros-under σ) (tally-most _ n))
    where
      one_less : {u v w : ℕ} → u < v → v ≤ suc w → u ≤ w
      one_less h k = omega arith

abbrev met : List ℕ → Alternative → Bool
met s a = leb (ask (at s a.y) a.c) (at s a.x)

settled-meets : (fs : List Alternative) (s : List ℕ) → T (settled fs s) → Each (Meets (at s)) fs
unfolding settled
settled-meets [] s t = tt
settled-meets (a ∷ more) s t = (
  leb→le (ask (at s a.y) a.c) (at s a.x) (and_yes (met s a) (settled more s) t).0,
  settled-meets more s (and_yes (met s a) (settled more s) t).1,
)

meets-settled : (fs : List Alternative) (s : List ℕ) → Each (Meets (at s)) fs → T (settled fs s)
unfolding settled
meets-settled [] s h = tt
meets-settled (a ∷ more) s h =
    yes_and (met s a) (settled more s) (le→leb (ask (at s a.y) a.c) (at s a.x) h.0) (meets-settled more s h.1)

-- the decision: the rounds settle exactly where some numbers meet the facts
pub sound-right : (n : ℕ) (fs : List Alternative) → T (sound_by n fs) → Each (Meets (at (least n fs))) fs
unfolding sound_by
sound-right n fs t = settled-meets fs (least n fs) t

pub sound-whole : (n : ℕ) (fs : List Alternative) → Each (In n) fs → (σ : ℕ → ℕ) → Each (Meets σ) fs → T (sound_by n fs)
unfolding sound_by
sound-whole n fs i σ m = meets-settled fs (least n fs) (least-meets n fs i (total σ n) σ (le_refl _) m)
