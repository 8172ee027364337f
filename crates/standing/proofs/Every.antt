-- A test of every number below some number, as a statement and as a loop makes it. Assumes nothing.
use Rattle.std.specs.Prelude.{Option}
use Rattle.std.specs.Bool.{MatchBool}
use Rattle.std.specs.Fn.{Called}
use Rattle.std.specs.Iterator.{YieldsThen}
use Rattle.std.specs.List.{AllWithin, HoldsAt, FoldsTo, range_with_len}
use Rattle.std.specs.Option.{MatchOption}
use Rattle.std.specs.declared.ops.Range.{Range}
use Rattle.std.proofs.iter.Yields.{nat_range_steps}
use Rattle.std.proofs.lemmas.Iterator.{cases_from_all, YieldsList-from_range}
use denote.Param.Members.{Mut}
use Rattle.std.proofs.lemmas.List.FromFn.{length-range_with_len, get_or-range_with_len}
use native.Mathlib.Nat.{zero-add}
use mathlib.Core.List.{List}
use lib.ListN.{length, get_or}
use mathlib.Core.Path.{◌≡◌, refl, sym, ap, ap₂, ◌∙◌, subst}
use mathlib.Core.Bool.{Bool, true, false, ◌&&◌}
use mathlib.Core.Logic.{by_cases}
use Prim.Native.Nat.{ℕ, zero, suc, ◌<◌, zero-le}
use native.Mathlib.Omega.{arith}
use native.Mathlib.Decide.{dec_lt}
use lib.Dec.{T}
use mir.Facts.{and_yes, yes_and}
use Rattle.laws.proofs.Tests.{is_true, is_false}
use Rattle.standing.specs.Standing.{every}

pub every-all : (k : ℕ) (f : ℕ → Bool) → T (every k f) → (i : ℕ) → i < k → T (f i)
unfolding every
every-all zero f t i l = absurd (omega arith)
every-all (suc k) f t i l =
    let (h, g) = and_yes (f k) (every k f) t in
    by_cases (dec_lt i k) (λ m. every-all k f g i m) (λ m. let q : k ≡ i = omega arith in subst (λ (j : ℕ). T (f j)) q h)

pub all-every : (k : ℕ) (f : ℕ → Bool) → ((i : ℕ) → i < k → T (f i)) → T (every k f)
unfolding every
all-every zero f h = tt
all-every (suc k) f h = yes_and (f k) (every k f) (h k (omega arith)) (all-every k f (λ i l. h i (omega arith)))

pub every-same : (k : ℕ) (f g : ℕ → Bool) → ((i : ℕ) → i < k → f i ≡ g i) → every k f ≡ every k g
unfolding every
every-same zero f g h = refl
every-same (suc k) f g h = ap₂ ◌&&◌ (h k (omega arith)) (every-same k f g (λ i l. h i (omega arith)))

-- ---- as an iterator's `all` makes it
every-fails : (k : ℕ) (f : ℕ → Bool) (i : ℕ) → i < k → f i ≡ false → every k f ≡ false
every-fails k f i l q = is_false (every k f) (λ t. subst T q (every-all k f t i l))

-- The items of the chain are tested one by one by G, and item k stands for the number k: so `all` says whether every number below n passes.
pub every-of : {X : Type 0} (G : X → Bool) (items : List X) (d : X) (f : ℕ → Bool) (n : ℕ) (r : Bool) → length items ≡ n → ((k : ℕ) → k < n → G (get_or items k d) ≡ f k)
    → MatchBool r (AllWithin (λ x. G x ≡ true) items 0 (length items)) ((k : ℕ) × (k < length items) × HoldsAt (λ x. G x ≡ false) items k) → r ≡ every n f
every-of G items d f n true l e h =
    sym (is_true (every n f) (all-every n f (λ i m. let here : i < length items = omega arith in subst T (sym (sym (e i m) ∙ h i d zero-le here)) tt)))
every-of G items d f n false l e (k, m, h) = let below : k < n = omega arith in sym (every-fails n f k below (sym (e k below) ∙ h d))

-- The same of a range from 0 on: where the closure, which stays as it is, answers f of each number, `all` says whether every number below n passes.
pub every-range : {F : Type 0} {g : Mut F (ℕ × Unit {0}) Bool} {s u : Range ℕ} {test : F} {r : Bool} (n : ℕ) (f : ℕ → Bool)
    → (xs : List ℕ) × (o : Option ℕ) × (j : F) × YieldsThen nat_range_steps s xs o u × FoldsTo (λ p x q. Called g p (x, tt) true q) test xs j × MatchOption o (r ≡ true) (λ x. (r ≡ false) × ((h : F) × Called g j (x, tt) false h))
    → s ≡ record { start = 0; end = n } → ((x : ℕ) (q : F) → Called g test (x, tt) true q → (q ≡ test) × (f x ≡ true)) → ((x : ℕ) (q : F) → Called g test (x, tt) false q → f x ≡ false) → r ≡ every n f
every-range n f ran e pass fail =
    every-of f (range_with_len 0 n) 0 f n _ (length-range_with_len 0 n) (λ k l. ap f (get_or-range_with_len 0 n k 0 l ∙ zero-add k))
    (cases_from_all _ _ _ (λ (k : ℕ). f k ≡ true) (λ (k : ℕ). f k ≡ false) ran (YieldsList-from_range 0 n n e (omega arith)) pass fail)
