-- The triples as an iterator over chunks of three gives them, and a test of each of them. Assumes nothing.
use mathlib.Core.Path.{◌≡◌, refl, ap, subst, ◌∙◌}
use mathlib.Core.Bool.{Bool, ◌&&◌}
use mathlib.Core.List.{List, [], ◌∷◌, ◌++◌}
use Prim.Native.Nat.{◌<◌}
use native.Mathlib.Omega.{arith}
use lib.IntN.{ℤ, pos}
use lib.ListN.{length, get_or}
use Rattle.std.specs.List.{list_all}
use Rattle.std.specs.Slice.Iter.{chunks_exact_rest, chunks_exact_size, chunks_exact_steps}
use Rattle.std.proofs.lemmas.Iterator.{YieldsList}
use Rattle.std.proofs.lemmas.Iterator.Splits.{YieldsList-from_shown_while}
use Rattle.meaning.specs.Screen.{events, bounds}

-- a list cut into threes; what is left of it at the end is no triple
abbrev pub threes : List ℤ → List (List ℤ)
threes [] = []
threes (x ∷ []) = []
threes (x ∷ (y ∷ [])) = []
threes (x ∷ (y ∷ (c ∷ more))) = (x ∷ (y ∷ (c ∷ []))) ∷ threes more

threes-end : (ts : List ℤ) → length ts < 3 → length (threes ts) ≡ 0
threes-end [] h = refl
threes-end (x ∷ []) h = refl
threes-end (x ∷ (y ∷ [])) h = refl
threes-end (x ∷ (y ∷ (c ∷ more))) h = absurd (omega arith)

threes-step : (triple more : List ℤ) → length triple ≡ 3 → threes (triple ++ more) ≡ triple ∷ threes more
threes-step [] more h = absurd (omega arith)
threes-step (x ∷ []) more h = absurd (omega arith)
threes-step (x ∷ (y ∷ [])) more h = absurd (omega arith)
threes-step (x ∷ (y ∷ (c ∷ []))) more h = refl
threes-step (x ∷ (y ∷ (c ∷ (z ∷ rest)))) more h = absurd (omega arith)

-- chunks of three are the threes
pub YieldsList-from_threes : {s : _} (ts : List ℤ) → chunks_exact_rest s ≡ ts → chunks_exact_size s ≡ 3 → YieldsList (chunks_exact_steps {A = ℤ}) (λ x. x.now) s (threes ts)
YieldsList-from_threes {s} ts rest size =
    subst (YieldsList (chunks_exact_steps {A = ℤ}) (λ x. x.now) s) (ap threes rest)
    (YieldsList-from_shown_while (chunks_exact_steps {A = ℤ}) (λ x. x.now) (λ t. threes (chunks_exact_rest t)) (λ t. chunks_exact_size t ≡ 3)
    (λ t u h k. threes-end (chunks_exact_rest t) (omega (arith, k.1.0)))
    (λ t x u h k. (k.0 ∙ h, ap threes k.1.0 ∙ threes-step x.now (chunks_exact_rest u) (k.1.1 ∙ h)))
    s size)

-- a test of each of them is the test of the list
pub events-of : (f : ℤ → ℤ → Bool) (ts : List ℤ) → list_all (λ (t : List ℤ). f (get_or t 0 (pos 0)) (get_or t 1 (pos 0))) (threes ts) ≡ events f ts
unfolding events
events-of f [] = refl
events-of f (x ∷ []) = refl
events-of f (x ∷ (y ∷ [])) = refl
events-of f (x ∷ (y ∷ (c ∷ more))) = ap (λ t. f x y && t) (events-of f more)

pub bounds-of : (f : ℤ → Bool) (ts : List ℤ) → list_all (λ (t : List ℤ). f (get_or t 2 (pos 0))) (threes ts) ≡ bounds f ts
unfolding bounds
bounds-of f [] = refl
bounds-of f (x ∷ []) = refl
bounds-of f (x ∷ (y ∷ [])) = refl
bounds-of f (x ∷ (y ∷ (c ∷ more))) = ap (λ t. f c && t) (bounds-of f more)
