-- What a test says: laws of Bool. Assumes nothing.
use mathlib.Core.Path.{◌≡◌, refl}
use mathlib.Core.Bool.{Bool, true, false}
use mathlib.Core.List.{List, [], ◌∷◌}
use Prim.Native.Nat.{ℕ}
use native.Mathlib.Omega.{arith}
use lib.Dec.{T}
pub use lib.Ieee.Bits.{is_true}

pub is_false : (b : Bool) → (T b → ⊥) → b ≡ false
is_false true f = absurd (f tt)
is_false false f = refl

-- two tests that say the same are the same
pub same_test : (a b : Bool) → (T a → T b) → (T b → T a) → a ≡ b
same_test true true f g = refl
same_test true false f g = absurd (f tt)
same_test false true f g = absurd (g tt)
same_test false false f g = refl

-- tests that are all passed
abbrev pub Passed : List Bool → Type 0
Passed [] = Unit {0}
Passed (b ∷ more) = T b × Passed more

-- two constructors that differ are no longer equal once `cc` has made 0 ≡ 1 of them
pub never : ◌≡◌ {A = ℕ} 0 1 → ⊥
never e = omega arith
