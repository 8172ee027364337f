-- What a buffer holds after bytes or decimal numbers are written into it, never past its end. Assumes nothing.
use Rattle.std.specs.Prelude.{ℕ, zero, suc, ◌+◌, ◌/◌, ◌%◌, cond, List, [], ◌∷◌, ◌++◌, ltb, ℤ, pos, negsuc}

-- the buffer s with the text t written from the place `at` on, as far as there is room
unfoldable pub written : List ℕ → ℕ → List ℕ → List ℕ
written [] at t = []
written (x ∷ s) (suc at) t = x ∷ written s at t
written (x ∷ s) zero [] = x ∷ s
written (x ∷ s) zero (b ∷ t) = b ∷ written s zero t

-- the place after it
unfoldable pub written_to : List ℕ → ℕ → List ℕ → ℕ
written_to [] at t = at
written_to (x ∷ s) (suc at) t = suc (written_to s at t)
written_to (x ∷ s) zero [] = zero
written_to (x ∷ s) zero (b ∷ t) = suc (written_to s zero t)

-- a number in decimal, if `places` are enough: its digits without leading zeros
unfoldable pub decimal_in : ℕ → ℕ → List ℕ
decimal_in zero n = []
decimal_in (suc places) n = cond (ltb n 10) ((48 + n) ∷ []) (decimal_in places (n / 10) ++ ((48 + n % 10) ∷ []))

-- an unsigned 64-bit number has at most 20 digits
abbrev pub decimal : ℕ → List ℕ
decimal n = decimal_in 20 n

-- a signed number, with a - where it is below 0
abbrev pub signed_decimal : ℤ → List ℕ
signed_decimal (pos n) = decimal n
signed_decimal (negsuc n) = 45 ∷ decimal (suc n)

-- texts, each led by a space
unfoldable pub led : List (List ℕ) → List ℕ
led [] = []
led (t ∷ ts) = 32 ∷ t ++ led ts
