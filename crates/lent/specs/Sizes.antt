-- The size that the leaves' contracts name. Definitions only.
use Rattle.std.specs.Prelude.{ℕ}

-- past the largest signed number of 32 bits
abbrev pub signed_end : ℕ
signed_end = 2147483648
