-- Numbers of any width in a byte order: the number that n bytes stand for, and the n bytes of a number.
-- A byte past the end of a list counts as 0, so every definition is total.
use Rattle.std.specs.Prelude.{ℕ, zero, suc, ◌+◌, ◌*◌, ◌/◌, ◌%◌, List, [], ◌∷◌, ◌++◌, get_or}

-- the number whose n bytes stand in s from `at` on, most significant byte first
unfoldable pub be : List ℕ → ℕ → ℕ → ℕ
be s at zero = 0
be s at (suc n) = be s at n * 256 + get_or s (at + n) 0

-- the number whose n bytes stand in s from `at` on, least significant byte first
unfoldable pub le : List ℕ → ℕ → ℕ → ℕ
le s at zero = 0
le s at (suc n) = le s (at + 1) n * 256 + get_or s at 0

-- the n bytes of v modulo 256 ^ n, most significant byte first
unfoldable pub be_bytes : ℕ → ℕ → List ℕ
be_bytes zero v = []
be_bytes (suc n) v = be_bytes n (v / 256) ++ (v % 256 ∷ [])

-- the n bytes of v modulo 256 ^ n, least significant byte first
unfoldable pub le_bytes : ℕ → ℕ → List ℕ
le_bytes zero v = []
le_bytes (suc n) v = v % 256 ∷ le_bytes n (v / 256)
