-- A descriptor's two words and where its parts stand, said once: "A descriptor is a 16-bit size that counts itself, a 16-bit code whose
-- high byte is reserved, a body, then perhaps a name." The descriptor starts at p of the bytes s.
use Rattle.std.specs.Prelude.{List, ℕ, ◌+◌, get_or}
use Rattle.number.specs.Endian.{be}

-- the bytes of the two words
abbrev pub header_size : ℕ
header_size = 4

-- where the reserved byte, the low code byte and the body's first byte stand
abbrev pub reserved_at : ℕ → ℕ
reserved_at p = p + 2

abbrev pub code_at : ℕ → ℕ
code_at p = p + 3

abbrev pub body_at : ℕ → ℕ
body_at p = p + header_size

-- the size word
abbrev pub size_in : List ℕ → ℕ → ℕ
size_in s p = be s p 2

-- the low code byte
abbrev pub code_in : List ℕ → ℕ → ℕ
code_in s p = get_or s (code_at p) 0

-- the reserved byte
abbrev pub reserved_in : List ℕ → ℕ → ℕ
reserved_in s p = get_or s (reserved_at p) 0
