-- The limits of document 01, "What the tracker reads" (its house limits), said once.
use Rattle.std.specs.Prelude.{ℕ, ◌^◌}

-- "descriptor 4,096 bytes"
abbrev pub descriptor_limit : ℕ
descriptor_limit = 4096

-- "256 rows"
abbrev pub row_limit : ℕ
row_limit = 256

-- "depth 8, the top being depth 1"
abbrev pub depth_limit : ℕ
depth_limit = 8

-- "array dimensions 1 to 4"
abbrev pub dimension_limit : ℕ
dimension_limit = 4

-- "unit pairs 1 to 9"
abbrev pub pair_limit : ℕ
pair_limit = 9

-- "a 16-bit base index 0 to 8"
abbrev pub base_limit : ℕ
base_limit = 8

-- "enumeration items and cluster members at least 1": no more than a 16-bit count can say
abbrev pub count_limit : ℕ
count_limit = 65535

-- "data 65,536 bytes"
abbrev pub data_limit : ℕ
data_limit = 65536

-- "Lengths and sizes are below 2^31."
abbrev pub length_limit : ℕ
length_limit = 2 ^ 31

-- 3: "size word's high bit set"
abbrev pub high_bit : ℕ
high_bit = 0x8000

-- "30: the word FFFFFFFF", and "FFFFFFFF for each dimension"
abbrev pub fixed_word : ℕ
fixed_word = 0xFFFFFFFF
