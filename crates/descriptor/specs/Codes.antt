-- The carried codes of document 01, "What the tracker reads", by the body that each has ("How a descriptor is built"). Codes are
-- hexadecimal, as there.
use Rattle.std.specs.Prelude.{Bool, cond, ◌&&◌, ◌||◌, ℕ, leb, eqb}

-- what stands in the body of a descriptor of some code
pub data Kind : Type 0 where
  -- 01 to 0E and 21: "no body"
  plain : Kind
  -- 15 to 17: an enumeration's items
  enumeration : Kind
  -- 19 to 1E: a physical quantity's unit pairs
  quantity : Kind
  -- 30
  string : Kind
  -- 40
  array : Kind
  -- 50
  cluster : Kind
  -- 54: a time stamp's subtype and its one part
  stamp : Kind
  -- every other code: not carried
  unknown : Kind

-- "21 (Boolean), 30 (string), 40 (array), 50 (cluster)"
abbrev pub boolean_code : ℕ
boolean_code = 0x21

abbrev pub string_code : ℕ
string_code = 0x30

abbrev pub array_code : ℕ
array_code = 0x40

abbrev pub cluster_code : ℕ
cluster_code = 0x50

-- document 02, CR 1: "Carry code 54"
abbrev pub stamp_code : ℕ
stamp_code = 0x54

-- low ≤ c ≤ high
abbrev pub between : ℕ → ℕ → ℕ → Bool
between low high c = leb low c && leb c high

-- "01 to 08 (integers), 09 to 0B .., 0C to 0E .., 15 to 17 .., 19 to 1B and 1C to 1E .., 21 .., 30 .., 40 .., 50"; and 54
unfoldable pub kind_of : ℕ → Kind
kind_of c =
    cond (between 0x01 0x0E c || eqb c boolean_code) plain
    (cond (between 0x15 0x17 c) enumeration
    (cond (between 0x19 0x1E c) quantity
    (cond (eqb c string_code) string
    (cond (eqb c array_code) array
    (cond (eqb c cluster_code) cluster
    (cond (eqb c stamp_code) stamp
    unknown))))))

-- "0C to 0E (their complex kinds)" and "1C to 1E": two numbers, each half as wide
abbrev pub is_complex : ℕ → Bool
is_complex c = between 0x0C 0x0E c || between 0x1C 0x1E c

abbrev pub is_carried : Kind → Bool
is_carried unknown = Bool.false
is_carried plain = Bool.true
is_carried enumeration = Bool.true
is_carried quantity = Bool.true
is_carried string = Bool.true
is_carried array = Bool.true
is_carried cluster = Bool.true
is_carried stamp = Bool.true

abbrev pub is_array : Kind → Bool
is_array array = Bool.true
is_array unknown = Bool.false
is_array plain = Bool.false
is_array enumeration = Bool.false
is_array quantity = Bool.false
is_array string = Bool.false
is_array cluster = Bool.false
is_array stamp = Bool.false

abbrev pub is_stamp : Kind → Bool
is_stamp stamp = Bool.true
is_stamp unknown = Bool.false
is_stamp plain = Bool.false
is_stamp enumeration = Bool.false
is_stamp quantity = Bool.false
is_stamp string = Bool.false
is_stamp array = Bool.false
is_stamp cluster = Bool.false
