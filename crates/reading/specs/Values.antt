-- "Value by path: an unsigned number, a signed number, a single, a double or a flag, by code (01 to 04 signed; 05 to 08 and 15 to 17
-- unsigned; 09, 19 and 0A, 1A by their exact bits; 21 a flag)."
use Rattle.std.specs.Prelude.{Bool, true, false, cond, not, ◌||◌, List, ℕ, ◌+◌, ◌-◌, ◌^◌, eqb, ℤ, pos, negsuc}
use Rattle.std.specs.Float.{binary32, binary64}
use Rattle.std.specs.Float.Ieee.{to_bits}
use Rattle.number.specs.Endian.{be}
use Rattle.number.specs.Signed.{signed}
use Rattle.number.specs.Float.{single_of, double_of}
use Rattle.number.specs.declared.float.Single.{Single}
use Rattle.number.specs.declared.float.Single.TheVariants as single
use Rattle.number.specs.declared.float.Double.{Double}
use Rattle.number.specs.declared.float.Double.TheVariants as double
use Rattle.descriptor.specs.Codes.{between}
use Rattle.descriptor.specs.Tree.{Tree, node}
use Rattle.descriptor.specs.Outcome.{Outcome, read, and_then, require, judge}
use Rattle.descriptor.specs.Check.{checked}
use Rattle.descriptor.specs.Answers.{refusal, accepted}
use Rattle.descriptor.specs.Width.{width_of}
use Rattle.flattened.specs.Order.{big}
use Rattle.flattened.specs.Walk.{walked}
use Rattle.access.specs.Path.{Spot, spot_of}
use Rattle.reading.specs.declared.value.Value.{Value}
use Rattle.reading.specs.declared.value.Value.TheVariants.{Nothing, Unsigned, Signed, Single as SingleValue, SingleNan, Double as DoubleValue, DoubleNan, Flag}
use Rattle.reading.specs.declared.value.Reading.{Reading}

unfoldable pub of_single : Single → Value
of_single (single.Number x) = SingleValue x
of_single (single.Nan bits) = SingleNan bits

unfoldable pub of_double : Double → Value
of_double (double.Number x) = DoubleValue x
of_double (double.Nan bits) = DoubleNan bits

-- the value of the code c whose bytes are the number v; `Nothing` where there is "no single number". Of a Boolean "any byte but zero is true"
-- (document 02, CR 2).
unfoldable pub value_of : ℕ → ℕ → Value
value_of c v =
    cond (between 0x01 0x04 c) (Signed (signed (width_of c) v))
    (cond (between 0x05 0x08 c || between 0x15 0x17 c) (Unsigned v)
    (cond (eqb c 0x09 || eqb c 0x19) (of_single (single_of v))
    (cond (eqb c 0x0A || eqb c 0x1A) (of_double (double_of v))
    (cond (eqb c 0x21) (Flag (not (eqb v 0)))
    Nothing))))

-- whether there is a value
unfoldable pub is_value : Value → Bool
is_value Nothing = false
is_value (Unsigned n) = true
is_value (Signed z) = true
is_value (SingleValue x) = true
is_value (SingleNan b) = true
is_value (DoubleValue x) = true
is_value (DoubleNan b) = true
is_value (Flag b) = true

abbrev pub code_of : Tree → ℕ
code_of (node c b f m) = c

-- the value at a spot: its bytes are a big-endian number
abbrev pub value_at : List ℕ → Spot → Value
value_at s x = value_of (code_of x.type) (be s x.start (width_of (code_of x.type)))

-- 31, "no single number there (string, array, cluster, extended, complex)", place 0
unfoldable pub number_of : List ℕ → Spot → Outcome Value
number_of s x = require (is_value (value_at s x)) 31 0 (read x.start (value_at s x))

-- a refusal gives "no value"
abbrev pub no_value : ℕ → ℕ → ℕ → Reading
no_value number input place = record { answer = refusal number input place; value = Nothing }

-- what `read_value` answers for the descriptor d, the data s and the path; an accepted value has place 0
unfoldable pub read_value : List ℕ → List ℕ → List ℕ → Reading
read_value d s path =
    judge no_value 1 (checked d)
    (λ t.
    judge no_value 3 (walked big t s)
    (λ _. judge no_value 4 (and_then (spot_of path t s) (λ _ x. number_of s x)) (λ v. record { answer = accepted 0; value = v })))

-- a value's kind for callers in C: 0 no value, 1 unsigned, 2 signed, 3 single, 4 double, 5 flag
unfoldable pub value_kind : Value → ℕ
value_kind Nothing = 0
value_kind (Unsigned n) = 1
value_kind (Signed z) = 2
value_kind (SingleValue x) = 3
value_kind (SingleNan b) = 3
value_kind (DoubleValue x) = 4
value_kind (DoubleNan b) = 4
value_kind (Flag b) = 5

-- the 64-bit two's complement of a signed number
unfoldable pub complement : ℤ → ℕ
complement (pos n) = n
complement (negsuc n) = 2 ^ 64 - (n + 1)

-- a value's bits for callers in C
unfoldable pub value_bits : Value → ℕ
value_bits Nothing = 0
value_bits (Unsigned n) = n
value_bits (Signed z) = complement z
value_bits (SingleValue x) = to_bits binary32 x
value_bits (SingleNan b) = b
value_bits (DoubleValue x) = to_bits binary64 x
value_bits (DoubleNan b) = b
value_bits (Flag b) = cond b 1 0
