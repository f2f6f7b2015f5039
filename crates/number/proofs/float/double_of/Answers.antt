-- `double_of` meets its contract: its test is that of a NaN's pattern.
use lib.Ieee.{binary64}
use Rattle.number.specs.Float.{double_of}
use Rattle.number.proofs.Pattern.{up_to_infinity, above-infinity, no_nan}
use Rattle.number.proofs.float.double_of.Goals as goal

pub float_from_bits-result : goal.float_from_bits-result
float_from_bits-result c = no_nan binary64 _ (up_to_infinity binary64 _ c.if-bits-le-DOUBLE_INFINITY.true)

pub returns-then-bits-le-DOUBLE_INFINITY : goal.returns-then-bits-le-DOUBLE_INFINITY
unfolding double_of
returns-then-bits-le-DOUBLE_INFINITY c = rw (up_to_infinity binary64 _ c.if-bits-le-DOUBLE_INFINITY.true)

pub returns-else-bits-le-DOUBLE_INFINITY : goal.returns-else-bits-le-DOUBLE_INFINITY
unfolding double_of
returns-else-bits-le-DOUBLE_INFINITY c = rw (above-infinity binary64 _ c.if-bits-le-DOUBLE_INFINITY.false)
