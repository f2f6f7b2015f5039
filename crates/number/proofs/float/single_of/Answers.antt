-- `single_of` meets its contract: its test is that of a NaN's pattern.
use lib.Ieee.{binary32}
use Rattle.number.specs.Float.{single_of}
use Rattle.number.proofs.Pattern.{up_to_infinity, above-infinity, no_nan}
use Rattle.number.proofs.float.single_of.Goals as goal

pub float_from_bits-result : goal.float_from_bits-result
float_from_bits-result c = no_nan binary32 _ (up_to_infinity binary32 _ c.if-bits-le-SINGLE_INFINITY.true)

pub returns-then-bits-le-SINGLE_INFINITY : goal.returns-then-bits-le-SINGLE_INFINITY
unfolding single_of
returns-then-bits-le-SINGLE_INFINITY c = rw (up_to_infinity binary32 _ c.if-bits-le-SINGLE_INFINITY.true)

pub returns-else-bits-le-SINGLE_INFINITY : goal.returns-else-bits-le-SINGLE_INFINITY
unfolding single_of
returns-else-bits-le-SINGLE_INFINITY c = rw (above-infinity binary32 _ c.if-bits-le-SINGLE_INFINITY.false)
