use Rattle.std.proofs.Common.{arith}
use Rattle.std.proofs.lemmas.Int.{ints}
use Rattle.timestamp.proofs.Bits.{bits-cast}
use Rattle.timestamp.proofs.seconds_of.Goals as goal

pub returns : goal.returns
returns c = omega (arith, ints, bits-cast c.args.low)
