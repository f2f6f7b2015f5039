-- `be16` meets its contract: the two bytes, joined.
use native.Mathlib.Omega.{arith}
use Rattle.number.proofs.Reading.{be-two}
use Rattle.number.proofs.endian.be16.Goals as goal

pub returns : goal.returns
returns c = record { eq = rw be-two (omega arith); below = omega arith }
