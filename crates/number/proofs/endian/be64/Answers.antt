-- `be64` meets its contract: two numbers of four bytes, joined by the split law.
use native.Mathlib.Omega.{arith}
use Rattle.number.proofs.Reading.{be-split}
use Rattle.number.proofs.endian.be64.Goals as goal

pub returns : goal.returns
returns c = record { eq = omega (arith, be-split c.args.s.now c.args.at 4 4); below = omega arith }
