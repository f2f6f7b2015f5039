-- `half_range` meets its contract: the top bit of n bytes is half of 256 ^ n.
use native.Mathlib.Omega.{arith}
use Rattle.number.proofs.Complement.{half-bit}
use Rattle.number.proofs.signed.half_range.Goals as goal

pub returns : goal.returns
returns c = half-bit c.args.n (omega arith) (omega arith)
