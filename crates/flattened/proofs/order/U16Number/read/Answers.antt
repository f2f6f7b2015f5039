use native.Mathlib.Nat.{add-zero}
use native.Mathlib.Omega.{arith}
use Rattle.number.specs.Endian.{be, le}
use Rattle.flattened.specs.Order.{number_at}
use Rattle.flattened.specs.inner.Order.{order_of}
use Rattle.flattened.proofs.order.U16Number.read.Goals as goal

pub returns-in-Big : goal.returns-in-Big
unfolding order_of number_at be
returns-in-Big c = simp (c.in-Big.is, add-zero) (omega (arith, c.from_be_bytes.ensures))

pub returns-in-Little : goal.returns-in-Little
unfolding order_of number_at le
returns-in-Little c = simp c.in-Little.is (omega (arith, c.from_le_bytes.ensures))
