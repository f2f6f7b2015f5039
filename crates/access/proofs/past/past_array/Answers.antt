-- `past_array` meets its contract: all its elements are read.
use native.Mathlib.Omega.{arith}
use Rattle.flattened.specs.inner.Order.{order_of}
use Rattle.access.proofs.Elements.{array_values}
use Rattle.access.proofs.past.past_array.Goals as goal

pub past-requires : goal.past-requires
unfolding order_of
past-requires c = array_values c.args.d.now c.args.p c.args.dims _ c.args.s.now c.args.from.at c.requires (omega arith) _ c.in-Ok.ensures
