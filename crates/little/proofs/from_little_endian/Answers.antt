-- `from_little_endian` is `turn_data` in its order.
use Rattle.flattened.specs.inner.Order.{order_of}
use Rattle.little.proofs.from_little_endian.Goals as goal

pub returns : goal.returns
unfolding order_of
returns c = c.turn_data.ensures
