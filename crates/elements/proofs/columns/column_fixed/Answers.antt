-- `column_fixed` meets its contract: the numbers stand as far apart as the elements.
use Rattle.flattened.specs.inner.Order.{order_of}
use Rattle.elements.proofs.Placing.{fixed-below}
use Rattle.elements.proofs.columns.column_fixed.Goals as goal

pub returns : goal.returns
returns c =
    let a = c.args in
    rw c.in-Fixed.is (c.low.ensures.0, fixed-below (order_of a.o) a.s.now _ _ _ a.step a.at a.w a.limit c.low.result c.low.ensures.1)
