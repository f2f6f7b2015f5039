-- `column_around` meets its contract: the string's element is crossed, and its number looked at beside the string.
use native.Mathlib.Omega.{arith}
use Rattle.flattened.specs.inner.Order.{order_of}
use Rattle.elements.proofs.Placing.{column-begin, column-next}
use Rattle.elements.proofs.columns.column_around.Goals as goal

pub loop-count-init : goal.loop-count-init
loop-count-init c =
    let a = c.args in
    record { most = omega arith; below = column-begin (order_of a.o) a.s.now a.front a.before a.after a.from.at a.w a.limit c.requires.inside }

pub loop-count-preserved : goal.loop-count-preserved
loop-count-preserved c =
    record {
      most = omega arith;
      below = column-next c.loop-count.invariant.below c.in-Some.ensures c.place_in-place.ensures (rw c.narrow_number.ensures at c.if-limit-narrow_number.false);
    }
