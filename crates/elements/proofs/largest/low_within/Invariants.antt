-- `low_within` meets its contract. The invariant: those counted are each below the limit, and the span lies after them.
use Prim.Native.Nat.{◌+◌, ◌≤◌}
use Rattle.flattened.specs.inner.Order.{order_of}
use Rattle.elements.specs.inner.Largest.{EachLow}
use Rattle.elements.proofs.largest.low_within.Given as goal

abbrev pub invariant-loop-span : goal.invariant-loop-span
invariant-loop-span l = (l.count + l.span ≤ l.n) × EachLow l.limit (order_of l.o) l.s l.w l.step l.at l.count

abbrev pub decreases-loop-span : goal.decreases-loop-span
decreases-loop-span l = l.span
