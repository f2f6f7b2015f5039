-- `low` meets its contract. The invariant: those counted are each below the limit.
use Prim.Native.Nat.{◌-◌, ◌≤◌, ◌<◌}
use Rattle.flattened.specs.inner.Order.{order_of}
use Rattle.elements.specs.inner.Largest.{EachLow}
use Rattle.elements.proofs.largest.low.Given as goal

abbrev pub invariant-loop-count : goal.invariant-loop-count
invariant-loop-count l = (0 < l.stretch) × ((l.count ≤ l.n) × EachLow l.limit (order_of l.o) l.s l.w l.step l.at l.count)

abbrev pub decreases-loop-count : goal.decreases-loop-count
decreases-loop-count l = l.n - l.count
