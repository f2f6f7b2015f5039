-- The numbers looked at are below the limit.
use Prim.Native.Nat.{◌-◌, ◌≤◌}
use Rattle.flattened.specs.inner.Order.{order_of}
use Rattle.elements.proofs.Placing.{ColumnLoop}
use Rattle.elements.proofs.columns.column_around.Given as goal

abbrev pub invariant-loop-count : goal.invariant-loop-count
invariant-loop-count l = record {
  most : l.count ≤ l.n;
  below : ColumnLoop (order_of l.o) l.s l.front l.before l.after l.initial.next.at l.w l.limit l.next.at l.count;
}

abbrev pub decreases-loop-count : goal.decreases-loop-count
decreases-loop-count l = l.n - l.count
