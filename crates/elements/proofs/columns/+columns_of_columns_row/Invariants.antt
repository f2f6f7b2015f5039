-- The columns of a type and of a row of types. The measure is the depth left, twice, and one more for a row. The invariant: where the types
-- that are left are kept, all are. Rests on `Keeping`.
use Prim.Native.Nat.{◌+◌}
use Rattle.flattened.specs.inner.Order.{order_of}
use Rattle.elements.proofs.Keeping.{RowLoop}
use Rattle.elements.proofs.columns.+columns_of_columns_row.Given as goal

abbrev pub decreases-columns_of : goal.decreases-columns_of
decreases-columns_of l = l.left + l.left

abbrev pub decreases-columns_row : goal.decreases-columns_row
decreases-columns_row l = l.left + l.left + 1

abbrev pub invariant-columns_row-loop : goal.invariant-columns_row-loop
invariant-columns_row-loop l = RowLoop l.d l.k l.start l.left l.initial.front (order_of l.o) l.s l.whole l.from.at l.n l.p l.front l.count l.counter
