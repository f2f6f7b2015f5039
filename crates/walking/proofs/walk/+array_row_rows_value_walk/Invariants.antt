-- The walk: an array, a value, a row of types, rows, and n values of a type. The measure is five times the depth left, and the
-- function's rank in these. Rests on `Walks`.
use Prim.Native.Nat.{◌+◌, ◌*◌}
use Rattle.flattened.specs.inner.Order.{order_of}
use Rattle.walking.proofs.Walks.{RowLoop, RowsLoop}
use Rattle.walking.proofs.walk.+array_row_rows_value_walk.Given as goal

abbrev pub decreases-array : goal.decreases-array
decreases-array l = 5 * l.left + 4

abbrev pub decreases-row : goal.decreases-row
decreases-row l = 5 * l.left + 1

abbrev pub invariant-row-loop : goal.invariant-row-loop
invariant-row-loop l = RowLoop l.d (order_of l.o) l.s l.k l.start l.initial.next.at l.left l.p l.next.at l.tokens l.counter

abbrev pub decreases-rows : goal.decreases-rows
decreases-rows l = 5 * l.left + 2

abbrev pub invariant-rows-loop : goal.invariant-rows-loop
invariant-rows-loop l = RowsLoop l.d (order_of l.o) l.s l.k l.start l.n l.initial.next.at l.next.at l.tokens l.counter

abbrev pub decreases-value : goal.decreases-value
decreases-value l = 5 * l.left

abbrev pub decreases-walk : goal.decreases-walk
decreases-walk l = 5 * l.left + 3
