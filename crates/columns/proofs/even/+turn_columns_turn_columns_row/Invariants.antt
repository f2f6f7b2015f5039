-- The columns of a type and of a row of types. The measure is the depth left, twice, and one more for a row. The invariant: with the columns
-- that are left, the output becomes what is promised. Rests on `Numbers`.
use Prim.Native.Nat.{◌+◌}
use Rattle.columns.proofs.Numbers.{ColumnsLoop}
use Rattle.columns.proofs.even.+turn_columns_turn_columns_row.Given as goal

abbrev pub decreases-turn_columns : goal.decreases-turn_columns
decreases-turn_columns l = l.left + l.left

abbrev pub decreases-turn_columns_row : goal.decreases-turn_columns_row
decreases-turn_columns_row l = l.left + l.left + 1

abbrev pub invariant-turn_columns_row-loop-i : goal.invariant-turn_columns_row-loop-i
invariant-turn_columns_row-loop-i l = ColumnsLoop l.d l.start l.k l.left l.s l.initial.out l.from l.step l.n l.out l.p l.at l._i
