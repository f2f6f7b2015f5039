-- The common width of the numbers of a type and of a row of types. The measure is the depth left, twice, and one more for a row. The
-- invariant: the width so far and the numbers that are left have the width of all. Rests on `Numbers`.
use Prim.Native.Nat.{◌+◌}
use Rattle.columns.proofs.Numbers.{CommonLoop}
use Rattle.columns.proofs.even.+common_row_common_width.Given as goal

abbrev pub decreases-common_row : goal.decreases-common_row
decreases-common_row l = l.left + l.left + 1

abbrev pub invariant-common_row-loop-i : goal.invariant-common_row-loop-i
invariant-common_row-loop-i l = CommonLoop l.d l.start l.k l.fn.before l.left l.p l.w l._i

abbrev pub decreases-common_width : goal.decreases-common_width
decreases-common_width l = l.left + l.left
