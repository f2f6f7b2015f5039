-- The extent of a type and of a row of types. The measure is the depth left, twice, and one more for a row. The invariant: the extent so
-- far, and that of the types that are left, are the extent of all. Rests on `Cases` and `ExtentTurns`.
use Prim.Native.Nat.{◌+◌}
use Rattle.flattened.proofs.ExtentTurns.{ExtentLoop}
use Rattle.flattened.proofs.extent.+extent_of_extent_row.Given as goal

abbrev pub decreases-extent_of : goal.decreases-extent_of
decreases-extent_of l = l.left + l.left

abbrev pub decreases-extent_row : goal.decreases-extent_row
decreases-extent_row l = l.left + l.left + 1

abbrev pub invariant-extent_row-loop : goal.invariant-extent_row-loop
invariant-extent_row-loop l = ExtentLoop l.d l.k l.start l.left l.p l.extent l.counter
