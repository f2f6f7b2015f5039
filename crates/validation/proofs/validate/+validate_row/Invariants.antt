-- `validate_row` reads the descriptors of a row one by one, and calls itself for the children of each. The measure is the depth left.
-- The invariant: what is left to read from here comes to what all of them come to from the start. Assumes nothing.
use Rattle.std.proofs.Common.{◌≡◌, ◌-◌, ◌≤◌}
use Rattle.descriptor.specs.inner.Promises.{row_step}
use Rattle.validation.proofs.validate.+validate_row.Given as goal

abbrev pub decreases-validate_row : goal.decreases-validate_row
decreases-validate_row l = l.levels

abbrev pub invariant-loop : goal.invariant-loop
invariant-loop l = record {
  inside : l.p ≤ l.end;
  same : row_step l.d l.levels l.in_array l.end l.k l.start l.n ≡ row_step l.d l.levels l.in_array l.end (l.k - l.counter) l.p l.rows;
}
