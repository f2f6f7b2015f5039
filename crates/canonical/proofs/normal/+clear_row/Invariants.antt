-- `clear_row` clears descriptor by descriptor, and goes into each that has descriptors in it. The measure is the depth left.
-- The invariant: what is cleared from here on is what is cleared from the start. Rests on `Turns` and `Cleared`.
use Rattle.std.proofs.Common.{◌≡◌, ◌-◌, length}
use Rattle.canonical.proofs.Turns.{InRow}
use Rattle.canonical.proofs.Cleared.{clear_from}
use Rattle.canonical.proofs.normal.+clear_row.Given as goal

abbrev pub decreases-clear_row : goal.decreases-clear_row
decreases-clear_row l = l.levels

abbrev pub invariant-loop : goal.invariant-loop
invariant-loop l = record {
  row : InRow l.d (l.k - l.counter) l.p (length l.d) l.levels;
  long : length l.out ≡ length l.initial.out;
  same : clear_from l.d l.k 0 l.start l.initial.out ≡ clear_from l.d l.k l.counter l.p l.out;
}
