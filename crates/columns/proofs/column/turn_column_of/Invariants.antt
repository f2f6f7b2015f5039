-- `turn_column_of` meets its contract. The invariant: the numbers passed are turned.
use Rattle.std.proofs.Common.{◌≡◌, ◌+◌, ◌*◌}
use Rattle.columns.specs.inner.Columns.{turned_column}
use Rattle.columns.proofs.column.turn_column_of.Given as goal

abbrev pub invariant-loop-i : goal.invariant-loop-i
invariant-loop-i g l = record {
  place : l.p ≡ l.at + l._i * l.step;
  same : l.out ≡ turned_column g.N.Turn.WIDTH l.s l.step l._i l.at l.initial.out;
}
