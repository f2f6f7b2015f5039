-- `turn_run_of` meets its contract. The invariant: the numbers passed are turned.
use Rattle.std.proofs.Common.{◌≡◌}
use Rattle.byte_order.specs.inner.Turning.{turned_run}
use Rattle.byte_order.proofs.runs.turn_run_of.Given as goal

abbrev pub invariant-loop-i : goal.invariant-loop-i
invariant-loop-i g l = l.out ≡ turned_run g.N.Turn.WIDTH l.s l.i l.at l.initial.out
