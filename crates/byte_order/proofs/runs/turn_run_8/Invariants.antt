-- `turn_run_8` meets its contract. The invariant: the numbers passed are turned.
use Rattle.std.proofs.Common.{◌≡◌, ◌-◌, ◌≤◌}
use Rattle.byte_order.specs.inner.Turning.{turned_run}
use Rattle.byte_order.proofs.runs.turn_run_8.Given as goal

abbrev pub invariant-loop-i : goal.invariant-loop-i
invariant-loop-i l = (l.i ≤ l.n) × (l.out ≡ turned_run 8 l.s l.i l.at l.initial.out)

abbrev pub decreases-loop-i : goal.decreases-loop-i
decreases-loop-i l = l.n - l.i
