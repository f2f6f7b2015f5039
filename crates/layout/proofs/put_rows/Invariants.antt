-- `put_rows` starts from zeros. The loop's invariant: the numbers of the rows passed stand at the front, and zeros after them.
use mathlib.Core.Path.{◌≡◌}
use Rattle.layout.proofs.Rows.{laid}
use Rattle.layout.proofs.put_rows.Given as goal

abbrev pub invariant-loop-i : goal.invariant-loop-i
invariant-loop-i l = l.to ≡ laid l.fn.rows l.i
