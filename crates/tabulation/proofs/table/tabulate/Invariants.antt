-- `tabulate` fills the rows descriptor by descriptor, with those whose children are being filled in `open`. Rests on `Resuming`.
use Prim.Native.Nat.{◌+◌, ◌-◌}
use Rattle.descriptor.specs.Limits.{row_limit}
use Rattle.tabulation.proofs.Resuming.{Filling}
use Rattle.tabulation.proofs.table.tabulate.Given as goal

abbrev pub invariant-loop-k : goal.invariant-loop-k
invariant-loop-k l = Filling l.d l.initial.rows l.rows l.n l.at l.open l.level l.k

abbrev pub decreases-loop-k : goal.decreases-loop-k
decreases-loop-k l = (row_limit - l.n) + (row_limit - l.n) + l.level
