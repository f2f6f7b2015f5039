-- The elements passed are those that the walk reads.
use Prim.Native.Nat.{◌-◌, ◌<◌}
use Rattle.flattened.specs.inner.Order.{order_of}
use Rattle.flattened.specs.inner.Types.{type_at}
use Rattle.walking.specs.inner.Fronts.{Passes}
use Rattle.walking.proofs.arrays.pass_stretches.Given as goal

abbrev pub invariant-loop-passed : goal.invariant-loop-passed
invariant-loop-passed l = (0 < l.stretch) × Passes (order_of l.o) (type_at l.d l.p) l.s l.n l.from.at l.passed

abbrev pub decreases-loop-passed : goal.decreases-loop-passed
decreases-loop-passed l = l.n - l.passed.count
