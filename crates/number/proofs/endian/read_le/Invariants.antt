-- `read_le` meets its contract. The invariant: the bytes past the first `left` are read.
use Prim.Native.Nat.{◌+◌, ◌-◌, ◌^◌}
use Rattle.number.specs.Endian.{le}
use Rattle.number.specs.inner.Post.{Bounded}
use Rattle.number.proofs.endian.read_le.Given as goal

abbrev pub invariant-loop-left : goal.invariant-loop-left
invariant-loop-left l = Bounded l.v (le l.s (l.at + l.left) (l.n - l.left)) (256 ^ (l.n - l.left))
