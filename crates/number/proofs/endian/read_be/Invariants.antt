-- `read_be` meets its contract. The invariant: the bytes passed are read.
use Prim.Native.Nat.{◌^◌}
use Rattle.number.specs.Endian.{be}
use Rattle.number.specs.inner.Post.{Bounded}
use Rattle.number.proofs.endian.read_be.Given as goal

abbrev pub invariant-loop-byte : goal.invariant-loop-byte
invariant-loop-byte l = Bounded l.v (be l.s l.at l.byte-index) (256 ^ l.byte-index)
