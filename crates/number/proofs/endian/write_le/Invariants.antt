-- `write_le` meets its contract. The invariant: with the n - i bytes that are left, the buffer becomes what is promised.
use mathlib.Core.Path.{◌≡◌}
use Prim.Native.Nat.{◌+◌, ◌-◌}
use lib.Seq.{sets}
use Rattle.number.specs.Endian.{le_bytes}
use Rattle.number.proofs.endian.write_le.Given as goal

abbrev pub invariant-loop-i : goal.invariant-loop-i
invariant-loop-i l = sets l.out (l.at + l.i) (le_bytes (l.n - l.i) l.rest) ≡ sets l.initial.out l.at (le_bytes l.n l.v)
