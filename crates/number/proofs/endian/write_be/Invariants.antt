-- `write_be` meets its contract. The invariant: with the bytes that are left, the buffer becomes what is promised.
use mathlib.Core.Path.{◌≡◌}
use lib.Seq.{sets}
use Rattle.number.specs.Endian.{be_bytes}
use Rattle.number.proofs.endian.write_be.Given as goal

abbrev pub invariant-loop-left : goal.invariant-loop-left
invariant-loop-left l = sets l.out l.at (be_bytes l.left l.rest) ≡ sets l.initial.out l.at (be_bytes l.n l.v)
