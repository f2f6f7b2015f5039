-- `same_front` compares eight bytes at a time, as numbers. The invariant: the bytes so far are the same. Rests on `Fronts`.
use Rattle.std.proofs.Common.{◌*◌}
use Rattle.canonical.specs.inner.Walk.{SameFront}
use Rattle.canonical.proofs.compare.same_front.Given as goal

abbrev pub invariant-loop-n : goal.invariant-loop-n
invariant-loop-n l = SameFront l.a l.b (8 * l.n)
