-- `first_difference` goes on byte by byte from the front that is the same. The invariant: the bytes so far are the same. Rests on `Fronts`.
use Rattle.canonical.specs.inner.Walk.{SameFront}
use Rattle.canonical.proofs.compare.first_difference.Given as goal

abbrev pub invariant-loop-i : goal.invariant-loop-i
invariant-loop-i l = SameFront l.a l.b l.i
