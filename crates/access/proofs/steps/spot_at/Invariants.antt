-- The spot from here on is the spot from the start.
use Rattle.access.proofs.Paths.{PathLoop}
use Rattle.access.proofs.steps.spot_at.Given as goal

abbrev pub invariant-loop-i : goal.invariant-loop-i
invariant-loop-i l = PathLoop l.d l.s l.path l.spot l.i
