-- `fill` stores each member's places. Rests on `Listing`.
use Rattle.members.proofs.Listing.{ListLoop}
use Rattle.members.proofs.roster.fill.Given as goal

abbrev pub invariant-loop-i : goal.invariant-loop-i
invariant-loop-i l = ListLoop l.d l.k l.start l.places l.names l.p l.i
