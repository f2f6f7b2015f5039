-- `last_namesake` follows the links. Rests on `Chaining`.
use Rattle.members.proofs.Chaining.{Follows}
use Rattle.members.proofs.chains.last_namesake.Given as goal

abbrev pub invariant-loop-i : goal.invariant-loop-i
invariant-loop-i l = Follows l.d l.names l.k l.from l.name l.entry

abbrev pub decreases-loop-i : goal.decreases-loop-i
decreases-loop-i l = l.entry
