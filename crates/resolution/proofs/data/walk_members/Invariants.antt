-- `walk_members` walks one type after another. Rests on `Walking`.
use Rattle.resolution.proofs.Walking.{WalkLoop}
use Rattle.resolution.proofs.data.walk_members.Given as goal

abbrev pub invariant-loop-i : goal.invariant-loop-i
invariant-loop-i l = WalkLoop l.d l.k l.start l.s l.starts l.p l.next.at l.i
