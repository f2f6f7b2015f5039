-- The member from here on is the member from the start.
use Rattle.access.proofs.Members.{MemberLoop}
use Rattle.access.proofs.steps.member.Given as goal

abbrev pub invariant-loop : goal.invariant-loop
invariant-loop l = MemberLoop l.i l.d l.start l.n l.k l.s l.initial.next.at l.p l.next.at l.counter
