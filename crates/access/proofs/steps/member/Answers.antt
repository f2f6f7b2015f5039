-- The answers to the goals of `member`.
use mathlib.Core.Path.{refl}
use Prim.Native.Nat.{◌<◌}
use native.Mathlib.Omega.{arith}
use Rattle.descriptor.proofs.Bodies.{header-room}
use Rattle.access.proofs.Members.{member-lies, member-value, member-again, member-found, member-none}
use Rattle.access.proofs.steps.member.Goals as goal

pub returns-then-n-k : goal.returns-then-n-k
returns-then-n-k c =
    let a = c.args in
    member-none a.i a.d.now a.start a.n a.k a.s.now a.from.at c.if-n-k.true c.requires.deep c.requires.row_lies

pub past_member-next-requires : goal.past_member-next-requires
past_member-next-requires c = let more : c.loop.counter < c.args.n = omega arith in member-value c.loop.invariant more

pub size_at-p-requires : goal.size_at-p-requires
size_at-p-requires c =
    let more : c.loop.counter < c.args.n = omega arith in
    header-room c.args.d.now c.loop.p (member-lies c.loop.invariant more).type.here

pub loop-preserved : goal.loop-preserved
loop-preserved c =
    let more : c.loop.counter < c.args.n = omega arith in
    rw c.size_at-p.ensures.eq (member-again c.loop.invariant more c.loop-test.true _ c.past_member-next.ensures)

pub returns : goal.returns
returns c =
    let more : c.loop.counter < c.args.n = omega arith in
    member-found c.loop.invariant more (omega arith) c.loop.next refl
