-- The answers to the goals of `walk_members`.
use mathlib.Core.Path.{ap}
use Prim.Native.Nat.{ℕ, ◌+◌}
use native.Mathlib.Omega.{arith}
use Rattle.descriptor.proofs.Bodies.{header-room}
use Rattle.resolution.proofs.Walking.{walk-begin, walk-type, walk-again}
use Rattle.resolution.proofs.data.walk_members.Goals as goal

pub loop-i-init : goal.loop-i-init
loop-i-init c = let a = c.args in walk-begin a.d.now a.k a.start a.s.now c.requires.members c.requires.data_at a.starts.now (omega arith)

pub walk_member-requires-clause-type_stands : goal.walk_member-requires-clause-type_stands
walk_member-requires-clause-type_stands c =
    let a = c.args in
    let l = c.loop-i in
    walk-type a.d.now a.k a.start a.s.now c.requires.members l.starts l.p l.next.at l.i l.invariant c.loop-i-test.true

pub size_at-requires : goal.size_at-requires
size_at-requires c =
    let a = c.args in
    let l = c.loop-i in
    header-room a.d.now l.p (walk-type a.d.now a.k a.start a.s.now c.requires.members l.starts l.p l.next.at l.i l.invariant c.loop-i-test.true).here

pub loop-i-preserved : goal.loop-i-preserved
loop-i-preserved c =
    let a = c.args in
    let l = c.loop-i in
    walk-again a.d.now a.k a.start a.s.now c.requires.members l.starts l.p l.next.at l.i l.invariant c.loop-i-test.true _ c.in_ok-next.ensures _ (ap (λ (x : ℕ). l.p + x) c.size_at.ensures.eq) (omega arith)
