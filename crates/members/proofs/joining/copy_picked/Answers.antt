-- The answers to the goals of `copy_picked`.
use native.Mathlib.Omega.{arith}
use Rattle.members.proofs.Joined.{copy-again}
use Rattle.members.proofs.joining.copy_picked.Goals as goal

pub loop-pick-preserved : goal.loop-pick-preserved
loop-pick-preserved c =
    let a = c.args in
    let l = c.loop-pick in
    copy-again a.s.now a.starts.now a.picks.now a.out.now c.requires.copies c.requires.room l.out l.at l.pick-index l.invariant l.auto.out (omega arith) _ c.from-i.ensures _ c.copy.ensures
