-- The answers to the goals of `of`.
use native.Mathlib.Omega.{arith}
use Rattle.members.proofs.Chaining.{chain-begin, chain-unnamed, chain-again}
use Rattle.members.proofs.chains.Chains.of.Goals as goal
use Rattle.members.proofs.chains.Chains.of.Goals.{in-Some, in_default}

pub loop-i-init : goal.loop-i-init
loop-i-init c = let w = c.args.roster in chain-begin w.d.now w.names.now c.args.heads.now c.args.links.now c.requires (omega arith) (omega arith)

pub loop-i-preserved : goal.loop-i-preserved
loop-i-preserved c =
    let d = c.args.roster.d.now in
    let names = c.args.roster.names.now in
    let l = c.loop-i in
    elim c.match-name.branch [
      | in-Some w ↦ rw (w.heads-is, w.links-is) (chain-again d names l.i l.heads l.links l.invariant _ w.in-Some.ensures _ w.mark-m.ensures.eq w.mark-m.ensures.below (omega arith))
      | in_default w ↦ rw (w.heads-is, w.links-is) (chain-unnamed d names l.i l.heads l.links l.invariant (w.in_default.ensures))
    ]
