use native.Mathlib.Omega.{arith}
use Rattle.byte_order.proofs.RunTurns.{run-none, run-four, run-rest}
use Rattle.byte_order.proofs.runs.turn_run_8.Goals as goal

pub loop-i-init : goal.loop-i-init
loop-i-init c = let a = c.args in (omega arith, run-none a.s.now 8 a.at a.out.now)

pub loop-i-preserved : goal.loop-i-preserved
loop-i-preserved c =
    let a = c.args in
    (omega arith, cc (run-four a.s.now c.loop-i.i a.at a.out.now))

pub returns : goal.returns
returns c =
    let a = c.args in
    cc (run-rest a.s.now 8 c.loop-i.i a.n a.at a.out.now c.loop-i.invariant.0)
