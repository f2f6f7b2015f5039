use Rattle.byte_order.proofs.RunTurns.{run-none, run-next}
use Rattle.byte_order.proofs.runs.turn_run_of.Goals as goal

pub loop-i-init : goal.loop-i-init
loop-i-init g c = let a = c.args in run-none a.s.now g.N.Turn.WIDTH a.at a.out.now

pub loop-i-preserved : goal.loop-i-preserved
loop-i-preserved g c =
    let a = c.args in
    cc (run-next a.s.now g.N.Turn.WIDTH c.loop-i.i a.at a.out.now, c.turn.ensures, c.WIDTH.ensures)
