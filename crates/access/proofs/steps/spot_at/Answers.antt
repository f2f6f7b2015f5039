-- The answers to the goals of `spot_at`.
use Rattle.std.proofs.lemmas.Result.{err_from_is_err_and}
use Rattle.access.proofs.Paths.{path-again, path-lost, path-done}
use Rattle.access.proofs.steps.spot_at.Goals as goal

pub returns-in_err-spot : goal.returns-in_err-spot
returns-in_err-spot c =
    let p = err_from_is_err_and c.from_residual.result c.from_residual.ensures.1 in
    rw (p.1, p.2) (path-lost c.loop-i.invariant c.loop-i-test.true _ c.in_err-spot.ensures)

pub loop-i-preserved : goal.loop-i-preserved
loop-i-preserved c = path-again c.loop-i.invariant c.loop-i-test.true _ c.in_ok-spot.ensures

pub returns : goal.returns
returns c = path-done c.loop-i.invariant c.loop-i-test.false
