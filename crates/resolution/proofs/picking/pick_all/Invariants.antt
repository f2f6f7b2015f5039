-- `pick_all` picks one member after another and adds up their lengths. Rests on `Planned`.
use Rattle.resolution.proofs.Planned.{PlanLoop}
use Rattle.resolution.proofs.picking.pick_all.Given as goal

abbrev pub invariant-loop-j : goal.invariant-loop-j
invariant-loop-j l = PlanLoop l.w.d.now l.w.count l.r.d.now l.r.count l.starts l.picks l.total l.j
