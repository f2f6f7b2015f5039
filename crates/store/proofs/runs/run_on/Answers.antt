-- The answers to the goals of `run_on`.
use mathlib.Core.Path.{refl}
use native.Mathlib.Omega.{arith}
use Rattle.store.proofs.Laying.{laid-stop}
use Rattle.store.proofs.Opening.{said-blank, run-next}
use Rattle.store.proofs.runs.run_on.Goals as goal

pub stop-requires : goal.stop-requires
stop-requires c = omega (arith, laid-stop c.args.entries.bytes.now c.loop-i.i c.loop-i.run.at c.in-Some-blank.r c.in-Some-blank.ensures)

pub loop-i-preserved : goal.loop-i-preserved
loop-i-preserved c =
    let e = c.args.entries in
    let l = c.loop-i in
    let r = c.in-Some-blank.r in record {
      here = omega arith;
      ran = rw c.leave.ensures
          (run-next e.bytes.now e.count c.args.marks.now.met c.args.run l.marks.met l.run l.invariant.ran l.i l.invariant.here c.loop-i-test.true r
          c.in-Some-blank.ensures (said-blank r c.in-Some.d.descriptor.bytes.now (c.if-not-is.ensures refl) _ c.if-not-says_at_once.ensures) l.marks.long
          c.if-met.ensures _ c.stop.ensures);
    }
