-- `run_on` goes over entries of one descriptor whose data has one span. Rests on `Opening`.
use mathlib.Core.Path.{◌≡◌}
use Rattle.store.specs.inner.Runs.{Ran}
use Rattle.store.proofs.runs.run_on.Given as goal

abbrev pub invariant-loop-i : goal.invariant-loop-i
invariant-loop-i l = record {
  here : l.run.next ≡ l.i;
  ran : Ran l.entries.bytes.now l.entries.count l.initial.marks.met l.initial.run l.marks.met l.run;
}
