-- `judge_entries` judges the run one by one. The invariant: what is judged from here on is what is judged from the start. Assumes nothing.
use Rattle.std.proofs.Common.{◌≡◌, Bool, ℕ}
use Rattle.descriptor.specs.Check.{judged}
use Rattle.descriptor.proofs.Runs.{judged_from}
use Rattle.validation.specs.inner.Judging.{Tells}
use Rattle.validation.proofs.fields.judge_entries.Given as goal

abbrev pub invariant-loop-i : goal.invariant-loop-i
invariant-loop-i g l = (test : ℕ → Bool) → Tells test (goal.F-post g l.fits) → judged test l.k l.start ≡ judged_from test l.k l.start l.i
