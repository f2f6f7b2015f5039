-- `check_names` judges one name after another. Rests on `Named`.
use Rattle.resolution.proofs.Named.{NameLoop}
use Rattle.resolution.proofs.names.check_names.Given as goal

abbrev pub invariant-loop-j : goal.invariant-loop-j
invariant-loop-j l = NameLoop l.roster.d.now l.roster.count l.roster.names.now l.j
