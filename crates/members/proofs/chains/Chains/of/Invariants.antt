-- `of` goes over the names of the members. Rests on `Chaining`.
use Rattle.members.proofs.Chaining.{ChainLoop}
use Rattle.members.proofs.chains.Chains.of.Given as goal

abbrev pub invariant-loop-i : goal.invariant-loop-i
invariant-loop-i l = ChainLoop l.roster.d.now l.roster.names.now l.i l.heads l.links
