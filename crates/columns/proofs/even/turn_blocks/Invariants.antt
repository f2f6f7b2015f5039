-- `turn_blocks` meets its contract. The invariant: with the elements that are left, the output becomes what is promised.
use Rattle.flattened.specs.inner.Types.{type_at}
use Rattle.columns.specs.inner.Columns.{numbers_in}
use Rattle.columns.proofs.Blocks.{BlocksLoop}
use Rattle.columns.proofs.even.turn_blocks.Given as goal

abbrev pub invariant-loop-rest : goal.invariant-loop-rest
invariant-loop-rest l = BlocksLoop (numbers_in (type_at l.d l.p)) l.step l.s l.initial.out l.n l.from l.out l.at l.rest

abbrev pub decreases-loop-rest : goal.decreases-loop-rest
decreases-loop-rest l = l.rest
