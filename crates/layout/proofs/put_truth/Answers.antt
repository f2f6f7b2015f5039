use Rattle.std.proofs.Common.{arith}
use Rattle.layout.specs.Numbers.{truth}
use Rattle.layout.proofs.put_truth.Goals as goal

pub returns : goal.returns
unfolding truth
returns c = grind (arith, c.from.ensures)
