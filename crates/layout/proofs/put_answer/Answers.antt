use mathlib.Core.Path.{refl}
use Rattle.layout.specs.Numbers.{answer_numbers}
use Rattle.layout.proofs.put_answer.Goals as goal

pub returns : goal.returns
unfolding answer_numbers
returns c = refl
