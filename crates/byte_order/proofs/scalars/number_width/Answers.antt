-- By whether the code's values are two numbers.
use Rattle.byte_order.specs.Reversal.{number_width}
use Rattle.byte_order.proofs.scalars.number_width.Goals as goal

pub returns-then-is_complex : goal.returns-then-is_complex
unfolding number_width
returns-then-is_complex c = simp (← c.if-is_complex.ensures, c.requires)

pub returns-else-is_complex : goal.returns-else-is_complex
unfolding number_width
returns-else-is_complex c = simp (← c.if-is_complex.ensures, c.requires)
