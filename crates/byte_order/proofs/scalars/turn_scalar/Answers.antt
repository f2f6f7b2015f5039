-- `turn_scalar` meets its contract: the two halves of a complex number, or one whole number.
use Rattle.byte_order.proofs.Widths.{complex-halved, real-whole, halves_run, whole_run}
use Rattle.byte_order.proofs.scalars.turn_scalar.Goals as goal

pub turn_number-requires-clause-number_wide : goal.turn_number-requires-clause-number_wide
turn_number-requires-clause-number_wide c = (complex-halved 1 c.requires.w_value c.if-is_complex.ensures).wide

pub turn_number-requires-then-is_complex-clause-number_wide : goal.turn_number-requires-then-is_complex-clause-number_wide
turn_number-requires-then-is_complex-clause-number_wide c = (complex-halved 1 c.requires.w_value c.if-is_complex.ensures).wide

pub turn_number-requires-else-is_complex-clause-number_wide : goal.turn_number-requires-else-is_complex-clause-number_wide
turn_number-requires-else-is_complex-clause-number_wide c = (real-whole 1 c.requires.w_value c.if-is_complex.ensures).wide

pub returns-then-is_complex : goal.returns-then-is_complex
returns-then-is_complex c =
    let a = c.args in
    cc (halves_run a.s.now a.out.now a.at (complex-halved 1 c.requires.w_value c.if-is_complex.ensures))

pub returns-else-is_complex : goal.returns-else-is_complex
returns-else-is_complex c =
    let a = c.args in
    cc (whole_run a.s.now a.out.now a.at (real-whole 1 c.requires.w_value c.if-is_complex.ensures))
