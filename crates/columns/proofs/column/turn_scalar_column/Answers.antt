-- `turn_scalar_column` meets its contract: the first halves of complex numbers and then the second, or whole numbers.
use Rattle.columns.proofs.ColumnTurns.{halves-columns, whole-column}
use Rattle.byte_order.proofs.Widths.{complex-halved, real-whole}
use Rattle.columns.proofs.column.turn_scalar_column.Goals as goal

pub turn_column-requires-clause-number_wide : goal.turn_column-requires-clause-number_wide
turn_column-requires-clause-number_wide c = (complex-halved 1 c.requires.w_value c.if-is_complex.ensures).wide

pub turn_column-requires-then-is_complex-clause-number_wide : goal.turn_column-requires-then-is_complex-clause-number_wide
turn_column-requires-then-is_complex-clause-number_wide c = (complex-halved 1 c.requires.w_value c.if-is_complex.ensures).wide

pub turn_column-requires-else-is_complex-clause-number_wide : goal.turn_column-requires-else-is_complex-clause-number_wide
turn_column-requires-else-is_complex-clause-number_wide c = (real-whole 1 c.requires.w_value c.if-is_complex.ensures).wide

pub returns-then-is_complex : goal.returns-then-is_complex
returns-then-is_complex c =
    let a = c.args in
    cc (halves-columns a.s.now a.step a.n a.at a.out.now (complex-halved 1 c.requires.w_value c.if-is_complex.ensures))

pub returns-else-is_complex : goal.returns-else-is_complex
returns-else-is_complex c =
    let a = c.args in
    cc (whole-column a.s.now a.step a.n a.at a.out.now (real-whole 1 c.requires.w_value c.if-is_complex.ensures))
