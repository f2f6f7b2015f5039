-- `turn_scalars` meets its contract: the halves of complex numbers, or whole numbers.
use native.Mathlib.Omega.{arith}
use Rattle.byte_order.proofs.Widths.{complex-halved, real-whole}
use Rattle.byte_order.proofs.scalars.turn_scalars.Goals as goal

pub turn_run-requires : goal.turn_run-requires
turn_run-requires c =
    let all = complex-halved c.args.n c.requires.w_value c.if-is_complex.ensures in
    record { number_wide = all.wide; room = record { inside = omega (arith, all.size, c.requires.room.inside); room = c.requires.room.room } }

pub returns-then-is_complex : goal.returns-then-is_complex
returns-then-is_complex c =
    let all = complex-halved c.args.n c.requires.w_value c.if-is_complex.ensures in
    cc (c.turn_run.ensures, all.width, all.count)

pub turn_run-requires-else-is_complex-clause-number_wide : goal.turn_run-requires-else-is_complex-clause-number_wide
turn_run-requires-else-is_complex-clause-number_wide c =
    (real-whole c.args.n c.requires.w_value c.if-is_complex.ensures).wide

pub returns-else-is_complex : goal.returns-else-is_complex
returns-else-is_complex c =
    let all = real-whole c.args.n c.requires.w_value c.if-is_complex.ensures in
    cc (c.turn_run-else-is_complex.ensures, all.width, all.count)
