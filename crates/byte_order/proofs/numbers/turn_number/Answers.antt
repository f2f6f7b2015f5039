-- The width by its range.
use Rattle.byte_order.proofs.Widths.{wide-2, wide-4, wide-8, wide-16}
use Rattle.byte_order.proofs.numbers.turn_number.Goals as goal

pub returns-then-w-lt4 : goal.returns-then-w-lt4
returns-then-w-lt4 c = cc (wide-2 c.args.w c.requires.number_wide c.if-w-lt2.false c.if-w-lt4.true)

pub returns-then-w-lt8 : goal.returns-then-w-lt8
returns-then-w-lt8 c = cc (wide-4 c.args.w c.requires.number_wide c.if-w-lt4.false c.if-w-lt8.true)

pub returns-then-w-lt16 : goal.returns-then-w-lt16
returns-then-w-lt16 c = cc (wide-8 c.args.w c.requires.number_wide c.if-w-lt8.false c.if-w-lt16.true)

pub returns-else-w-lt16 : goal.returns-else-w-lt16
returns-else-w-lt16 c = cc (wide-16 c.args.w c.requires.number_wide c.if-w-lt16.false)
