-- The law of reversed numbers at 2 bytes.
use mathlib.Core.Path.{◌∙◌}
use Rattle.flattened.specs.Order.{number_at}
use Rattle.flattened.specs.inner.Order.{order_of}
use Rattle.byte_order.proofs.Reversing.{number-turned}
use Rattle.byte_order.proofs.numbers.U16Turn.turn.Goals as goal

pub returns : goal.returns
unfolding order_of number_at
returns c =
    let a = c.args in
    c.write_le.ensures ∙ number-turned a.s.now c.type_inv.s a.out.now 2 a.at _ c.requires.inside c.read.ensures
