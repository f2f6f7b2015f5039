-- The law of reversed numbers at eight bytes.
use mathlib.Core.Path.{◌∙◌}
use Rattle.byte_order.proofs.Reversing.{number-turned}
use Rattle.byte_order.proofs.numbers.U64Turn.turn.Goals as goal

pub returns : goal.returns
returns c =
    let a = c.args in
    c.write_8.ensures ∙ number-turned a.s.now c.type_inv.s a.out.now 8 a.at _ c.requires.inside c.read_8.ensures
