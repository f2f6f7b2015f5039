-- Two numbers of eight bytes in each other's place.
use mathlib.Core.Path.{◌∙◌}
use Rattle.byte_order.proofs.Reversing.{halves-turned}
use Rattle.byte_order.proofs.numbers.U128Turn.turn.Goals as goal

pub returns : goal.returns
returns c =
    let a = c.args in
    let high = c.read_8-high in
    rw c.write_8.ensures at c.write_8-2.ensures ∙ halves-turned a.s.now c.type_inv.s a.out.now 8 a.at _ _ c.requires.inside high.ensures c.read_8-low.ensures
