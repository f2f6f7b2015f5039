-- `element` meets its contract: the size words, and the elements before.
use native.Mathlib.Omega.{arith}
use Rattle.flattened.specs.inner.Order.{order_of}
use Rattle.access.proofs.Elements.{sizes_lost, element_out, element_values, element_at}
use Rattle.access.proofs.steps.element.Goals as goal

pub returns-in_default : goal.returns-in_default
unfolding order_of
returns-in_default c =
    let a = c.args in
    absurd (sizes_lost a.d.now a.p a.dims _ a.s.now a.from.at c.requires.array_lies (omega arith) _ c.in_default.ensures)

pub returns-then-sizes-k : goal.returns-then-sizes-k
unfolding order_of
returns-then-sizes-k c =
    let a = c.args in
    element_out a.d.now a.p a.dims _ a.s.now a.from.at c.requires.array_lies (omega arith) _ c.in-Ok.ensures a.k a.i c.requires.small.0 c.requires.small.1 c.if-sizes-k.true

pub past_elements-requires : goal.past_elements-requires
unfolding order_of
past_elements-requires c =
    let a = c.args in
    element_values a.d.now a.p a.dims _ a.s.now a.from.at c.requires.array_lies (omega arith) _ c.in-Ok.ensures a.k a.i c.requires.small.0 c.requires.small.1 c.if-sizes-k.false

pub returns : goal.returns
unfolding order_of
returns c =
    let a = c.args in
    rw c.past_elements.ensures
    (element_at a.d.now a.p a.dims _ a.s.now a.from.at c.requires.array_lies (omega arith) _ c.in-Ok.ensures a.k a.i c.requires.small.0 c.requires.small.1 c.if-sizes-k.false)
