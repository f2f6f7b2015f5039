-- `array_front` meets its contract: the size words, the elements that are passed, and what is left of them.
use Rattle.std.proofs.lemmas.Result.{err_from_is_err_and}
use Rattle.flattened.specs.inner.Order.{order_of}
use Rattle.flattened.specs.inner.Types.{type_at}
use Rattle.flattened.proofs.Types.{type-solid}
use Rattle.walking.proofs.Passing.{front-refused, front-sized, front-lies, front-left}
use Rattle.walking.proofs.arrays.array_front.Goals as goal

pub returns-in_err-sizes : goal.returns-in_err-sizes
returns-in_err-sizes c =
    let a = c.args in
    let p = err_from_is_err_and c.from_residual.result c.from_residual.ensures.1 in
    rw (p.1, p.2) (front-refused (order_of a.o) a.dims a.s.now a.from.at _ _ c.in_err-sizes.ensures)

pub pass-passed-requires-clause-data_at : goal.pass-passed-requires-clause-data_at
pass-passed-requires-clause-data_at c =
    let a = c.args in
    record { inside = (front-sized (order_of a.o) a.dims a.s.now a.from.at _ c.in_ok-sizes.ensures).inside; short = c.requires.data_at.short }

pub left_after-requires : goal.left_after-requires
left_after-requires c =
    let a = c.args in
    let solid = type-solid a.d.now a.p a.left c.requires.type_stands in
    front-lies (order_of a.o) a.dims a.s.now a.from.at _ c.in_ok-sizes.ensures (type_at a.d.now a.p) solid c.requires.data_at.short c.pass-passed.ensures

pub returns : goal.returns
returns c =
    let a = c.args in
    let solid = type-solid a.d.now a.p a.left c.requires.type_stands in
    rw c.left_after.ensures
    (front-left (order_of a.o) a.dims a.s.now a.from.at _ c.in_ok-sizes.ensures (type_at a.d.now a.p) solid c.requires.data_at.short c.pass-passed.ensures c.requires.dims.0)
