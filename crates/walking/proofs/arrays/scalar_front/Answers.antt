-- `scalar_front` meets its contract: the size words, the scalars that are passed, and what is left of them.
use Rattle.std.proofs.lemmas.Result.{err_from_is_err_and}
use Rattle.descriptor.specs.inner.Standing.{standing}
use Rattle.flattened.specs.inner.Order.{order_of}
use Rattle.flattened.specs.inner.Types.{type_at}
use Rattle.flattened.proofs.Types.{standing-solid, type-read}
use Rattle.walking.proofs.Passing.{front-refused, front-sized, front-lies, front-left}
use Rattle.walking.proofs.arrays.scalar_front.Goals as goal

pub returns-in_err-sizes : goal.returns-in_err-sizes
returns-in_err-sizes c =
    let a = c.args in
    let p = err_from_is_err_and c.from_residual.result c.from_residual.ensures.1 in
    rw (p.1, p.2) (front-refused (order_of a.o) a.dims a.s.now a.from.at _ _ c.in_err-sizes.ensures)

pub pass_scalars-passed-requires-clause-data_at : goal.pass_scalars-passed-requires-clause-data_at
pass_scalars-passed-requires-clause-data_at c =
    let a = c.args in
    record { inside = (front-sized (order_of a.o) a.dims a.s.now a.from.at _ c.in_ok-sizes.ensures).inside; short = c.requires.data_at.short }

pub left_after-requires : goal.left_after-requires
left_after-requires c =
    let a = c.args in
    let t = type_at a.d.now a.p in
    let solid = standing-solid a.d.now t a.p _ (type-read (standing a.d.now a.p) c.requires.stands.is) in
    front-lies (order_of a.o) a.dims a.s.now a.from.at _ c.in_ok-sizes.ensures t solid c.requires.data_at.short c.pass_scalars-passed.ensures

pub returns : goal.returns
returns c =
    let a = c.args in
    let t = type_at a.d.now a.p in
    let solid = standing-solid a.d.now t a.p _ (type-read (standing a.d.now a.p) c.requires.stands.is) in
    rw c.left_after.ensures
    (front-left (order_of a.o) a.dims a.s.now a.from.at _ c.in_ok-sizes.ensures t solid c.requires.data_at.short c.pass_scalars-passed.ensures c.requires.dims.0)
