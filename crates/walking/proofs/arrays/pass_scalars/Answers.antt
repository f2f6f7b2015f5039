-- `pass_scalars` meets its contract: of as many as fit, those that keep their rule.
use Prim.Native.Nat.{◌-◌}
use native.Mathlib.Omega.{arith}
use lib.ListN.{length}
use Rattle.descriptor.specs.Header.{code_in}
use Rattle.flattened.specs.inner.Order.{order_of}
use Rattle.flattened.proofs.Codes.{width-most}
use Rattle.walking.proofs.Passing.{fitting-most, fitting-fewer, pass_kept}
use Rattle.walking.proofs.arrays.pass_scalars.Goals as goal

pub fitting-most-requires : goal.fitting-most-requires
fitting-most-requires c =
    (c.requires.wide.1, omega (arith, c.requires.wide.0, width-most (code_in c.args.d.now c.args.p)), omega (arith, c.requires.data_at.short))

pub returns : goal.returns
returns c =
    let a = c.args in
    let most = fitting-most a.n a.w (length a.s.now - a.at) _ c.fitting-most.ensures in
    let room = fitting-fewer a.n a.w (length a.s.now) a.at _ c.kept-count.result c.fitting-most.ensures c.requires.data_at.inside c.kept-count.ensures.0 in
    pass_kept a.d.now a.p c.requires.stands a.w c.requires.wide.0 c.requires.wide.1 (order_of a.o) a.s.now c.kept-count.result a.n a.at
    (omega (arith, most, c.kept-count.ensures.0)) room c.kept-count.ensures.1
