-- `pass_extent` meets its contract: by the extent.
use mathlib.Core.Path.{sym, ◌∙◌}
use Prim.Native.Nat.{◌-◌}
use native.Mathlib.Omega.{arith}
use lib.ListN.{length}
use Rattle.flattened.specs.inner.Order.{order_of}
use Rattle.flattened.specs.inner.Types.{type_at}
use Rattle.flattened.proofs.Types.{type-size}
use Rattle.flattened.proofs.ExtentTurns.{Small, type-few}
use Rattle.walking.proofs.Passing.{fitting-most, fitting-fewer, pass-none, pass-more}
use Rattle.walking.proofs.arrays.pass_extent.Goals as goal

pub fitting-fit-requires : goal.fitting-fit-requires
unfolding Small
fitting-fit-requires c =
    let a = c.args in
    let type = c.requires.type_stands in
    let few = rw (sym c.requires.extent ∙ c.in-Fixed.is) at (type-few a.d.now a.p a.left type) in
    (omega (arith, few.tokens, few.many), omega (arith, few.bytes, type-size a.d.now a.p a.left type, type.here.small), omega (arith, c.requires.data_at.short))

pub pass_fixed-requires : goal.pass_fixed-requires
unfolding Small
pass_fixed-requires c =
    let a = c.args in
    let few = rw (sym c.requires.extent ∙ c.in-Fixed.is) at (type-few a.d.now a.p a.left c.requires.type_stands) in
    let fit = c.fitting-fit in
    record {
      tokens = few.tokens;
      fit = fitting-fewer a.n _ (length a.s.now) a.from.at fit.result c.keeping-most.result fit.ensures c.requires.data_at.inside c.keeping-most.ensures.0;
    }

pub pass_around-requires-clause-tokens : goal.pass_around-requires-clause-tokens
unfolding Small
pass_around-requires-clause-tokens c =
    let a = c.args in
    let few = rw (sym c.requires.extent ∙ c.in-Around.is) at (type-few a.d.now a.p a.left c.requires.type_stands) in
    few.tokens

pub returns-in-Varies : goal.returns-in-Varies
returns-in-Varies c = pass-none (order_of c.args.o) (type_at c.args.d.now c.args.p) c.args.s.now c.args.n c.args.from.at c.default.result c.default.ensures

pub returns-in-Fixed : goal.returns-in-Fixed
returns-in-Fixed c =
    let a = c.args in
    let kept = c.keeping-most.ensures in
    let fits = fitting-most a.n _ (length a.s.now - a.from.at) c.fitting-fit.result c.fitting-fit.ensures in
    pass-more (omega (arith, kept.0, fits))
    (c.pass_fixed.ensures (order_of a.o) _ (type_at a.d.now a.p) (sym c.in-Fixed.is ∙ c.requires.extent) kept.1)
