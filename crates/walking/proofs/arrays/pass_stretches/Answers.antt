-- The answers to the goals of `pass_stretches`.
use Prim.Native.Nat.{◌+◌, ◌≤◌}
use native.Mathlib.Omega.{arith}
use Rattle.flattened.specs.inner.Order.{order_of}
use Rattle.flattened.specs.inner.Types.{type_at}
use Rattle.flattened.proofs.Types.{type-solid}
use Rattle.walking.proofs.Passing.{pass-none, passed-within, pass-next}
use Rattle.walking.proofs.arrays.pass_stretches.Goals as goal

pub loop-passed-init : goal.loop-passed-init
loop-passed-init c =
    let a = c.args in
    (c.requires.first, pass-none (order_of a.o) (type_at a.d.now a.p) a.s.now a.n a.from.at c.default-passed.result c.default-passed.ensures)

pub past-requires : goal.past-requires
past-requires c =
    let solid = type-solid c.args.d.now c.args.p c.args.left c.requires.type_stands in
    let within = passed-within c.loop-passed.invariant.1 solid c.requires.data_at.inside in
    omega (arith, within.inside, c.requires.data_at.short)

pub pass_extent-more-requires-clause-data_at : goal.pass_extent-more-requires-clause-data_at
pass_extent-more-requires-clause-data_at c =
    let solid = type-solid c.args.d.now c.args.p c.args.left c.requires.type_stands in
    let within = passed-within c.loop-passed.invariant.1 solid c.requires.data_at.inside in
    rw c.past.ensures (record { inside = within.inside; short = c.requires.data_at.short })

pub add-passed-requires : goal.add-passed-requires
add-passed-requires c =
    let l = c.loop-passed in
    let solid = type-solid c.args.d.now c.args.p c.args.left c.requires.type_stands in
    let within = passed-within l.invariant.1 solid c.requires.data_at.inside in
    let passes = rw c.past.ensures at c.pass_extent-more.ensures in
    let more = passed-within passes solid within.inside in (
      omega (arith, c.ranges.n, l.invariant.1.most, passes.most),
      omega (arith, more.inside, c.requires.data_at.short),
      omega (arith, within.tokens, more.tokens, more.inside, c.requires.data_at.short),
    )

pub returns-then-more-span : goal.returns-then-more-span
returns-then-more-span c =
    let l = c.loop-passed in
    let room : l.passed.count + c.min-span.result ≤ c.args.n = omega arith in
    rw c.add-passed.ensures (pass-next l.invariant.1 room (rw c.past.ensures at c.pass_extent-more.ensures))

pub loop-passed-preserved : goal.loop-passed-preserved
loop-passed-preserved c =
    let l = c.loop-passed in
    let room : l.passed.count + c.min-span.result ≤ c.args.n = omega arith in
    (c.longer-stretch.ensures, rw c.add-passed.ensures (pass-next l.invariant.1 room (rw c.past.ensures at c.pass_extent-more.ensures)))
