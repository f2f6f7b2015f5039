-- The answers to the goals of `row_end`.
use mathlib.Core.Path.{◌≡◌, refl, sym, ap, subst, ◌∙◌}
use Prim.Native.Nat.{ℕ, ◌+◌, ◌≤◌}
use native.Mathlib.Omega.{arith}
use lib.ListN.{length}
use Rattle.descriptor.specs.Limits.{depth_limit}
use Rattle.descriptor.specs.Header.{size_in}
use Rattle.descriptor.proofs.Bodies.{header-room}
use Rattle.members.specs.inner.Members.{place_from}
use Rattle.members.proofs.InRow.{turn_at, row_last}
use Rattle.members.proofs.rows.row_end.Goals as goal

pub loop-init : goal.loop-init
unfolding place_from
loop-init c = refl

pub size_at-p-requires : goal.size_at-p-requires
size_at-p-requires c =
    let a = c.args in
    let l = c.loop in
    let turn = turn_at a.d.now a.k a.start depth_limit c.requires l.counter c.loop-test.true in
    omega (arith, header-room a.d.now _ turn.first.here, l.invariant)

pub overflow_add-p : goal.overflow_add-p
overflow_add-p c =
    let a = c.args in
    let l = c.loop in
    let turn = turn_at a.d.now a.k a.start depth_limit c.requires l.counter c.loop-test.true in
    let there = l.invariant in
    omega (arith, there, subst (λ (q : ℕ). q + size_in a.d.now q ≤ length a.d.now) (sym there) turn.within, c.size_at-p.ensures.eq, c.requires.small)

pub returns : goal.returns
returns c =
    let a = c.args in
    let l = c.loop in
    let last : l.counter ≡ a.k = omega (arith, c.loop-test.false) in
    l.invariant ∙ ap (place_from a.d.now a.start) last ∙ sym (row_last a.d.now a.k a.start depth_limit c.requires)
