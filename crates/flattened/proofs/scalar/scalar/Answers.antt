-- `scalar` meets its contract: the bytes are there, and the number keeps the rule.
use mathlib.Core.Path.{sym, ◌∙◌}
use native.Mathlib.Omega.{arith}
use Rattle.flattened.specs.inner.Order.{order_of}
use Rattle.flattened.proofs.Steps.{skip-to, skip-cut}
use Rattle.flattened.proofs.Cases.{rule-narrow}
use Rattle.flattened.proofs.Scalars.{scalar-cut, scalar-any, scalar-kept, scalar-refused}
use Rattle.flattened.proofs.scalar.scalar.Goals as goal

pub skip-requires : goal.skip-requires
skip-requires c = c.requires.at_in_bounds

pub returns-in_default : goal.returns-in_default
returns-in_default c =
    let a = c.args in
    let s = a.s.now in
    rw c.at.ensures (scalar-cut a.d.now a.p c.requires.stands a.w c.requires.w_value.0 c.requires.w_value.1 (order_of a.o) s a.from.at (skip-cut s a.from.at a.w (sym c.in_default.is ∙ c.skip.ensures)))

pub limit_of-requires : goal.limit_of-requires
limit_of-requires c = c.requires.stands

pub narrow_number-requires : goal.narrow_number-requires
narrow_number-requires c =
    let a = c.args in
    let s = a.s.now in
    let narrow = rule-narrow a.d.now a.p c.requires.stands _ (sym c.in-Some-limit_of.is ∙ c.limit_of.ensures) in
    record { narrow = rw c.requires.w_value.0 narrow; w_in_bounds = (skip-to s a.from.at a.w _ (sym c.in-Some.is ∙ c.skip.ensures)).fits }

pub returns-then-limit-narrow_number : goal.returns-then-limit-narrow_number
returns-then-limit-narrow_number c =
    let a = c.args in
    let s = a.s.now in
    rw c.at-then-limit-narrow_number.ensures (scalar-refused a.d.now a.p c.requires.stands a.w c.requires.w_value.0 c.requires.w_value.1 (order_of a.o) s a.from.at _ (skip-to s a.from.at a.w _ (sym c.in-Some.is ∙ c.skip.ensures)) _ (sym c.in-Some-limit_of.is ∙ c.limit_of.ensures) _ c.narrow_number.ensures c.if-limit-narrow_number.true)

pub returns-in_default-limit_of : goal.returns-in_default-limit_of
returns-in_default-limit_of c =
    let a = c.args in
    let s = a.s.now in
    scalar-any a.d.now a.p c.requires.stands a.w c.requires.w_value.0 c.requires.w_value.1 (order_of a.o) s a.from.at _ (skip-to s a.from.at a.w _ (sym c.in-Some.is ∙ c.skip.ensures)) (sym c.in_default-limit_of.is ∙ c.limit_of.ensures)

pub returns-else-limit-narrow_number : goal.returns-else-limit-narrow_number
returns-else-limit-narrow_number c =
    let a = c.args in
    let s = a.s.now in
    scalar-kept a.d.now a.p c.requires.stands a.w c.requires.w_value.0 c.requires.w_value.1 (order_of a.o) s a.from.at _ (skip-to s a.from.at a.w _ (sym c.in-Some.is ∙ c.skip.ensures)) _ (sym c.in-Some-limit_of.is ∙ c.limit_of.ensures) _ c.narrow_number.ensures (omega (arith, c.if-limit-narrow_number.false))
