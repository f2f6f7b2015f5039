-- `turn_data` judges the descriptor, the data and the room, then turns the data. Rests on `Answering`.
use mathlib.Core.Path.{sym, ap, ◌∙◌}
use native.Mathlib.Omega.{arith}
use Rattle.descriptor.specs.Output.{Written}
use Rattle.descriptor.specs.declared.answer.Answer.{Answer}
use Rattle.flattened.specs.inner.Order.{order_of}
use Rattle.little.proofs.Answering.{turn-refused, check-accepts, accepted-short, accepted-stands, accepted-turnable, turn_small, turn-written}
use Rattle.little.proofs.turn_data.Goals as goal

pub returns-then-checked-ne0 : goal.returns-then-checked-ne0
returns-then-checked-ne0 c =
    let a = c.args in
    let q = turn-refused (order_of a.o) a.d.now a.s.now a.out.now (λ e. c.if-checked-ne0.true (ap (λ (x : Answer). x.number) c.check_ordered-checked.ensures ∙ e)) in
    record { answer = c.check_ordered-checked.ensures ∙ ap (λ (x : Written). x.answer) q; wrote = ap (λ (x : Written). x.out) q }

pub refused-requires : goal.refused-requires
refused-requires c =
    let a = c.args in
    let whole = check-accepts (order_of a.o) a.d.now a.s.now a.out.now (ap (λ (x : Answer). x.number) (sym c.check_ordered-checked.ensures) ∙ c.if-checked-ne0.false) in
    omega (arith, accepted-short (order_of a.o) a.d.now a.s.now a.out.now whole)

pub returns-then-out-n : goal.returns-then-out-n
returns-then-out-n c =
    let a = c.args in
    let whole = check-accepts (order_of a.o) a.d.now a.s.now a.out.now (ap (λ (x : Answer). x.number) (sym c.check_ordered-checked.ensures) ∙ c.if-checked-ne0.false) in
    let q = turn_small (order_of a.o) a.d.now a.s.now a.out.now whole c.if-out-n.true in
    record { answer = c.refused.ensures ∙ ap (λ (x : Written). x.answer) q; wrote = ap (λ (x : Written). x.out) q }

pub turn_values-requires : goal.turn_values-requires
turn_values-requires c =
    let a = c.args in
    let whole = check-accepts (order_of a.o) a.d.now a.s.now a.out.now (ap (λ (x : Answer). x.number) (sym c.check_ordered-checked.ensures) ∙ c.if-checked-ne0.false) in
    record { type_stands = accepted-stands (order_of a.o) a.d.now a.s.now a.out.now whole; turnable = accepted-turnable (order_of a.o) a.d.now a.s.now a.out.now whole c.if-out-n.false }

pub accepted-requires : goal.accepted-requires
accepted-requires c =
    let a = c.args in
    let whole = check-accepts (order_of a.o) a.d.now a.s.now a.out.now (ap (λ (x : Answer). x.number) (sym c.check_ordered-checked.ensures) ∙ c.if-checked-ne0.false) in
    omega (arith, accepted-short (order_of a.o) a.d.now a.s.now a.out.now whole)

pub returns : goal.returns
returns c =
    let a = c.args in
    let whole = check-accepts (order_of a.o) a.d.now a.s.now a.out.now (ap (λ (x : Answer). x.number) (sym c.check_ordered-checked.ensures) ∙ c.if-checked-ne0.false) in
    let q = turn-written (order_of a.o) a.d.now a.s.now a.out.now whole c.if-out-n.false _ _ c.turn_values.ensures in
    record { answer = c.accepted.ensures ∙ ap (λ (x : Written). x.answer) q; wrote = ap (λ (x : Written). x.out) q }
