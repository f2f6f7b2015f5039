-- The answers to the goals of `store_list`.
use mathlib.Core.Path.{ap, ◌∙◌}
use native.Mathlib.Omega.{arith}
use mathlib.Core.Path.{◌≡◌}
use lib.ListN.{length, take}
use lib.Seq.{length-take-le}
use Rattle.descriptor.specs.Output.{Written}
use Rattle.store.proofs.Asked.{asked-place, list-lost, list-small, named-begin, named-again, list_done}
use Rattle.store.proofs.questions.store_list.Goals as goal

pub of-requires : goal.of-requires
of-requires c = asked-place c.args.s.now _ c.in-Err.ensures c.type_inv.s

pub returns-in-Err : goal.returns-in-Err
returns-in-Err c =
    let q = list-lost c.args.s.now _ c.in-Err.ensures c.args.out.now in
    record { answer = c.of.ensures ∙ ap (λ (w : Written). w.answer) q; wrote = ap (λ (w : Written). w.out) q }

pub returns-then-out-n : goal.returns-then-out-n
returns-then-out-n c =
    let q = list-small c.args.s.now _ c.in-Ok.ensures c.args.out.now c.if-out-n.true in
    record { answer = c.refused.ensures ∙ ap (λ (w : Written). w.answer) q; wrote = ap (λ (w : Written). w.out) q }

pub loop-i-init : goal.loop-i-init
loop-i-init c = named-begin c.args.s.now _

pub loop-i-preserved : goal.loop-i-preserved
loop-i-preserved c =
    named-again c.args.s.now c.loop-i.place-items c.loop-i.i (omega arith) c.loop-i.invariant _ (rw c.in-Ok.ensures.bytes at c.identifier.ensures)

pub returns : goal.returns
returns c =
    let l = c.loop-i in
    let out = c.args.out.now in
    let n = c.in-Ok.book.entries.count in
    let long : length (take n out) ≡ n = length-take-le n out c.if-out-n.false in
    let all : l.i ≡ n = omega arith in
    let q = list_done c.args.s.now _ c.in-Ok.ensures out l.place-items c.if-out-n.false (omega arith) (rw all at l.invariant) in
    record { answer = c.accepted.ensures ∙ ap (λ (w : Written). w.answer) q; wrote = ap (λ (w : Written). w.out) q }
