-- The answers to the goals of `turn_texts`.
use Rattle.flattened.specs.Walk.{text_at}
use Rattle.flattened.specs.inner.Order.{order_of}
use Rattle.turning.proofs.Remaining.{repeat-begin, repeat-here, repeat-next, repeat-end}
use Rattle.turning.proofs.texts.turn_texts.Goals as goal

pub loop-init : goal.loop-init
loop-init c = let a = c.args in repeat-begin (λ p. text_at (order_of a.o) a.s.now p) a.s.now a.out.now a.n a.from c.requires

pub turn_text-at-requires : goal.turn_text-at-requires
turn_text-at-requires c = let a = c.args in let l = c.loop in repeat-here (λ p. text_at (order_of a.o) a.s.now p) a.s.now a.out.now a.n a.from l.out l.at l.counter l.invariant c.loop-test.true

pub loop-preserved : goal.loop-preserved
loop-preserved c =
    let a = c.args in
    let l = c.loop in
    repeat-next (λ p. text_at (order_of a.o) a.s.now p) a.s.now a.out.now a.n a.from l.out l.at l.counter l.invariant c.loop-test.true _ _ c.turn_text-at.ensures

pub shape_of-out : goal.shape_of-out
shape_of-out c = c.loop.invariant.left.long

pub returns : goal.returns
returns c =
    let a = c.args in
    let l = c.loop in
    repeat-end (λ p. text_at (order_of a.o) a.s.now p) a.s.now a.out.now a.n a.from l.out l.at l.counter l.invariant c.loop-test.false
