-- `turn_texts` meets its contract. The invariant: with the strings that are left, the output becomes what is promised.
use Rattle.flattened.specs.Walk.{text_at}
use Rattle.flattened.specs.inner.Order.{order_of}
use Rattle.turning.proofs.Remaining.{RepeatTurns}
use Rattle.turning.proofs.texts.turn_texts.Given as goal

abbrev pub invariant-loop : goal.invariant-loop
invariant-loop l = RepeatTurns (λ p. text_at (order_of l.o) l.s p) l.s l.initial.out l.n l.from l.out l.at l.counter
