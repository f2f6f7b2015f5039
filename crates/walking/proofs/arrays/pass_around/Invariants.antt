-- The walk reads the values passed.
use Rattle.flattened.specs.inner.Order.{order_of}
use Rattle.walking.proofs.Arounds.{AroundLoop}
use Rattle.walking.proofs.arrays.pass_around.Given as goal

abbrev pub invariant-loop-count : goal.invariant-loop-count
invariant-loop-count l = AroundLoop (order_of l.o) l.s l.before l.after l.tokens l.from.at l.next.at l.count
