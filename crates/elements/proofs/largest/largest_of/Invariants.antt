-- `largest_of` meets its contract. The invariant: the largest of the numbers passed.
use Rattle.std.proofs.Common.{◌≡◌}
use Rattle.flattened.specs.inner.Order.{order_of}
use Rattle.elements.specs.inner.Largest.{largest}
use Rattle.elements.proofs.largest.largest_of.Given as goal

abbrev pub invariant-loop-i : goal.invariant-loop-i
invariant-loop-i g l = g.N.Number.value l.most ≡ largest (order_of l.o) l.s g.N.Number.WIDTH l.step l.at l.i
