-- The pass over a value, over values of one type and over rows of types. The measure is the depth left, three times, and more for more
-- values. The invariants: with what is left to turn, the output becomes what is promised. Rests on `Parts`, `Remaining` and `Even`.
use Prim.Native.Nat.{◌+◌, ◌*◌}
use Rattle.flattened.specs.Walk.{walk_all}
use Rattle.flattened.specs.inner.Order.{order_of}
use Rattle.flattened.specs.inner.Types.{types_at}
use Rattle.turning.proofs.Remaining.{RepeatTurns}
use Rattle.turning.proofs.Parts.{RowTurns}
use Rattle.turning.proofs.turn.+turn_rows_turn_value_turn_values.Given as goal

abbrev pub decreases-turn_rows : goal.decreases-turn_rows
decreases-turn_rows l = 3 * l.left + 1

abbrev pub invariant-turn_rows-loop-2 : goal.invariant-turn_rows-loop-2
invariant-turn_rows-loop-2 l = RowTurns l.d (order_of l.o) l.s l.initial.out l.k l.start l.initial.at l.left l.out l.p l.at l.counter

abbrev pub invariant-turn_rows-loop : goal.invariant-turn_rows-loop
invariant-turn_rows-loop l = RepeatTurns (λ q. walk_all (order_of l.o) (types_at l.d l.k l.start) l.s q) l.s l.initial.out l.n l.from l.out l.at l.counter

abbrev pub decreases-turn_value : goal.decreases-turn_value
decreases-turn_value l = 3 * l.left

abbrev pub decreases-turn_values : goal.decreases-turn_values
decreases-turn_values l = 3 * l.left + 2
