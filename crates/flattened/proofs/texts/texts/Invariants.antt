-- `texts` meets its contract. The invariant: the strings so far, and the progress of those that are left, are the progress of all.
use Prim.Native.Nat.{◌≤◌}
use lib.ListN.{length}
use Rattle.flattened.specs.Walk.{text_at}
use Rattle.flattened.specs.inner.Order.{order_of}
use Rattle.flattened.proofs.Turns.{RepeatLoop}
use Rattle.flattened.proofs.texts.texts.Given as goal

abbrev pub invariant-loop : goal.invariant-loop
invariant-loop l = RepeatLoop (λ a. text_at (order_of l.o) l.s a) l.n l.initial.next.at l.counter l.counter l.next.at × (l.next.at ≤ length l.s)
