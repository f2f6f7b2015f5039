-- `is_reserved` looks for the descriptor that q is in. The invariant: a no from here is a no from the start. Rests on `Unlike`.
use Prim.Native.Nat.{◌-◌}
use lib.ListN.{length}
use Rattle.canonical.proofs.Unlike.{Seeking}
use Rattle.canonical.proofs.compare.is_reserved.Given as goal

abbrev pub invariant-loop-k : goal.invariant-loop-k
invariant-loop-k l = Seeking l.a l.q l.p l.k

abbrev pub decreases-loop-k : goal.decreases-loop-k
decreases-loop-k l = length l.a - l.p
