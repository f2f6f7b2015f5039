-- `check_unused` goes through the unused entries. Rests on `Clearing`.
use mathlib.Core.Path.{◌≡◌}
use Prim.Native.Nat.{◌-◌}
use Rattle.store.specs.Check.{unused_at}
use Rattle.store.proofs.unused.check_unused.Given as goal

abbrev pub invariant-loop-i : goal.invariant-loop-i
invariant-loop-i l = unused_at l.entries.bytes.now (l.entries.count - l.i) l.i ≡ unused_at l.entries.bytes.now (l.entries.count - l.n) l.n
