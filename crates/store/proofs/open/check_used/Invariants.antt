-- `check_used` goes through the entries in use. Rests on `Opening`.
use mathlib.Core.List.{[]}
use Prim.Native.Nat.{◌-◌}
use Rattle.store.specs.Check.{entries_at}
use Rattle.resolution.specs.inner.Data.{end_of}
use Rattle.store.specs.inner.Runs.{Left}
use Rattle.store.proofs.open.check_used.Given as goal

abbrev pub invariant-loop-run : goal.invariant-loop-run
invariant-loop-run l = Left l.entries.bytes.now l.entries.count (end_of (entries_at l.entries.bytes.now [] l.entries.count 0 l.from)) l.marks.met l.run

abbrev pub decreases-loop-run : goal.decreases-loop-run
decreases-loop-run l = l.entries.count - l.run.next
