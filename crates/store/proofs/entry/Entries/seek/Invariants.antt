-- `Entries::seek` goes through the entries. Rests on `Seeking`.
use Rattle.store.specs.inner.Entries.{Unseen}
use Rattle.store.proofs.entry.Entries.seek.Given as goal

abbrev pub invariant-loop-i : goal.invariant-loop-i
invariant-loop-i l = Unseen l.self.bytes.now l.identifier l.i
