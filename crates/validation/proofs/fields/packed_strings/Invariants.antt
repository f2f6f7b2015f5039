-- `packed_strings` passes the strings one by one. The invariant: the items from here on are those from the start. Assumes nothing.
use Rattle.std.proofs.Common.{◌≡◌, ◌≤◌, length}
use Rattle.descriptor.specs.Check.{items_at}
use Rattle.descriptor.specs.inner.Steps.{counted}
use Rattle.descriptor.proofs.Runs.{items_from}
use Rattle.validation.proofs.fields.packed_strings.Given as goal

abbrev pub invariant-loop : goal.invariant-loop
invariant-loop l = record {
  inside : l.at ≤ l.stop;
  same : counted length (items_at l.d l.stop l.k l.start) ≡ items_from l.d l.stop l.k l.counter l.at;
}
