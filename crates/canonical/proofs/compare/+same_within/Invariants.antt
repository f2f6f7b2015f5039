-- `same_within` compares descriptor by descriptor, and goes into each that has descriptors in it. The measure is the depth left.
-- The invariant: the comparison from here on is that from the start. Rests on `Turns` and `Spelled`.
use Rattle.std.proofs.Common.{◌≡◌, ◌-◌}
use Rattle.canonical.specs.inner.Walk.{same_within}
use Rattle.canonical.proofs.Turns.{InRow}
use Rattle.canonical.proofs.Spelled.{same_from}
use Rattle.canonical.proofs.compare.+same_within.Given as goal

abbrev pub decreases-same_within : goal.decreases-same_within
decreases-same_within l = l.levels

abbrev pub invariant-loop : goal.invariant-loop
invariant-loop l = record {
  row : InRow l.a (l.k - l.counter) l.p l.stop l.levels;
  same : same_within l.a l.b l.k l.start l.stop ≡ same_from l.a l.b l.k l.counter l.p l.stop;
}
