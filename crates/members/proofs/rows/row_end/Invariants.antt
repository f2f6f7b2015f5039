-- `row_end` adds the sizes. Rests on `InRow`.
use mathlib.Core.Path.{◌≡◌}
use Rattle.members.specs.inner.Members.{place_from}
use Rattle.members.proofs.rows.row_end.Given as goal

abbrev pub invariant-loop : goal.invariant-loop
invariant-loop l = l.p ≡ place_from l.d l.start l.counter
