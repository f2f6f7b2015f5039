-- Where the values passed end.
use Rattle.std.proofs.Common.{◌≡◌}
use Rattle.access.specs.inner.Past.{around_end}
use Rattle.access.proofs.past.past_around.Given as goal

abbrev pub invariant-loop : goal.invariant-loop
invariant-loop l = l.next.at ≡ around_end l.before l.after l.s l.initial.next.at l.counter
