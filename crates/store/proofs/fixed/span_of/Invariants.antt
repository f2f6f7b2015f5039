-- `span_of` adds up the widths of the members before the one that carries the identifier. Rests on `Steady`.
use Rattle.store.proofs.Steady.{SpanLoop}
use Rattle.store.proofs.fixed.span_of.Given as goal

abbrev pub invariant-loop : goal.invariant-loop
invariant-loop l = SpanLoop l.d.bytes.now l.p l.place l.counter
