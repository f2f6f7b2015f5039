-- `store_list` opens the book and writes the identifiers. Rests on `Asked`.
use Rattle.store.proofs.Asked.{Named}
use Rattle.store.proofs.questions.store_list.Given as goal

abbrev pub invariant-loop-i : goal.invariant-loop-i
invariant-loop-i l = Named l.s l.i l.place-items
