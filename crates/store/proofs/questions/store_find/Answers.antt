-- `store_find` opens the book and searches its entries. Rests on `Asked`.
use Rattle.store.proofs.Asked.{asked-place, find-lost, find-none, find-room, find-got}
use Rattle.store.proofs.questions.store_find.Goals as goal

pub of-requires : goal.of-requires
of-requires c = asked-place c.args.s.now _ c.in-Err.ensures c.type_inv.s

pub returns-in-Err-clause-value : goal.returns-in-Err-clause-value
returns-in-Err-clause-value c =
    rw (c.no_part.ensures, c.of.ensures) (find-lost c.args.s.now _ c.in-Err.ensures c.args.identifier)

pub returns-in_default-clause-value : goal.returns-in_default-clause-value
returns-in_default-clause-value c =
    let book = c.in-Ok.ensures in
    rw (c.no_part-in_default.ensures, c.refused.ensures)
    (find-none c.args.s.now _ book c.args.identifier (rw book.bytes at c.in_default.ensures))

pub returns-clause-value : goal.returns-clause-value
returns-clause-value c =
    let book = c.in-Ok.ensures in
    rw c.accepted.ensures
    (find-got c.args.s.now _ book c.args.identifier _ (rw book.bytes at c.in-Some.ensures) _ (rw book.bytes at c.at-e.ensures))

pub returns-clause-within : goal.returns-clause-within
returns-clause-within c =
    let book = c.in-Ok.ensures in
    find-room c.args.s.now _ book c.args.identifier _ (rw book.bytes at c.in-Some.ensures) _ (rw book.bytes at c.at-e.ensures)
