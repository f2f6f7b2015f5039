-- `admit` opens the book, reads the identifier and judges. Rests on `Adding`.
use native.Mathlib.Omega.{arith}
use Rattle.std.proofs.lemmas.Result.{err_from_is_err_and}
use Rattle.store.proofs.Asked.{asked-place, asked-read}
use Rattle.store.proofs.Adding.{add-lost, add-own, add-short, add-taken, add-full, add-narrow, add_entry}
use Rattle.store.proofs.add.admit.Goals as goal

pub of-requires : goal.of-requires
of-requires c = asked-place c.args.s.now _ c.in-Err.ensures.book c.type_inv.s

pub returns-in-Err : goal.returns-in-Err
returns-in-Err c = rw c.of.ensures (add-lost c.args.s.now c.args.d.now c.args.x.now _ c.in-Err.ensures.book)

pub returns-in_err-identifier : goal.returns-in_err-identifier
returns-in_err-identifier c =
    let p = err_from_is_err_and c.from_residual.result c.from_residual.ensures.1 in
    rw (p.1, p.2) (add-own c.args.s.now c.args.d.now c.args.x.now _ c.in-Ok.ensures.book _ c.in_err-identifier.ensures)

pub returns-in_err-n : goal.returns-in_err-n
returns-in_err-n c =
    let book = c.in-Ok.ensures.book in
    let p = err_from_is_err_and c.from_residual-in_err-n.result c.from_residual-in_err-n.ensures.1 in
    let taken = c.in_err-n.ensures in
    rw (p.1, p.2, taken.1)
    (add-taken c.args.s.now c.args.d.now c.args.x.now _ book _ c.in_ok-identifier.ensures _ (rw book.bytes at taken.0))

pub returns-then-book-n : goal.returns-then-book-n
returns-then-book-n c =
    let book = c.in-Ok.ensures.book in
    rw c.refused.ensures
    (add-full c.args.s.now c.args.d.now c.args.x.now _ book _ c.in_ok-identifier.ensures (rw book.bytes at c.in_ok-n.ensures.1)
    (omega (arith, c.in_ok-n.ensures.0)))

pub overflow_add-book : goal.overflow_add-book
overflow_add-book c =
    let book = c.in-Ok.ensures.book in
    let known = asked-read c.args.s.now _ book in
    omega (arith, known.inside, known.short, add-short c.args.s.now c.args.d.now c.args.x.now _ book _ c.in_ok-identifier.ensures)

pub refused-requires-then-s-book : goal.refused-requires-then-s-book
refused-requires-then-s-book c =
    omega (arith, add-short c.args.s.now c.args.d.now c.args.x.now _ c.in-Ok.ensures.book _ c.in_ok-identifier.ensures)

pub returns-then-s-book : goal.returns-then-s-book
returns-then-s-book c =
    let book = c.in-Ok.ensures.book in
    rw c.refused-then-s-book.ensures
    (add-narrow c.args.s.now c.args.d.now c.args.x.now _ book _ c.in_ok-identifier.ensures (rw book.bytes at c.in_ok-n.ensures.1)
    (omega (arith, c.in_ok-n.ensures.0)) c.if-s-book.true)

pub returns : goal.returns
returns c =
    let book = c.in-Ok.ensures.book in
    rw c.in_ok-n.ensures.0
    (add_entry c.args.s.now c.args.d.now c.args.x.now _ book _ c.in_ok-identifier.ensures (rw book.bytes at c.in_ok-n.ensures.1)
    (omega (arith, c.in_ok-n.ensures.0)) c.if-s-book.false (omega arith))
