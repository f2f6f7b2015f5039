-- `open_marked` judges the sizes, the entries in use and the unused ones. Rests on `Whole`.
use mathlib.Core.Path.{refl}
use native.Mathlib.Omega.{arith}
use Rattle.std.proofs.lemmas.Result.{err_from_is_err_and}
use Rattle.store.proofs.Whole.{open-size, open-room, open-bad, open-dirty, open_done}
use Rattle.store.proofs.open.open_marked.Goals as goal

pub returns-then-size-lt4-clause-book : goal.returns-then-size-lt4-clause-book
returns-then-size-lt4-clause-book c = rw c.at.ensures (open-size c.args.s.now c.then-size-lt4.either)

pub returns-then-size-contents-clause-book : goal.returns-then-size-contents-clause-book
returns-then-size-contents-clause-book c =
    rw c.at-then-size-contents.ensures
    (open-room c.args.s.now c.if-size-lt4.false c.if-size-gt-BOOK_LIMIT.false _ _ c.be16-capacity.ensures.eq c.be16-n.ensures.eq
    (rw c.entry_place-contents.ensures at c.then-size-contents.either))

pub returns-in_err-end-clause-book : goal.returns-in_err-end-clause-book
returns-in_err-end-clause-book c =
    let p = err_from_is_err_and c.from_residual.result c.from_residual.ensures.1 in
    rw (p.1, p.2)
    (open-bad c.args.s.now c.if-size-lt4.false c.if-size-gt-BOOK_LIMIT.false _ _ c.be16-capacity.ensures.eq c.be16-n.ensures.eq
    (omega (arith, c.entry_place-contents.ensures)) c.if-capacity-n.false _
    (rw (c.first-entries.ensures.bytes, c.first-entries.ensures.count, c.entry_place-contents.ensures) at c.in_err-end.ensures.used))

pub returns-in_err-check_unused-clause-book : goal.returns-in_err-check_unused-clause-book
returns-in_err-check_unused-clause-book c =
    let p = err_from_is_err_and c.from_residual-in_err-check_unused.result c.from_residual-in_err-check_unused.ensures.1 in
    rw (p.1, p.2)
    (open-dirty c.args.s.now c.if-size-lt4.false c.if-size-gt-BOOK_LIMIT.false _ _ c.be16-capacity.ensures.eq c.be16-n.ensures.eq
    (omega (arith, c.entry_place-contents.ensures)) c.if-capacity-n.false _
    (rw (c.first-entries.ensures.bytes, c.first-entries.ensures.count, c.entry_place-contents.ensures) at c.in_ok-end.ensures.used) _
    c.in_err-check_unused.ensures)

pub returns-clause-book : goal.returns-clause-book
returns-clause-book c =
    open_done c.args.s.now c.if-size-lt4.false c.if-size-gt-BOOK_LIMIT.false _ _ c.be16-capacity.ensures.eq c.be16-n.ensures.eq
    (omega (arith, c.entry_place-contents.ensures)) c.if-capacity-n.false _
    (rw (c.first-entries.ensures.bytes, c.first-entries.ensures.count, c.entry_place-contents.ensures) at c.in_ok-end.ensures.used)
    c.in_ok-check_unused.ensures _ c.first-entries.ensures.bytes c.first-entries.ensures.count refl refl
