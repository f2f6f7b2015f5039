-- `Cursor::word` meets its contract: the skip of four bytes says whether they are there.
use mathlib.Core.Path.{ap₂, ◌∙◌}
use Prim.Native.Nat.{ℕ}
use Rattle.std.specs.Prelude.{Some}
use Rattle.flattened.specs.inner.Cursor.{word}
use Rattle.flattened.specs.inner.Order.{order_of}
use Rattle.flattened.specs.declared.cursor.Cursor.{Cursor}
use Rattle.flattened.proofs.Steps.{skip-to, skip-cut, word-fits, word-short}
use Rattle.flattened.proofs.cursor.Cursor.word.Goals as goal

pub returns-in_err-next : goal.returns-in_err-next
returns-in_err-next c =
    let a = c.args in
    rw c.from_residual.ensures (word-short (order_of a.o) a.s.now a.self.at (skip-cut a.s.now a.self.at 4 c.in_err-next.ensures))

pub number-requires : goal.number-requires
number-requires c =
    let a = c.args in
    (skip-to a.s.now a.self.at 4 _ c.in_ok-next.ensures).fits

pub returns : goal.returns
returns c =
    let a = c.args in
    let next = skip-to a.s.now a.self.at 4 _ c.in_ok-next.ensures in
    ap₂ (λ (v : ℕ) (x : Cursor). Some (word v x)) c.number.ensures next.next ∙ word-fits (order_of a.o) a.s.now a.self.at next.fits
