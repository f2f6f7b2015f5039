-- `keeping` meets its contract: by columns where anything is judged.
use mathlib.Core.Path.{sym, ap, ◌∙◌}
use native.Mathlib.Omega.{arith}
use Rattle.flattened.specs.inner.Order.{order_of}
use Rattle.flattened.specs.inner.Types.{type_at}
use Rattle.flattened.specs.inner.Columns.{judged_in}
use Rattle.elements.proofs.Keeping.{calm-kept, none_ahead, none-definite, here-kept}
use Rattle.elements.proofs.columns.keeping.Goals as goal

pub columns_of-requires-clause-ahead : goal.columns_of-requires-clause-ahead
columns_of-requires-clause-ahead c =
    (none_ahead c.args.p, none-definite c.args.whole _ c.requires.whole_extent.0 c.requires.whole_extent.1)

pub returns-then-judged_in : goal.returns-then-judged_in
returns-then-judged_in c =
    let a = c.args in
    let kept = c.columns_of.ensures in
    (kept.0, here-kept (order_of a.o) a.s.now (type_at a.d.now a.p) a.whole a.from.at c.columns_of.result kept.1)

pub returns : goal.returns
returns c =
    let a = c.args in
    let calm = sym (ap judged_in c.requires.whole_extent.0) ∙ sym c.judged_in.ensures ∙ c.if-judged_in.false in
    (omega arith, λ i l. calm-kept (order_of a.o) a.s.now (type_at a.d.now a.p) calm _)
