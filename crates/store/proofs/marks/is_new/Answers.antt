-- `is_new` looks at the mark, and searches where there is one. Rests on `Marking`.
use mathlib.Core.Path.{sym, ◌∙◌}
use Rattle.store.proofs.Marking.{unmarked, new-unseen, new-sought}
use Rattle.store.proofs.marks.is_new.Goals as goal

pub returns-then-not-met-clause-fresh : goal.returns-then-not-met-clause-fresh
returns-then-not-met-clause-fresh c =
    let entries = c.args.entries in
    new-unseen entries.bytes.now entries.count c.args.identifier
    (unmarked entries.bytes.now entries.count c.args.identifier _ c.requires (sym c.met-met.ensures ∙ c.if-not-met.true))

pub returns-clause-fresh : goal.returns-clause-fresh
returns-clause-fresh c =
    new-sought c.args.entries.bytes.now c.args.entries.count c.args.identifier _ c.seek.ensures _ c.is_none.ensures
