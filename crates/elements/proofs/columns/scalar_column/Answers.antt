-- `scalar_column` meets its contract: where there is a limit, the numbers are looked at.
use native.Mathlib.Omega.{arith}
use Rattle.flattened.specs.inner.Order.{order_of}
use Rattle.flattened.proofs.Cases.{rule-narrow}
use Rattle.elements.proofs.Keeping.{each-any, each_below}
use Rattle.elements.proofs.columns.scalar_column.Goals as goal

pub column-requires-clause-narrow : goal.column-requires-clause-narrow
column-requires-clause-narrow c =
    rw c.requires.wide.0 (rule-narrow c.args.d.now c.args.p c.requires.stands _ c.in-Some.ensures)

pub returns-in-None : goal.returns-in-None
returns-in-None c =
    let a = c.args in
    (omega arith, each-any (order_of a.o) a.s.now a.front a.whole a.from.at a.n a.d.now a.p c.requires.stands (omega (arith, c.requires.wide.0)) c.in-None.ensures)

pub returns-in-Some : goal.returns-in-Some
returns-in-Some c =
    let a = c.args in
    (c.column.ensures.0, each_below (order_of a.o) a.s.now a.front a.whole a.from.at c.column.result a.d.now a.p c.requires.stands (omega (arith, c.requires.wide.0)) _ a.w c.in-Some.ensures c.requires.wide.0 c.column.ensures.1)
