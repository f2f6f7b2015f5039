-- `kept` meets its contract: where there is a limit, the numbers are looked at side by side.
use native.Mathlib.Omega.{arith}
use Rattle.flattened.specs.inner.Order.{order_of}
use Rattle.flattened.proofs.Cases.{rule-narrow}
use Rattle.walking.proofs.Passing.{any-kept, low-kept}
use Rattle.walking.proofs.arrays.kept.Goals as goal

pub low-requires-clause-narrow : goal.low-requires-clause-narrow
low-requires-clause-narrow c = rw c.requires.wide (rule-narrow c.args.d.now c.args.p c.requires.stands _ c.in-Some.ensures)

pub returns-in-None : goal.returns-in-None
returns-in-None c = (omega arith, any-kept _ (order_of c.args.o) c.args.s.now c.args.w c.args.at c.args.n c.in-None.ensures)

pub returns-in-Some : goal.returns-in-Some
returns-in-Some c =
    (c.low.ensures.0, low-kept _ (order_of c.args.o) c.args.s.now c.args.w c.args.at c.low.result _ c.in-Some.ensures c.low.ensures.1)
