-- `around_joint` meets its contract: by the extent that follows.
use mathlib.Core.Path.{sym, ap}
use native.Mathlib.Omega.{arith}
use Rattle.flattened.specs.inner.Extent.{joint, least, tokens_in}
use Rattle.flattened.specs.declared.extent.Extent.TheVariants.{Around}
use borrow.Author.Rules.{rules}
use Rattle.flattened.proofs.extent.around_joint.Goals as goal

pub overflow_add-result : goal.overflow_add-result
unfolding least
overflow_add-result c = omega (arith, ap least c.in-Fixed.is, c.requires.0)

pub overflow_add-result-in-Fixed : goal.overflow_add-result-in-Fixed
unfolding tokens_in
overflow_add-result-in-Fixed c = omega (arith, ap tokens_in c.in-Fixed.is, c.requires.1)

pub returns-in-Varies : goal.returns-in-Varies
unfolding joint
returns-in-Varies c = search rules

pub returns-in-Fixed : goal.returns-in-Fixed
unfolding joint
returns-in-Fixed c =
    let a = c.args in
    ap (joint (Around a.before a.after a.k a.j)) (sym c.in-Fixed.is)

pub returns-in-Around : goal.returns-in-Around
unfolding joint
returns-in-Around c = let a = c.args in ap (joint (Around a.before a.after a.k a.j)) (sym c.in-Around.is)
