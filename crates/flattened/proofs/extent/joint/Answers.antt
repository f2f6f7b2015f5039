-- `joint` meets its contract: by the first extent.
use mathlib.Core.Path.{sym, ap, ◌∙◌}
use native.Mathlib.Omega.{arith}
use Rattle.flattened.specs.inner.Extent.{joint, least, tokens_in}
use Rattle.flattened.specs.declared.extent.Extent.{Extent}
use borrow.Author.Rules.{rules}
use Rattle.flattened.proofs.extent.joint.Goals as goal

pub fixed_joint-requires : goal.fixed_joint-requires
unfolding least tokens_in
fixed_joint-requires c =
    let pre = c.requires in
    (omega (arith, ap least c.in-Fixed.is, pre.0), omega (arith, ap tokens_in c.in-Fixed.is, pre.1))

pub around_joint-requires : goal.around_joint-requires
unfolding least tokens_in
around_joint-requires c =
    let pre = c.requires in
    (omega (arith, ap least c.in-Around.is, pre.0), omega (arith, ap tokens_in c.in-Around.is, pre.1))

pub returns-in-Varies : goal.returns-in-Varies
unfolding joint
returns-in-Varies c = search rules

pub returns-in-Fixed : goal.returns-in-Fixed
returns-in-Fixed c =
    let a = c.args in
    c.fixed_joint.ensures ∙ ap (λ (x : Extent). joint x a.next) (sym c.in-Fixed.is)

pub returns-in-Around : goal.returns-in-Around
returns-in-Around c =
    let a = c.args in
    c.around_joint.ensures ∙ ap (λ (x : Extent). joint x a.next) (sym c.in-Around.is)
