-- `limit_of` meets its contract: an enumeration has items, any other code no rule.
use mathlib.Core.Path.{◌≡◌, sym, ap, ◌∙◌}
use Prim.Native.Nat.{ℕ}
use Rattle.descriptor.specs.Codes.{enumeration, kind_of}
use Rattle.descriptor.specs.inner.Steps.{is_enumeration}
use Rattle.descriptor.proofs.CodeKinds.{enumeration-is}
use Rattle.descriptor.proofs.Bodies.{header-room}
use Rattle.descriptor.proofs.Steps.{impossible}
use Rattle.flattened.proofs.Cases.{rule-items, rule-any}
use Rattle.flattened.proofs.extent.limit_of.Goals as goal

pub code_at-requires : goal.code_at-requires
code_at-requires c = let a = c.args in header-room a.d.now a.p c.requires

pub returns-then-not-is_enumeration : goal.returns-then-not-is_enumeration
returns-then-not-is_enumeration c =
    let start = c in
    let none = ap (λ (x : ℕ). is_enumeration (kind_of x)) (sym c.code_at.ensures) ∙ sym c.is_enumeration.ensures ∙ c.if-not-is_enumeration.true in
    rule-any start.args.d.now start.args.p start.requires (λ (e : enumeration ≡ kind_of _). impossible (sym none ∙ sym (ap is_enumeration e)))

pub returns : goal.returns
returns c =
    let start = c in
    let kind = enumeration-is _ (ap (λ (x : ℕ). is_enumeration (kind_of x)) (sym c.code_at.ensures) ∙ sym c.is_enumeration.ensures ∙ c.if-not-is_enumeration.false) in
    rule-items start.args.d.now start.args.p start.requires (sym kind) _ c.inside_of.ensures
