-- `name_at` lends the characters behind the length. Rests on `Single`.
use mathlib.Core.Path.{sym, ap, ◌∙◌}
use Prim.Native.Nat.{ℕ, ◌+◌}
use native.Mathlib.Omega.{arith}
use lib.Seq.{slice}
use Rattle.descriptor.specs.Tree.{named}
use Rattle.canonical.proofs.Lists.{part_slice}
use Rattle.members.specs.inner.Names.{named_at, chars_at}
use Rattle.members.proofs.Single.{named-at}
use Rattle.members.proofs.names.name_at.Goals as goal

pub returns-then-x-eq0 : goal.returns-then-x-eq0
unfolding named_at
returns-then-x-eq0 c = ap (named_at c.args.d.now) c.if-x-eq0.true

pub returns : goal.returns
unfolding chars_at
returns c =
    let a = c.args in
    named-at a.d.now a.x (omega arith)
    ∙ ap named (ap (λ (n : ℕ). slice a.x (a.x + n) a.d.now) (sym c.from.ensures) ∙ sym (part_slice a.x (a.x + c.from.result) a.d.now))
