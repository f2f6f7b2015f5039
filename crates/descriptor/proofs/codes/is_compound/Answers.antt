-- `is_compound` asks for the two codes of such kinds. Assumes nothing.
use mathlib.Core.Path.{sym, ap}
use Prim.Native.Nat.{ℕ}
use Rattle.descriptor.specs.Codes.{kind_of}
use Rattle.descriptor.specs.inner.Steps.{is_compound}
use Rattle.descriptor.proofs.CodeKinds.{only-compound}
use Rattle.descriptor.proofs.codes.is_compound.Goals as goal

pub returns-then-code-eq-CLUSTER : goal.returns-then-code-eq-CLUSTER
unfolding kind_of
returns-then-code-eq-CLUSTER c = sym (ap (λ (k : ℕ). is_compound (kind_of k)) c.if-code-eq-CLUSTER.true)

pub returns : goal.returns
returns c = sym (only-compound c.args.code c.if-code-eq-CLUSTER.false)
