-- A descriptor is what `validate` reads.
use mathlib.Core.Path.{ap}
use native.Mathlib.Omega.{arith}
use Rattle.descriptor.specs.Tree.{row_count}
use Rattle.descriptor.specs.Check.{checked}
use Rattle.descriptor.specs.inner.Standing.{is_read}
use Rattle.descriptor.proofs.Steps.{got}
use Rattle.validation.proofs.accepted.DescriptorTryFromRefSliceU8.try_from.Goals as goal

pub invariant_of-result : goal.invariant_of-result
unfolding is_read
invariant_of-result c = record { accepted = ap is_read (got row_count (λ _. 0) (checked c.args.d.now) _ c.in_ok-validate.ensures).eq; small = λ k. omega (arith, c.type_inv.d k) }
