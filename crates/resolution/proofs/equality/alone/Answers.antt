-- A member's descriptor is accepted by itself.
use mathlib.Core.Path.{ap}
use native.Mathlib.Omega.{arith}
use Rattle.descriptor.specs.inner.Standing.{is_read}
use Rattle.resolution.proofs.Apart.{apart-accepted, small_part}
use Rattle.resolution.proofs.equality.alone.Goals as goal

pub invariant_of-result : goal.invariant_of-result
unfolding is_read
invariant_of-result c =
    let a = c.args in
    record {
      accepted = ap is_read (apart-accepted a.d.now a.p c.requires (λ n. omega (arith, c.type_inv.d n)) _ (omega (arith, c.size_at.ensures.eq)));
      small = small_part a.d.now (λ n. omega (arith, c.type_inv.d n)) a.p _;
    }
