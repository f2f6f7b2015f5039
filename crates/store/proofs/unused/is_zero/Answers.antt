-- `is_zero` asks for the largest of the bytes. Rests on `Zeros`.
use native.Mathlib.Omega.{arith}
use Rattle.canonical.proofs.Lists.{bytes_of}
use Rattle.flattened.specs.inner.Order.{order_of}
use Rattle.store.proofs.Zeros.{zeros-so}
use Rattle.store.proofs.unused.is_zero.Goals as goal

pub returns : goal.returns
unfolding order_of
returns c =
    let s = c.args.s.now in
    zeros-so s (bytes_of s (λ n. omega (arith, c.type_inv.s n))) c.args.from c.args.size c.requires _ c.largest.ensures
