use mathlib.Core.Path.{refl, ◌∙◌}
use Prim.Native.Nat.{◌+◌, ◌<◌}
use native.Mathlib.Omega.{arith}
use lib.ListN.{length-take}
use Rattle.number.specs.Endian.{be}
use Rattle.number.proofs.Reading.{byte_more, byte_fits, part-byte, be-more}
use Rattle.number.proofs.endian.read_be.Goals as goal

pub loop-byte-init : goal.loop-byte-init
unfolding be
loop-byte-init c = record { eq = refl; below = omega arith }

pub overflow_mul-v : goal.overflow_mul-v
overflow_mul-v c =
    let more = simp length-take at c.loop-byte-test.true in
    omega (arith, byte_fits c.loop-byte.byte-index {b = 0} (omega arith) c.loop-byte.invariant.below (omega arith))

pub overflow_add-v : goal.overflow_add-v
overflow_add-v c =
    let a = c.args in
    let i = c.loop-byte.byte-index in
    let more = simp length-take at c.loop-byte-test.true in
    let read = c.from.ensures ∙ part-byte a.s.now a.at a.n i c.loop-byte-test.true in
    let b : c.from.result < 256 = omega (arith, c.type_inv.s (a.at + i)) in
    omega (arith, byte_fits i (omega arith) c.loop-byte.invariant.below b)

pub loop-byte-preserved : goal.loop-byte-preserved
loop-byte-preserved c =
    let a = c.args in
    let i = c.loop-byte.byte-index in
    let read = c.from.ensures ∙ part-byte a.s.now a.at a.n i c.loop-byte-test.true in
    let b : c.from.result < 256 = omega (arith, c.type_inv.s (a.at + i)) in
    record { eq = rw be-more (omega arith); below = byte_more i c.loop-byte.invariant.below b }
