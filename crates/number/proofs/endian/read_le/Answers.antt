use mathlib.Core.Path.{◌≡◌, refl}
use Prim.Native.Nat.{◌+◌, ◌-◌, ◌<◌}
use native.Mathlib.Omega.{arith}
use Rattle.number.specs.Endian.{le}
use Rattle.number.proofs.Reading.{byte_more, byte_fits, le-turn}
use Rattle.number.proofs.endian.read_le.Goals as goal

pub loop-left-init : goal.loop-left-init
unfolding le
loop-left-init c =
    let none : c.args.n - c.args.n ≡ 0 = omega arith in
    rw none (record { eq = refl; below = omega arith })

pub overflow_mul-v : goal.overflow_mul-v
overflow_mul-v c =
    let l = c.loop-left in
    omega (arith, byte_fits (c.args.n - l.left) {b = 0} (omega arith) l.invariant.below (omega arith))

pub overflow_add-v : goal.overflow_add-v
overflow_add-v c =
    let l = c.loop-left in
    let b : c.from.result < 256 = omega (arith, c.type_inv.s (c.args.at + (l.left - 1))) in
    omega (arith, byte_fits (c.args.n - l.left) (omega arith) l.invariant.below b)

pub loop-left-preserved : goal.loop-left-preserved
loop-left-preserved c =
    let a = c.args in
    let l = c.loop-left in
    let b : c.from.result < 256 = omega (arith, c.type_inv.s (a.at + (l.left - 1))) in
    let width : a.n - (l.left - 1) ≡ a.n - l.left + 1 = omega arith in
    record {
      eq = omega (arith, le-turn a.s.now a.at a.n l.left (omega arith) (omega arith));
      below = rw width (byte_more (a.n - l.left) l.invariant.below b);
    }
