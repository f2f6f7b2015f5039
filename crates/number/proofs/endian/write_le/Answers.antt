use mathlib.Core.Path.{◌≡◌, ◌∙◌}
use Prim.Native.Nat.{◌-◌}
use native.Mathlib.Omega.{arith}
use Rattle.number.specs.Endian.{le_bytes}
use Rattle.number.proofs.Writing.{le-store}
use Rattle.number.proofs.endian.write_le.Goals as goal

pub loop-i-preserved : goal.loop-i-preserved
loop-i-preserved c = let l = c.loop-i in le-store l.out c.args.at c.args.n l.i l.rest (omega arith) ∙ l.invariant

pub returns : goal.returns
unfolding le_bytes
returns c =
    let none : c.args.n - c.loop-i.i ≡ 0 = omega arith in
    rw none at c.loop-i.invariant
