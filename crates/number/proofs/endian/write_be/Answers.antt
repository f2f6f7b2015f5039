use mathlib.Core.Path.{◌≡◌, ◌∙◌}
use native.Mathlib.Omega.{arith}
use Rattle.number.specs.Endian.{be_bytes}
use Rattle.number.proofs.Writing.{be-store}
use Rattle.number.proofs.endian.write_be.Goals as goal

pub loop-left-preserved : goal.loop-left-preserved
loop-left-preserved c = let l = c.loop-left in be-store l.out c.args.at l.left l.rest (omega arith) ∙ l.invariant

pub returns : goal.returns
unfolding be_bytes
returns c =
    let none : c.loop-left.left ≡ 0 = omega arith in
    rw none at c.loop-left.invariant
