use mathlib.Core.Path.{refl, ◌∙◌}
use Prim.Native.Nat.{◌<◌}
use native.Mathlib.Omega.{arith}
use lib.ListN.{length-take}
use lib.Seq.{get_or-take}
use Rattle.descriptor.specs.Table.{zero_row}
use Rattle.layout.specs.Numbers.{rows_numbers}
use Rattle.layout.proofs.Rows.{laid_more}
use Rattle.layout.proofs.put_rows.Goals as goal

pub loop-i-init : goal.loop-i-init
unfolding rows_numbers
loop-i-init c = refl

pub loop-i-preserved : goal.loop-i-preserved
loop-i-preserved c =
    let a = c.args in
    let i = c.loop-i.i in
    let more = simp length-take at c.loop-i-test.true in
    let few : i < a.n = omega arith in
    let row = get_or-take a.n a.rows i zero_row few in
    rw row at c.put_row.ensures ∙ laid_more a.rows i (omega arith) (omega arith) c.loop-i.to c.loop-i.invariant
