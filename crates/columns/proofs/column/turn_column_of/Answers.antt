use native.Mathlib.Omega.{arith}
use Rattle.columns.proofs.ColumnTurns.{column-none, column-next}
use Rattle.columns.proofs.column.turn_column_of.Goals as goal

pub loop-i-init : goal.loop-i-init
loop-i-init g c = let a = c.args in record { place = omega arith; same = column-none g.N.Turn.WIDTH a.s.now a.step a.at a.out.now }

pub loop-i-preserved : goal.loop-i-preserved
loop-i-preserved g c =
    let a = c.args in
    record {
      place = omega arith;
      same = cc (column-next g.N.Turn.WIDTH a.s.now a.step c.loop-i._i a.at a.out.now, c.turn.ensures);
    }
