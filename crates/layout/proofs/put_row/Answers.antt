-- `put_row` makes seven stores in a row.
use native.Mathlib.Omega.{arith}
use Rattle.layout.proofs.Rows.{seven-stored}
use Rattle.layout.proofs.put_row.Goals as goal

pub returns : goal.returns
returns c =
    let row = c.args.row in
    seven-stored c.args.to.now c.args.at row.code row.start row.size row.depth row.count row.name_place row.name_length
    (omega arith)
