-- `member_row` reads what stands inside and the name after it. Rests on `Single`.
use Rattle.members.proofs.Single.{single-row}
use Rattle.members.proofs.rows.member_row.Goals as goal

pub row_end-at-requires : goal.row_end-at-requires
row_end-at-requires c =
    let a = c.args in
    single-row a.d.now a.p c.requires _ c.shape-inside.ensures
