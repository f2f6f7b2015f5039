-- `name_place` reads where what stands inside ends. Rests on `Single`.
use Rattle.members.proofs.Single.{single-row}
use Rattle.members.proofs.rows.name_place.Goals as goal

pub row_end-at-requires : goal.row_end-at-requires
row_end-at-requires c =
    let a = c.args in
    single-row a.d.now a.p c.requires.inner _ c.shape-inside.ensures
