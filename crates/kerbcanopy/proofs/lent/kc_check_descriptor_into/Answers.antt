-- `kc_check_descriptor_into` stores what `kc_check_descriptor` answers, and the rows in use: the rest of its table is zero.
use Rattle.std.proofs.Common.{◌∙◌}
use Rattle.layout.proofs.Table.{table-laid}
use Rattle.kerbcanopy.proofs.lent.kc_check_descriptor_into.Goals as goal

pub put_rows-requires : goal.put_rows-requires
put_rows-requires c =
    let checked = c.kc_check_descriptor-checked in
    let table = table-laid c.args.descriptor.now checked.result c.rows_used.result checked.ensures c.rows_used.ensures in
    (table.few, table.size)

pub returns-clause-table : goal.returns-clause-table
returns-clause-table c =
    let checked = c.kc_check_descriptor-checked in
    let table = table-laid c.args.descriptor.now checked.result c.rows_used.result checked.ensures c.rows_used.ensures in
    c.put_rows.ensures ∙ table.eq
