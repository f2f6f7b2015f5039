-- `write_record` writes the body, the entry and the count. Rests on `Adding`.
use Rattle.store.specs.inner.Blanks.{blank_of}
use Rattle.store.proofs.Adding.{record-written}
use Rattle.store.proofs.add.write_record.Goals as goal

pub returns : goal.returns
returns c =
    record-written c.args.s.now _ _ _ c.args.n _ (blank_of c.args.r) c.entry_place.ensures c.write_body.ensures c.write_entry.ensures c.write_be.ensures
