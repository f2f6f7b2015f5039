-- `write_entry` writes one number after another. Rests on `Adding`.
use Rattle.number.specs.Endian.{be_bytes}
use Rattle.number.proofs.Writing.{length-be_bytes}
use Rattle.store.proofs.Adding.{entry-written}
use Rattle.store.proofs.add.write_entry.Goals as goal

pub returns : goal.returns
returns c =
    let e = c.args.e in
    entry-written c.args.s.now _ _ _ _ (be_bytes 4 e.identifier) (be_bytes 4 e.start) (be_bytes 4 e.first) (be_bytes 4 e.second) c.args.p
    (length-be_bytes 4 e.identifier) (length-be_bytes 4 e.start) (length-be_bytes 4 e.first) c.write_be.ensures c.write_be-2.ensures c.write_be-3.ensures
    c.write_be-4.ensures
