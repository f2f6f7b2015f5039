-- `read_accepted` judges the data, the reader's names and the rig's top. Rests on `Answering`.
use Rattle.canonical.proofs.Whole.{accepted_of}
use Rattle.records.proofs.Topmost.{top-here}
use Rattle.records.proofs.reading.read_accepted.Goals as goal

pub is_cluster-requires : goal.is_cluster-requires
is_cluster-requires c = top-here c.args.w.bytes.now (accepted_of _ c.args.w.accepted)
