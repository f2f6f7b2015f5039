-- The bytes of an accepted descriptor are its type's.
use Rattle.canonical.proofs.Unlike.{seek_begin}
use Rattle.canonical.proofs.compare.is_reserved.Goals as goal

pub loop-k-init : goal.loop-k-init
loop-k-init c = seek_begin c.args.a.bytes.now c.args.q c.args.a.accepted c.args.a.small c.requires
