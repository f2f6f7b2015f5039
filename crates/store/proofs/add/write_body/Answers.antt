-- `write_body` copies the descriptor and its data. Rests on `Adding`.
use mathlib.Core.Path.{refl}
use Rattle.store.proofs.Adding.{body-copied}
use Rattle.store.proofs.add.write_body.Goals as goal

pub returns : goal.returns
returns c = body-copied c.args.s.now c.args.d.now c.args.x.now c.args.at _ refl c.requires _ c.copy.ensures _ refl _ c.copy-2.ensures
