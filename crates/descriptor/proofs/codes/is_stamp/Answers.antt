-- `is_stamp` asks for the one code of that kind. Assumes nothing.
use mathlib.Core.Path.{sym}
use Rattle.descriptor.proofs.CodeKinds.{only-stamp}
use Rattle.descriptor.proofs.codes.is_stamp.Goals as goal

pub returns : goal.returns
returns c = sym (only-stamp c.args.code)
