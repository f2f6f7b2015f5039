-- `is_array` asks for the one code of that kind. Assumes nothing.
use mathlib.Core.Path.{sym}
use Rattle.descriptor.proofs.CodeKinds.{only-array}
use Rattle.descriptor.proofs.codes.is_array.Goals as goal

pub returns : goal.returns
returns c = sym (only-array c.args.code)
