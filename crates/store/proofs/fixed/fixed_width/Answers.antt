-- `fixed_width` takes the extent of the top. Rests on `Steady`.
use Rattle.std.proofs.Common.{rules}
use Rattle.canonical.proofs.Whole.{accepted_of}
use Rattle.records.proofs.Topmost.{stands}
use Rattle.store.specs.inner.Steady.{steady_width}
use Rattle.store.proofs.fixed.fixed_width.Goals as goal

pub extent_of-requires : goal.extent_of-requires
extent_of-requires c = stands c.args.d.bytes.now (accepted_of _ c.args.d.accepted)

pub returns-in-Fixed-default-default-false : goal.returns-in-Fixed-default-default-false
unfolding steady_width
returns-in-Fixed-default-default-false c = search rules

pub returns-in_default : goal.returns-in_default
unfolding steady_width
returns-in_default c = search rules

pub returns-in_default-2 : goal.returns-in_default-2
unfolding steady_width
returns-in_default-2 c = search rules
