use mathlib.Core.Path.{sym}
use Rattle.flattened.specs.inner.Order.{order_of}
use Rattle.flattened.proofs.Judged.{byte-number}
use Rattle.flattened.proofs.order.U8Number.read.Goals as goal

pub returns : goal.returns
returns c = let a = c.args in sym (byte-number (order_of a._o) a.s.now a.at)
