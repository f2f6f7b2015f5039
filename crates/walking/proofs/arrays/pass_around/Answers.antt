-- `pass_around` meets its contract: value by value, up to one that is cut.
use Rattle.flattened.specs.inner.Order.{order_of}
use Rattle.walking.proofs.Arounds.{around-begin, around-next}
use Rattle.walking.proofs.arrays.pass_around.Goals as goal

pub loop-count-init : goal.loop-count-init
loop-count-init c =
    let a = c.args in
    around-begin (order_of a.o) a.s.now a.before a.after a.tokens a.from.at c.requires.data_at.inside

pub loop-count-preserved : goal.loop-count-preserved
loop-count-preserved c = around-next c.loop-count.invariant c.requires.data_at.short c.requires.tokens c.in-Some.ensures
