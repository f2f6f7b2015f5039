-- `Entries::seek` compares one identifier after the other. Rests on `Seeking`.
use mathlib.Core.Path.{◌∙◌}
use Rattle.store.proofs.Seeking.{unseen-none, unseen_more}
use Rattle.store.proofs.entry.Entries.seek.Goals as goal

pub loop-i-init : goal.loop-i-init
loop-i-init c = unseen-none c.args.self.bytes.now c.args.identifier

pub loop-i-preserved : goal.loop-i-preserved
loop-i-preserved c =
    unseen_more c.args.self.bytes.now c.args.identifier c.loop-i.i c.loop-i.invariant (λ same. c.if-identifier.false (c.identifier.ensures ∙ same))
