-- `check_unused` asks for all of the bytes, and then entry by entry. Rests on `Clearing`.
use mathlib.Core.Path.{sym, ◌∙◌}
use Rattle.store.proofs.Clearing.{unused-all, unused-over, unused-next, unused-bad}
use Rattle.store.proofs.unused.check_unused.Goals as goal

pub returns-then-is_zero : goal.returns-then-is_zero
returns-then-is_zero c =
    let e = c.args.entries in
    unused-all e.bytes.now c.args.n e.count e.inside c.requires _ c.entry_place.ensures (sym c.is_zero.ensures ∙ c.if-is_zero.true)

pub returns-then-not-is_zero : goal.returns-then-not-is_zero
returns-then-not-is_zero c =
    let e = c.args.entries in
    rw c.at.ensures
    (unused-bad e.bytes.now c.args.n e.count e.inside c.loop-i.i c.loop-i.invariant c.loop-i-test.true _ c.entry_place-in-loop-i.ensures
    (sym c.is_zero-in-loop-i.ensures ∙ c.if-not-is_zero.true))

pub loop-i-preserved : goal.loop-i-preserved
loop-i-preserved c =
    let e = c.args.entries in
    unused-next e.bytes.now c.args.n e.count e.inside c.loop-i.i c.loop-i.invariant c.loop-i-test.true _ c.entry_place-in-loop-i.ensures
    (sym c.is_zero-in-loop-i.ensures ∙ c.if-not-is_zero.false)

pub returns : goal.returns
returns c =
    let e = c.args.entries in
    unused-over e.bytes.now c.args.n e.count e.inside c.loop-i.i c.loop-i.invariant c.loop-i-test.false
