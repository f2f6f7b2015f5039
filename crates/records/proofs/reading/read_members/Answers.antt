-- `read_members` picks the members, judges the room, and copies. Rests on `Answering`.
use mathlib.Core.Path.{ap, ◌∙◌}
use native.Mathlib.Omega.{arith}
use Rattle.descriptor.specs.Output.{Written}
use Rattle.records.proofs.Topmost.{top-here}
use Rattle.records.proofs.Answering.{ready-members, ready-ascends, ready-lost, ready-long, ready-small, ready-copies, ready-written}
use Rattle.records.proofs.reading.read_members.Goals as goal

pub list-writer-requires-clause-stands : goal.list-writer-requires-clause-stands
list-writer-requires-clause-stands c = top-here c.args.w.now c.requires.writer

pub list-writer-requires-clause-members : goal.list-writer-requires-clause-members
list-writer-requires-clause-members c = let a = c.args in ready-members a.w.now a.s.now a.starts.now a.reader.now c.requires

pub pick_all-requires-clause-ascends : goal.pick_all-requires-clause-ascends
pick_all-requires-clause-ascends c = let a = c.args in rw c.list-writer.ensures.all (ready-ascends a.w.now a.s.now a.starts.now a.reader.now c.requires)

pub returns-in-Err : goal.returns-in-Err
returns-in-Err c =
    let a = c.args in
    let lost = rw (c.list-writer.ensures.of, c.list-writer.ensures.all) at c.in-Err.ensures in
    let q = ready-lost a.w.now a.s.now a.starts.now a.reader.now c.requires a.out.now _ lost in
    record { answer = c.of.ensures ∙ ap (λ (x : Written). x.answer) q; wrote = ap (λ (x : Written). x.out) q }

pub returns-then-out-total : goal.returns-then-out-total
returns-then-out-total c =
    let a = c.args in
    let plan = rw (c.list-writer.ensures.of, c.list-writer.ensures.all) at c.in-Ok.ensures in
    let q = ready-small a.w.now a.s.now a.starts.now a.reader.now c.requires a.out.now _ _ plan c.if-out-total.true in
    record { answer = c.refused.ensures ∙ ap (λ (x : Written). x.answer) q; wrote = ap (λ (x : Written). x.out) q }

pub copy_picked-requires-clause-copies : goal.copy_picked-requires-clause-copies
copy_picked-requires-clause-copies c =
    let a = c.args in
    let plan = rw (c.list-writer.ensures.of, c.list-writer.ensures.all) at c.in-Ok.ensures in
    ready-copies a.w.now a.s.now a.starts.now a.reader.now c.requires a.out.now _ _ plan

pub copy_picked-requires-clause-room : goal.copy_picked-requires-clause-room
copy_picked-requires-clause-room c =
    let a = c.args in
    let plan = rw (c.list-writer.ensures.of, c.list-writer.ensures.all) at c.in-Ok.ensures in
    omega (arith, ready-long a.w.now a.s.now a.starts.now a.reader.now c.requires a.out.now _ _ plan)

pub returns : goal.returns
returns c =
    let a = c.args in
    let plan = rw (c.list-writer.ensures.of, c.list-writer.ensures.all) at c.in-Ok.ensures in
    let q = ready-written a.w.now a.s.now a.starts.now a.reader.now c.requires a.out.now _ _ plan c.if-out-total.false _ c.copy_picked.ensures in
    record { answer = c.accepted.ensures ∙ ap (λ (x : Written). x.answer) q; wrote = ap (λ (x : Written). x.out) q }
