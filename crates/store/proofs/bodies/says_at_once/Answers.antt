-- `says_at_once` compares the data's length, and reads the identifier where it always stands. Rests on `Judging`.
use Rattle.store.proofs.Judging.{once-short, once-room, once-said}
use Rattle.store.proofs.bodies.says_at_once.Goals as goal

pub returns-then-r-span : goal.returns-then-r-span
returns-then-r-span c =
    let d = c.args.d in
    let r = c.args.r in
    once-short d.descriptor.bytes.now d.member d.span d.good r.flattened.now r.identifier c.args.span c.requires c.if-r-span.true

pub be32-requires : goal.be32-requires
be32-requires c =
    let d = c.args.d in
    let r = c.args.r in
    once-room d.descriptor.bytes.now d.member d.span d.good r.flattened.now r.identifier c.args.span c.requires c.if-r-span.false

pub returns : goal.returns
returns c =
    let d = c.args.d in
    let r = c.args.r in
    once-said d.descriptor.bytes.now d.member d.span d.good r.flattened.now r.identifier c.args.span c.requires c.if-r-span.false _ c.be32.ensures.eq
