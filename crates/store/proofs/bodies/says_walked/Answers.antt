-- `says_walked` judges data and reads the identifier in it. Rests on `Judging`.
use mathlib.Core.Path.{refl, sym}
use native.Mathlib.Omega.{arith}
use Rattle.store.proofs.Judging.{good-few, walked-lost, walked-room, walked-said}
use Rattle.store.proofs.bodies.says_walked.Goals as goal

pub returns-then-is_err : goal.returns-then-is_err
returns-then-is_err c =
    let d = c.args.d in
    let r = c.args.r in
    walked-lost d.descriptor.bytes.now d.member d.span d.good r.flattened.now r.identifier _ c.walk_top.ensures.whole (sym c.if-is_err.ensures.value)

pub offset_bounds-starts-d : goal.offset_bounds-starts-d
offset_bounds-starts-d c = let d = c.args.d in omega (arith, good-few d.descriptor.bytes.now d.member d.span d.good)

pub bounds-starts-d : goal.bounds-starts-d
bounds-starts-d c = let d = c.args.d in omega (arith, good-few d.descriptor.bytes.now d.member d.span d.good)

pub be32-requires : goal.be32-requires
be32-requires c =
    let d = c.args.d in
    let r = c.args.r in
    walked-room d.descriptor.bytes.now d.member d.span d.good r.flattened.now r.identifier _ c.walk_top.ensures.whole (sym c.if-is_err.ensures.value) _
    c.walk_top.ensures.starts _ refl

pub returns : goal.returns
returns c =
    let d = c.args.d in
    let r = c.args.r in
    walked-said d.descriptor.bytes.now d.member d.span d.good r.flattened.now r.identifier _ c.walk_top.ensures.whole (sym c.if-is_err.ensures.value) _
    c.walk_top.ensures.starts _ refl _ c.be32.ensures.eq
