-- `identify` judges the record and reads the member that carries the identifier. Rests on `Identified`.
use mathlib.Core.Path.{◌≡◌, refl}
use native.Mathlib.Omega.{arith}
use Rattle.canonical.proofs.Judged.{refused_low}
use Rattle.canonical.proofs.Whole.{accepted_of}
use Rattle.store.proofs.Identified.{descriptor-denied, walk-denied, starts-few}
use Rattle.store.proofs.identity.identify.Goals as goal

pub of-requires : goal.of-requires
of-requires c = omega (arith, refused_low c.args.d.now _ c.in-Err.ensures)

pub returns-in-Err : goal.returns-in-Err
returns-in-Err c = rw (c.of.ensures, descriptor-denied c.args.d.now c.args.x.now _ _ c.in-Err.ensures) refl

pub returns-in-Err-walk_top : goal.returns-in-Err-walk_top
returns-in-Err-walk_top c =
    let d = c.in-Ok.descriptor in
    let same : d.bytes.now ≡ c.args.d.now = c.in-Ok.ensures in
    rw (c.of-in-Err-walk_top.ensures, ← same, walk-denied d.bytes.now c.args.x.now (accepted_of _ d.accepted) _ c.in-Err-walk_top.ensures.whole) refl

pub offset_bounds-starts-member : goal.offset_bounds-starts-member
offset_bounds-starts-member c =
    let d = c.in-Ok.descriptor in
    omega (arith, starts-few d.bytes.now (accepted_of _ d.accepted) _ c.in_ok-member.ensures)

pub bounds-starts-member : goal.bounds-starts-member
bounds-starts-member c =
    let d = c.in-Ok.descriptor in
    omega (arith, starts-few d.bytes.now (accepted_of _ d.accepted) _ c.in_ok-member.ensures)
