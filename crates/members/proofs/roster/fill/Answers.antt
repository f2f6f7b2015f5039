-- The answers to the goals of `fill`.
use mathlib.Core.Path.{ap}
use Prim.Native.Nat.{ℕ, ◌+◌}
use native.Mathlib.Omega.{arith}
use Rattle.descriptor.proofs.Bodies.{header-room}
use Rattle.members.proofs.Listing.{list-begin, list-inner, list-again}
use Rattle.members.proofs.roster.fill.Goals as goal

pub loop-i-init : goal.loop-i-init
loop-i-init c = let a = c.args in list-begin a.d.now a.k a.start c.requires a.places.now a.names.now (omega arith) (omega arith)

pub size_at-size-requires : goal.size_at-size-requires
size_at-size-requires c =
    let a = c.args in
    let l = c.loop-i in
    header-room a.d.now l.p (list-inner a.d.now a.k a.start c.requires l.places l.names l.p l.i l.invariant c.loop-i-test.true).here

pub loop-i-preserved : goal.loop-i-preserved
loop-i-preserved c =
    let a = c.args in
    let l = c.loop-i in
    list-again a.d.now a.k a.start c.requires l.places l.names l.p l.i l.invariant c.loop-i-test.true _ c.name_place.ensures _ (ap (λ (x : ℕ). l.p + x) c.size_at-size.ensures.eq) (omega arith)
