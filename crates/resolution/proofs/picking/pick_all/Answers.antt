-- The answers to the goals of `pick_all`.
use native.Mathlib.Omega.{arith}
use Rattle.members.proofs.Chaining.{fresh-chains}
use Rattle.members.proofs.Same.{name-some}
use Rattle.resolution.proofs.Planned.{plan-begin, plan-called, plan-lost, plan-again, plan-done}
use Rattle.std.proofs.lemmas.Result.{err_from_is_err_and}
use Rattle.resolution.proofs.picking.pick_all.Goals as goal

pub of-chains-requires : goal.of-chains-requires
of-chains-requires c = fresh-chains

pub loop-j-init : goal.loop-j-init
loop-j-init c =
    let w = c.args.w.now in
    let r = c.args.r.now in
    plan-begin w.d.now w.count r.d.now r.count r.places.now r.names.now c.args.starts.now r.listed c.requires.ascends c.args.picks.now (omega arith)

pub unwrap-name-requires : goal.unwrap-name-requires
unwrap-name-requires c = name-some c.name.result c.args.r.now.d.now _ (c.requires.naming.some c.loop-j.j c.loop-j-test.true) c.name.ensures

pub pick-requires : goal.pick-requires
pick-requires c =
    let w = c.args.w.now in
    let r = c.args.r.now in
    let l = c.loop-j in
    plan-called w.d.now w.count r.d.now r.count r.places.now r.names.now c.args.starts.now r.listed c.requires.ascends l.picks l.total l.j l.invariant c.loop-j-test.true _ c.from-q.ensures _ (rw c.unwrap-name.ensures at c.name.ensures)

pub returns-in_err-i : goal.returns-in_err-i
returns-in_err-i c =
    let w = c.args.w.now in
    let r = c.args.r.now in
    let l = c.loop-j in
    let p = err_from_is_err_and c.from_residual.result c.from_residual.ensures.1 in
    rw (p.1, p.2) (plan-lost w.d.now w.count r.d.now r.count r.places.now r.names.now c.args.starts.now r.listed c.requires.ascends l.picks l.total l.j l.invariant c.loop-j-test.true _ c.from-q.ensures _ (rw c.of-chains.ensures at c.in_err-i.ensures))

pub loop-j-preserved : goal.loop-j-preserved
loop-j-preserved c =
    let w = c.args.w.now in
    let r = c.args.r.now in
    let l = c.loop-j in
    plan-again w.d.now w.count r.d.now r.count r.places.now r.names.now c.args.starts.now r.listed c.requires.ascends l.picks l.total l.j l.invariant c.loop-j-test.true _ c.from-q.ensures _ (rw c.of-chains.ensures at c.in_ok-i.ensures) (omega arith)

pub returns : goal.returns
returns c =
    let w = c.args.w.now in
    let r = c.args.r.now in
    let l = c.loop-j in
    plan-done w.d.now w.count r.d.now r.count r.places.now r.names.now c.args.starts.now r.listed c.requires.ascends l.picks l.total l.j l.invariant (omega arith)
