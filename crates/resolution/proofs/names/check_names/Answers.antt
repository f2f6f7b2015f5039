-- The answers to the goals of `check_names`.
use mathlib.Core.Path.{sym, ap, ◌∙◌}
use Rattle.std.specs.Prelude.{is_some}
use borrow.Author.Tests.{eqb-false}
use Rattle.members.proofs.Chaining.{chained-of}
use Rattle.resolution.proofs.Named.{name-marked, name-again}
use Rattle.resolution.proofs.names.check_names.Goals as goal

pub last_namesake-requires : goal.last_namesake-requires
last_namesake-requires c =
    let w = c.args.roster.now in
    let l = c.loop-j in
    let chained = chained-of c.of-chains.result w c.of-chains.ensures in
    rw c.of-chains.ensures
    (name-marked w.d.now w.count w.places.now w.names.now w.listed l.j l.invariant c.loop-j-test.true _ c.in-Some.ensures _ chained.linked)

pub loop-j-preserved : goal.loop-j-preserved
loop-j-preserved c =
    let w = c.args.roster.now in
    let l = c.loop-j in
    let chained = chained-of c.of-chains.result w c.of-chains.ensures in
    name-again w.d.now w.count w.places.now w.names.now w.listed l.j l.invariant c.loop-j-test.true _ c.in-Some.ensures _ chained.linked (eqb-false _ _ (sym c.is_empty.ensures ∙ c.if-is_empty.false)) _
    (c.is_some.ensures ∙ ap is_some (rw c.of-chains.ensures at c.last_namesake.ensures)) c.if-is_some.false
