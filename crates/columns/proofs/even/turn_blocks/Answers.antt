-- The answers to the goals of `turn_blocks`.
use native.Mathlib.Omega.{arith}
use Rattle.flattened.specs.inner.Types.{type_at}
use Rattle.columns.proofs.Blocks.{blocks-here, blocks-next, blocks_end}
use Rattle.columns.proofs.EvenTypes.{even-total, even-some}
use Rattle.columns.proofs.even.turn_blocks.Goals as goal

pub nonzero_div-most : goal.nonzero_div-most
nonzero_div-most c =
    omega (arith, even-some c.requires.type_stands c.requires.even)

pub turn_columns-at-requires : goal.turn_columns-at-requires
turn_columns-at-requires c =
    let a = c.args in
    let l = c.loop-rest in
    record { type_stands = c.requires.type_stands; spread = blocks-here (even-total (type_at a.d.now a.p) a.step c.requires.even) l.invariant (omega (arith, c.loop-rest-test.true)) }

pub loop-rest-preserved : goal.loop-rest-preserved
loop-rest-preserved c =
    let a = c.args in
    let l = c.loop-rest in
    blocks-next (even-total (type_at a.d.now a.p) a.step c.requires.even) l.invariant c.loop-rest-test.true c.turn_columns-at.ensures.bytes

pub turn_columns-requires : goal.turn_columns-requires
turn_columns-requires c =
    let a = c.args in
    let l = c.loop-rest in
    record { type_stands = c.requires.type_stands; spread = blocks-here (even-total (type_at a.d.now a.p) a.step c.requires.even) l.invariant (omega arith) }

pub returns : goal.returns
returns c =
    let a = c.args in
    let l = c.loop-rest in
    blocks_end (even-total (type_at a.d.now a.p) a.step c.requires.even) l.invariant c.turn_columns.ensures.bytes
