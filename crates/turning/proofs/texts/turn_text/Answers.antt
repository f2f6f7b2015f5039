-- `turn_text` meets its contract: the length word reversed, the characters copied.
use mathlib.Core.Path.{ap, ◌∙◌}
use mathlib.Core.List.{List}
use Prim.Native.Nat.{ℕ, ◌+◌}
use native.Mathlib.Omega.{arith}
use Rattle.flattened.specs.inner.Order.{order_of}
use Rattle.byte_order.specs.inner.Turning.{turned_run}
use Rattle.turning.proofs.Pieces.{text-read, text-turned}
use Rattle.turning.proofs.texts.turn_text.Goals as goal

pub overflow_add-characters : goal.overflow_add-characters
overflow_add-characters c =
    let a = c.args in
    let text = text-read (order_of a.o) a.s.now a.at c.requires.reads in
    omega (arith, text.fits)

pub read-length-requires : goal.read-length-requires
read-length-requires c =
    let a = c.args in
    let text = text-read (order_of a.o) a.s.now a.at c.requires.reads in
    omega (arith, text.fits)

pub turn-requires : goal.turn-requires
turn-requires c =
    let a = c.args in
    let text = text-read (order_of a.o) a.s.now a.at c.requires.reads in
    record { inside = omega (arith, text.fits); room = c.requires.here.room }

pub turn_run_of-requires : goal.turn_run_of-requires
turn_run_of-requires c =
    let a = c.args in
    let text = text-read (order_of a.o) a.s.now a.at c.requires.reads in
    record { inside = omega (arith, text.fits, c.read-length.ensures); room = omega (arith, c.requires.here.room, c.turn.auto.out) }

pub overflow_add-result : goal.overflow_add-result
overflow_add-result c =
    let a = c.args in
    let text = text-read (order_of a.o) a.s.now a.at c.requires.reads in
    omega (arith, text.fits, c.read-length.ensures)

pub returns : goal.returns
returns c =
    let a = c.args in
    let text = text-read (order_of a.o) a.s.now a.at c.requires.reads in
    text-turned (order_of a.o) a.s.now a.at text a.out.now _ _ c.read-length.ensures
    (c.turn_run_of.ensures ∙ ap (λ (x : List ℕ). turned_run 1 a.s.now c.read-length.result (a.at + 4) x) c.turn.ensures)
