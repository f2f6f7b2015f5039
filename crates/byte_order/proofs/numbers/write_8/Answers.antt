-- `write_8` meets its contract: the eight bytes of a number in two parts.
use mathlib.Core.Path.{ap, ◌∙◌}
use mathlib.Core.List.{List}
use Prim.Native.Nat.{ℕ, ◌+◌, ◌/◌}
use lib.Seq.{sets}
use Rattle.number.specs.Endian.{le_bytes}
use Rattle.byte_order.proofs.Reversing.{parts-written}
use Rattle.byte_order.proofs.numbers.write_8.Goals as goal

pub returns : goal.returns
returns c =
    let a = c.args in
    c.write_word-2.ensures
    ∙ ap (λ (x : List ℕ). sets x (a.at + 4) (le_bytes 4 (a.v / 4294967296))) c.write_word.ensures
    ∙ parts-written 4 4 a.v a.at a.out.now
