-- `read_8` meets its contract: the number of eight bytes by its halves.
use native.Mathlib.Omega.{arith}
use Rattle.number.proofs.Reading.{be-split}
use Rattle.byte_order.proofs.numbers.read_8.Goals as goal

pub returns : goal.returns
returns c =
    let a = c.args in
    omega (arith, be-split a.s.now a.at 4 4, c.read_word-2.ensures, c.read_word.ensures)
