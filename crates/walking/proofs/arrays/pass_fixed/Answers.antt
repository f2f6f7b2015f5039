-- `pass_fixed` meets its contract: by the law of extents.
use native.Mathlib.Omega.{arith}
use Rattle.walking.proofs.Passing.{pass-plain}
use Rattle.walking.proofs.arrays.pass_fixed.Goals as goal

pub returns : goal.returns
returns c o j t x kept =
    let a = c.args in
    rw c.many.ensures (pass-plain o t a.s.now a.w a.tokens j a.n a.n a.at x (omega arith) c.requires.fit kept)
