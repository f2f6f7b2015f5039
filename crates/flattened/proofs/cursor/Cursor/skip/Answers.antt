-- `Cursor::skip` meets its contract: the bytes are there, or they are not.
use mathlib.Core.Path.{ap, ◌∙◌}
use native.Mathlib.Omega.{arith}
use Rattle.std.specs.Prelude.{Some}
use Rattle.flattened.proofs.Steps.{skip-fits, skip-short}
use Rattle.flattened.proofs.cursor.Cursor.skip.Goals as goal

pub returns-then-s-self : goal.returns-then-s-self
returns-then-s-self c = let a = c.args in skip-short a.s.now a.self.at a.n (omega arith)

pub returns : goal.returns
returns c = let a = c.args in ap Some c.past.ensures ∙ skip-fits a.s.now a.self.at a.n (omega (arith, c.if-s-self.false))
