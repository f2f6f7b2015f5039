-- `is_enumeration` asks for the three codes of that kind. Assumes nothing.
use mathlib.Core.Path.{refl, sym, ◌∙◌}
use borrow.Author.Tests.{lt-leb, le-leb}
use native.Mathlib.Omega.{arith}
use Rattle.descriptor.proofs.CodeKinds.{only-enumeration}
use Rattle.descriptor.proofs.codes.is_enumeration.Goals as goal

pub returns-then-code-lt-FIRST_ENUMERATION : goal.returns-then-code-lt-FIRST_ENUMERATION
returns-then-code-lt-FIRST_ENUMERATION c = let code = c.args.code in sym (only-enumeration code ∙ rw (lt-leb 0x15 code c.if-code-lt-FIRST_ENUMERATION.true) refl)

pub returns : goal.returns
returns c = let code = c.args.code in sym (only-enumeration code ∙ rw (le-leb 0x15 code (omega (arith, c.if-code-lt-FIRST_ENUMERATION.false))) refl)
