-- `width` meets its contract: within the table by the test over it, past the table by the rule's last case.
use mathlib.Core.Path.{sym}
use native.Mathlib.Omega.{arith}
use Rattle.descriptor.proofs.Widths.{entry-width, entry-small, none-past}
use Rattle.descriptor.proofs.width.width.Goals as goal

pub overflow_cast-result : goal.overflow_cast-result
overflow_cast-result c = omega (arith, entry-small c.args.code (omega arith))

pub returns-then-i-lt34 : goal.returns-then-i-lt34
returns-then-i-lt34 c = entry-width c.args.code (omega arith)

pub returns-else-i-lt34 : goal.returns-else-i-lt34
returns-else-i-lt34 c = sym (none-past c.args.code (omega arith))
