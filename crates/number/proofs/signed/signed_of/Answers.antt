-- `signed_of` meets its contract, by the two cases of two's complement.
use mathlib.Core.Path.{sym, ◌∙◌}
use Prim.Native.Nat.{◌-◌, ◌^◌, ◌<◌, ◌≤◌}
use native.Mathlib.Omega.{arith}
use mir.Syntax.{w64}
use mir.Facts.{to_z_pos}
use mir.ValLaws.{to_z-of_z}
use Rattle.number.proofs.Reading.{most}
use Rattle.number.proofs.Complement.{stays, falls, negative, negative_fits}
use borrow.Author.Rules.{rules}
use Rattle.number.proofs.signed.signed_of.Goals as goal

pub overflow_cast-result : goal.overflow_cast-result
overflow_cast-result c =
    let fits : 256 ^ c.args.n ≤ 256 ^ 8 = most (omega arith) in
    search rules

pub returns-then-bits-half : goal.returns-then-bits-half
returns-then-bits-half c =
    let a = c.args in
    let half = c.half_range-half.result in
    let fits : a.bits < 2 ^ 63 = omega (arith, most {n = a.n} (omega arith)) in
    to_z_pos w64 fits ∙ sym (stays a.n a.bits half c.half_range-half.ensures c.if-bits-half.true)

pub overflow_cast-below : goal.overflow_cast-below
overflow_cast-below c =
    let fits : 256 ^ c.args.n ≤ 256 ^ 8 = most (omega arith) in
    search rules

pub returns-else-bits-half : goal.returns-else-bits-half
returns-else-bits-half c =
    let a = c.args in
    let half = c.half_range-half.result in
    let k = half - 1 - (a.bits - half) in
    let fits : k < 2 ^ 63 = omega (arith, most {n = a.n} (omega arith)) in
    to_z-of_z w64 _ (negative_fits k fits) ∙ negative k fits ∙ sym (falls a.n a.bits half c.half_range-half.ensures c.if-bits-half.false (omega arith))
