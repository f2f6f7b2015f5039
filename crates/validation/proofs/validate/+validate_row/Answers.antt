-- What `validate_row` needs of the children of a time stamp. Rests on `Members`.
use native.Mathlib.Omega.{arith}
use Rattle.std.specs.Prelude.{Ok}
use Rattle.std.proofs.Common.{◌≡◌, ◌+◌, ◌-◌}
use Rattle.descriptor.specs.Codes.{kind_of, is_array}
use Rattle.descriptor.specs.inner.Promises.{row_step}
use Rattle.validation.proofs.Members.{row_none, children_in}
use Rattle.validation.proofs.validate.+validate_row.Goals as goal

pub rest-requires-clause-lies : goal.rest-requires-clause-lies
rest-requires-clause-lies t c =
    let h = c.in_ok-h.h in
    let b = c.in_ok-b.b in
    let inner : Ok c.if-b-gt0.inner ≡ row_step c.args.d.now (c.args.levels - 1) (is_array (kind_of h.code)) (c.loop.p + h.size) b.children b.next (c.loop.rows + 1) = grind (arith, row_none) in
    (children_in _ _ _ _ _ _ h c.in_ok-h.ensures.eq b c.in_ok-b.ensures c.requires.within.inside c.requires.levels_le_depth_limit c.if-b-gt0.inner inner).lie
