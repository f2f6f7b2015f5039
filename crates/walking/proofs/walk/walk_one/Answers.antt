-- `walk_one` meets its contract: a compound is the row of what stands inside it, any other type a row of one.
use mathlib.Core.Path.{◌≡◌, sym, ap, ◌∙◌}
use mathlib.Core.Bool.{true}
use Rattle.descriptor.specs.Codes.{kind_of}
use Rattle.descriptor.specs.Header.{code_in}
use Rattle.descriptor.specs.inner.Steps.{is_compound}
use Rattle.descriptor.proofs.Bodies.{header-room}
use Rattle.flattened.specs.inner.Order.{order_of}
use Rattle.flattened.specs.inner.Progress.{progress}
use Rattle.flattened.proofs.Cases.{compound-inside, row_inside}
use Rattle.flattened.proofs.KindWalks.{value-compound, value-alone}
use Rattle.flattened.proofs.Types.{type-deep, alone}
use Rattle.walking.proofs.walk.walk_one.Goals as goal

pub code_at-requires : goal.code_at-requires
code_at-requires c = header-room c.args.d.now c.args.p c.requires.type_stands.here

pub overflow_sub-left : goal.overflow_sub-left
overflow_sub-left c = type-deep c.args.d.now c.args.p c.args.left c.requires.type_stands

pub row-requires-clause-row_stands : goal.row-requires-clause-row_stands
row-requires-clause-row_stands c =
    let a = c.args in
    let kind : is_compound (kind_of (code_in a.d.now a.p)) ≡ true = cc in
    row_inside a.d.now a.p a.left c.requires.type_stands _ c.inside_of-inside.ensures (compound-inside _ kind)

pub returns-then-is_compound : goal.returns-then-is_compound
returns-then-is_compound c =
    let a = c.args in
    let kind : is_compound (kind_of (code_in a.d.now a.p)) ≡ true = cc in
    c.row.ensures
    ∙ sym (ap progress (value-compound a.d.now a.p c.requires.type_stands.here (order_of a.o) a.s.now a.from.at _ c.inside_of-inside.ensures kind))

pub row-requires-2-clause-row_stands : goal.row-requires-2-clause-row_stands
row-requires-2-clause-row_stands c = (alone c.args.d.now c.args.p c.args.left c.requires.type_stands).0

pub returns : goal.returns
returns c =
    let a = c.args in
    c.row-2.ensures ∙ ap progress (value-alone a.d.now a.p a.left c.requires.type_stands (order_of a.o) a.s.now a.from.at)
