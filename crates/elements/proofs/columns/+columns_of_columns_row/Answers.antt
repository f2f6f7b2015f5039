-- The answers to the goals of `+columns_of_columns_row`.
use mathlib.Core.Path.{◌≡◌, ap, ◌∙◌}
use mathlib.Core.Bool.{true, false}
use native.Mathlib.Omega.{arith}
use Rattle.descriptor.specs.Codes.{kind_of}
use Rattle.descriptor.specs.Header.{code_in}
use Rattle.descriptor.specs.Width.{width_of}
use Rattle.descriptor.specs.inner.Steps.{is_compound}
use Rattle.descriptor.proofs.Bodies.{header-room}
use Rattle.flattened.specs.inner.Order.{order_of}
use Rattle.flattened.proofs.Cases.{compound-inside, row_inside}
use Rattle.flattened.proofs.Types.{type-deep}
use Rattle.elements.proofs.Placing.{roomy-fewer}
use Rattle.elements.proofs.Keeping.{kept-members, kept-other, ahead-inside, definite-inside, next-turn, here-definite, next-least, row_next, row_kept}
use Rattle.elements.proofs.columns.+columns_of_columns_row.Goals as goal

pub columns_of-code_at-code-requires : goal.columns_of-code_at-code-requires
columns_of-code_at-code-requires t c = header-room c.args.d.now c.args.p c.requires.type_stands.here

pub columns_of-overflow_sub-left : goal.columns_of-overflow_sub-left
columns_of-overflow_sub-left t c = type-deep c.args.d.now c.args.p c.args.left c.requires.type_stands

pub columns_of-columns_row-requires : goal.columns_of-columns_row-requires
columns_of-columns_row-requires t c =
    let a = c.args in
    let type = c.requires.type_stands in
    let ahead = c.requires.ahead in
    let inside = c.inside_of-inside.ensures in
    let kind : is_compound (kind_of (code_in a.d.now a.p)) ≡ true = cc in (
      omega (arith, type-deep a.d.now a.p a.left type, c.decreases),
      (
        row_inside a.d.now a.p a.left type _ inside (compound-inside _ kind),
        (
          (ahead-inside a.d.now a.p type.here _ inside kind a.front ahead.0, definite-inside a.d.now a.p type.here _ inside kind a.front ahead.1),
          c.requires.roomy,
        ),
      ),
    )

pub columns_of-returns-then-is_compound : goal.columns_of-returns-then-is_compound
columns_of-returns-then-is_compound t c =
    let a = c.args in
    let kind : is_compound (kind_of (code_in a.d.now a.p)) ≡ true = cc in
    let row = c.columns_row.ensures in
    (row.0, λ i l. kept-members (order_of a.o) a.s.now _ a.d.now a.p c.requires.type_stands.here _ c.inside_of-inside.ensures kind (row.1 i l))

pub columns_of-returns : goal.columns_of-returns
columns_of-returns t c =
    let a = c.args in
    let wide = c.width-w.ensures ∙ ap width_of c.code_at-code.ensures in
    let simple : is_compound (kind_of (code_in a.d.now a.p)) ≡ false = cc in
    (omega arith, λ i l. kept-other (order_of a.o) a.s.now _ a.d.now a.p c.requires.type_stands.here (omega (arith, wide)) simple)

pub columns_row-columns_of-count-requires : goal.columns_row-columns_of-count-requires
columns_row-columns_of-count-requires t c =
    let a = c.args in
    let l = c.loop in (
      omega (arith, c.decreases),
      (
        (next-turn l.invariant c.loop-test.true).first,
        (
          (l.invariant.ahead, here-definite l.invariant c.loop-test.true),
          roomy-fewer a.s.now a.whole a.from.at l.count a.n l.invariant.fewer c.requires.roomy,
        ),
      ),
    )

pub columns_row-extent_of-requires : goal.columns_row-extent_of-requires
columns_row-extent_of-requires t c = (next-turn c.loop.invariant c.loop-test.true).first

pub columns_row-joint-front-requires : goal.columns_row-joint-front-requires
columns_row-joint-front-requires t c =
    let l = c.loop in
    let turn = next-turn l.invariant c.loop-test.true in
    let next = next-least l.invariant c.loop-test.true in
    rw c.extent_of.ensures
    (omega (arith, l.invariant.ahead.bytes, next.0, turn.within, turn.rest.small), omega (arith, l.invariant.ahead.tokens, next.1, turn.within, turn.rest.small))

pub columns_row-size_at-p-requires : goal.columns_row-size_at-p-requires
columns_row-size_at-p-requires t c = header-room c.args.d.now c.loop.p (next-turn c.loop.invariant c.loop-test.true).first.here

pub columns_row-loop-preserved : goal.columns_row-loop-preserved
columns_row-loop-preserved t c =
    rw (c.size_at-p.ensures.eq, c.joint-front.ensures, c.extent_of.ensures)
    (row_next c.loop.invariant c.loop-test.true c.columns_of-count.result c.columns_of-count.ensures.0 c.columns_of-count.ensures.1)

pub columns_row-returns : goal.columns_row-returns
columns_row-returns t c = row_kept c.loop.invariant c.loop-test.false
