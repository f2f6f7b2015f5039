-- `step` meets its contract: into an array, into a compound, or nowhere.
use mathlib.Core.Path.{◌≡◌, sym, ap, ◌∙◌}
use mathlib.Core.Bool.{true, false}
use Rattle.descriptor.specs.Codes.{kind_of}
use Rattle.descriptor.specs.Header.{code_in}
use Rattle.descriptor.specs.inner.Steps.{kind_is, is_compound}
use Rattle.descriptor.proofs.Bodies.{header-room}
use Rattle.descriptor.proofs.CodeKinds.{kind_known}
use Rattle.access.proofs.Stepping.{shallow, step_none, compound_lies, compound_reached, array_lies, array_reached}
use Rattle.access.proofs.steps.step.Goals as goal

pub code_at-code-requires : goal.code_at-code-requires
code_at-code-requires c = header-room c.args.d.now c.args.x.place c.requires.lies.type.here

pub element-requires : goal.element-requires
element-requires c =
    let a = c.args in
    let lies = c.requires.lies in
    let kind = sym (kind_known (code_in a.d.now a.x.place) _ (rw c.code_at-code.ensures at c.in-Array.ensures)) in
    record {
      array_lies = array_lies a.d.now a.x.place a.i a.k a.s.now a.x.start.at lies _ c.inside_of-inside.ensures kind;
      small = (c.requires.small, shallow lies.type);
    }

pub returns-in-Array : goal.returns-in-Array
returns-in-Array c =
    let a = c.args in
    let kind = sym (kind_known (code_in a.d.now a.x.place) _ (rw c.code_at-code.ensures at c.in-Array.ensures)) in
    array_reached a.d.now a.x.place a.i a.k a.s.now a.x.start.at c.requires.lies _ c.inside_of-inside.ensures kind _ c.element.ensures

pub member-requires : goal.member-requires
member-requires c =
    let a = c.args in
    let lies = c.requires.lies in
    let kind : is_compound (kind_of (code_in a.d.now a.x.place)) ≡ true = cc in
    record {
      row_lies = compound_lies a.d.now a.x.place a.i a.k a.s.now a.x.start.at lies _ c.inside_of-inside-then-is_compound.ensures kind;
      deep = shallow lies.type;
    }

pub returns-then-is_compound : goal.returns-then-is_compound
returns-then-is_compound c =
    let a = c.args in
    let kind : is_compound (kind_of (code_in a.d.now a.x.place)) ≡ true = cc in
    compound_reached a.d.now a.x.place a.i a.k a.s.now a.x.start.at c.requires.lies _ c.inside_of-inside-then-is_compound.ensures kind _ c.member.ensures

pub returns : goal.returns
unfolding kind_is
returns c =
    let a = c.args in
    let is : c.kind_of.result ≡ kind_is (kind_of (code_in a.d.now a.x.place)) = cc in
    let simple : is_compound (kind_of (code_in a.d.now a.x.place)) ≡ false = cc in
    step_none a.d.now a.x.place a.i a.k a.s.now a.x.start.at c.requires.lies (λ e. c.in_default.not-Array (is ∙ ap kind_is (sym e))) simple
