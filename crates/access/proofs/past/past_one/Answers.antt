-- `past_one` meets its contract: an array ends where its elements do.
use mathlib.Core.Path.{sym, ◌∙◌}
use Rattle.descriptor.specs.Header.{code_in}
use Rattle.descriptor.proofs.Bodies.{header-room}
use Rattle.descriptor.proofs.CodeKinds.{kind_known}
use Rattle.access.proofs.Runs.{one_lies}
use Rattle.access.proofs.Stepping.{array_lies, array_one}
use Rattle.access.proofs.past.past_one.Goals as goal

pub code_at-requires : goal.code_at-requires
code_at-requires c = header-room c.args.d.now c.args.p c.requires.type.here

pub past_array-requires : goal.past_array-requires
past_array-requires c =
    let a = c.args in
    let kind = sym (kind_known (code_in a.d.now a.p) _ (rw c.code_at.ensures at c.in-Array.ensures)) in
    array_lies a.d.now a.p 0 0 a.s.now a.from.at (one_lies a.d.now a.p a.s.now a.from.at c.requires) _ c.inside_of-inside.ensures kind

pub returns-in-Array : goal.returns-in-Array
returns-in-Array c =
    let a = c.args in
    let kind = sym (kind_known (code_in a.d.now a.p) _ (rw c.code_at.ensures at c.in-Array.ensures)) in
    c.past_array.ensures ∙ sym (array_one a.d.now a.p 0 0 a.s.now a.from.at (one_lies a.d.now a.p a.s.now a.from.at c.requires) _ c.inside_of-inside.ensures kind)
