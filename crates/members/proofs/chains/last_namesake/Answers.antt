-- The answers to the goals of `last_namesake`.
use mathlib.Core.Path.{sym, ◌∙◌}
use Rattle.members.proofs.Chaining.{follow-found, follow-none}
use Rattle.members.proofs.chains.last_namesake.Goals as goal

pub returns-then-same_name : goal.returns-then-same_name
returns-then-same_name c =
    let a = c.args in
    let l = c.loop-i in
    follow-found a.d.now a.names.now a.k a.from a.name.now l.entry l.invariant c.in-Some.i (sym c.in-Some.ensures) (rw c.from.ensures at (sym c.same_name.ensures ∙ c.if-same_name.true))

pub returns : goal.returns
returns c =
    let a = c.args in
    let l = c.loop-i in
    follow-none a.d.now a.names.now a.k a.from a.name.now l.entry l.invariant (sym c.member.ensures ∙ c.in_default.is)
