-- `same_name` compares the characters. Rests on `Same`.
use mathlib.Core.Path.{sym, ◌∙◌}
use Rattle.members.proofs.Same.{name-compared}
use Rattle.members.proofs.names.same_name.Goals as goal

pub returns : goal.returns
returns c = c.eq.ensures ∙ sym (name-compared c.name_at.result _ c.args.name c.name_at.ensures)
