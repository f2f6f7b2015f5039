-- `store_check` opens the book. Rests on `Asked`.
use mathlib.Core.Path.{◌∙◌}
use Rattle.store.proofs.Asked.{asked-place, check-lost, check-got}
use Rattle.store.proofs.questions.store_check.Goals as goal

pub of-requires : goal.of-requires
of-requires c = asked-place c.args.s.now _ c.in-Err.ensures c.type_inv.s

pub returns-in-Ok : goal.returns-in-Ok
returns-in-Ok c = c.accepted.ensures ∙ check-got c.args.s.now _ c.in-Ok.ensures

pub returns-in-Err : goal.returns-in-Err
returns-in-Err c = c.of.ensures ∙ check-lost c.args.s.now _ c.in-Err.ensures
