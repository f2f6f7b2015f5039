-- `locate` meets its contract: a refusal, a step that leads nowhere, or the part.
use Rattle.access.proofs.Parts.{found_lies, lying_value, part_lies}
use Rattle.access.proofs.part.locate.Goals as goal

pub spot_at-requires : goal.spot_at-requires
spot_at-requires c = part_lies c.args.d.now c.args.s.now c.args.path.now c.check_data-checked.result c.check_data-checked.ensures c.if-checked-ne0.false

pub past_one-end-requires : goal.past_one-end-requires
past_one-end-requires c = lying_value c.args.d.now _ c.args.s.now _ (found_lies c.in-Ok.ensures)
