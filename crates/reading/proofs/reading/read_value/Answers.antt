-- `read_value` meets its contract: the data that was accepted lies at the first byte, and the spot's value where it was reached.
use Rattle.access.proofs.Parts.{found_lies}
use Rattle.reading.proofs.Readings.{reading_lies}
use Rattle.reading.proofs.reading.read_value.Goals as goal

pub spot_at-requires : goal.spot_at-requires
spot_at-requires c =
    reading_lies c.args.d.now c.args.s.now c.args.path.now c.check_data-checked.result c.check_data-checked.ensures c.if-checked-ne0.false

pub value_at-requires : goal.value_at-requires
value_at-requires c = found_lies c.in-Ok.ensures
