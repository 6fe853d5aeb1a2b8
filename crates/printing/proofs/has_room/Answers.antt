-- `printing::has_room` meets its contract: its tests are that of the definition.
use Rattle.printing.proofs.Texts.{room_tested, no_room}
use Rattle.printing.proofs.has_room.Goals as goal

pub returns-then-size-ge84 : goal.returns-then-size-ge84
returns-then-size-ge84 c = room_tested c.args.size c.args.at c.if-size-ge84.true

pub returns-else-size-ge84 : goal.returns-else-size-ge84
returns-else-size-ge84 c = no_room c.args.size c.args.at c.if-size-ge84.false
