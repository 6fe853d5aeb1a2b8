-- `printing::put_said` meets its contract: past the test there is room.
use mathlib.Core.Path.{sym, ◌∙◌}
use Rattle.printing.proofs.Texts.{room_is}
use Rattle.printing.proofs.put_said.Goals as goal

pub put_said-requires : goal.put_said-requires
put_said-requires c = room_is _ _ (sym c.has_room.ensures ∙ c.if-not-has_room.false)
