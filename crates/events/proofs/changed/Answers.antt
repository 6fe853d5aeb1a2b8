-- `events::changed` meets its contract: each kind of event is one change of the roster, and a valid roster stays so.
use mathlib.Core.Path.{◌≡◌, sym, ap, ◌∙◌}
use Rattle.roster.specs.Roster.{valid}
use Rattle.events.specs.Events.{changed}
use Rattle.events.proofs.Outcomes.{changed-valid}
use Rattle.events.proofs.changed.Goals as goal
use Rattle.events.proofs.changed.Goals.{Joined-event, in-Add, in-Drop, in-Rate}

-- the roster is that of the definition
made : (c : Joined-event) → c.match-event.roster ≡ changed c.args.v.now.roster c.args.event
made c = elim c.match-event.branch [
  | in-Add w ↦ w.roster-is ∙ w.added-roster.ensures ∙ ap (changed _) (sym w.in-Add.is)
  | in-Drop w ↦ w.roster-is ∙ w.dropped-roster.ensures ∙ ap (changed _) (sym w.in-Drop.is)
  | in-Rate w ↦ w.roster-is ∙ w.rerated-roster.ensures ∙ ap (changed _) (sym w.in-Rate.is)
]

pub invariant_of-result : goal.invariant_of-result
invariant_of-result c = record { valid = ap valid (made c) ∙ changed-valid _ c.args.event c.args.v.now.valid }

pub returns : goal.returns
returns c = made (goal.at.returns c).Joined-event
