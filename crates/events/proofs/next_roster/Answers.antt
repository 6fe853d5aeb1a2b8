-- `events::next_roster` meets its contract: the check, which also tells that the roster breaks no rule, then the event's rows, each deciding its group of rows.
use mathlib.Core.Path.{◌≡◌, sym, ap, ◌∙◌}
use Rattle.base.proofs.Refusals.{number_not_zero}
use Rattle.std.proofs.lemmas.Result.{err_from_is_err_and}
use Rattle.table.proofs.Replies.{check_zero}
use Rattle.base.specs.Rows.{lowest}
use Rattle.events.specs.Events.{answer_of, event_rows}
use Rattle.events.proofs.Outcomes.{named-fits, stopped_by_check, event_decides}
use Rattle.events.proofs.next_roster.Goals as goal
use Rattle.events.proofs.next_roster.Goals.{In_ok-check}

pub returns-in_err-check-clause-answer : goal.returns-in_err-check-clause-answer
returns-in_err-check-clause-answer c =
    let p = err_from_is_err_and c.from_residual.result c.from_residual.ensures.1 in
    rw (p.1, p.2) (sym (stopped_by_check _ _ _ _ _ (ap (λ x. x.answer) c.in_err-check.ensures.reply) (number_not_zero _)))

pub invariant_of-v : goal.invariant_of-v
invariant_of-v c = record { valid = (check_zero _ _ _ (sym (ap (λ x. x.answer) c.in_ok-check.ensures.reply))).0.valid_roster }

-- past the check the table belongs to the roster, and the event's rows decide
decides : (c : In_ok-check) →
    let args = c.args in
    answer_of args.r args.slots args.event args.table.now ≡ lowest (event_rows args.r args.event)
decides c = event_decides _ _ c.args.event _ (sym (ap (λ x. x.answer) c.in_ok-check.ensures.reply))

pub returns-in_err-check_event-clause-answer : goal.returns-in_err-check_event-clause-answer
returns-in_err-check_event-clause-answer c =
    let p = err_from_is_err_and c.from_residual-in_err-check_event.result c.from_residual-in_err-check_event.ensures.1 in
    rw (p.1, p.2) (c.in_err-check_event.ensures ∙ sym (decides (goal.at.returns-in_err-check_event-clause-answer c).In_ok-check))

pub changed-requires : goal.changed-requires
changed-requires c = named-fits c.args.r c.args.event (sym c.in_ok-check_event.ensures)

pub returns-clause-answer : goal.returns-clause-answer
returns-clause-answer c = c.in_ok-check_event.ensures ∙ sym (decides (goal.at.returns-clause-answer c).In_ok-check)
