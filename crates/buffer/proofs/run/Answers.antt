-- `buffer::run` meets its contract: the loop's invariant: the text of the lines taken stands at the front of the output, and the lines left lead to the same end.
use mathlib.Core.Path.{sym, ap, ◌∙◌}
use Rattle.feed.specs.Passing.{passes_by}
use Rattle.buffer.proofs.Runs.{kept_first, kept_full, kept_ends, kept_less, kept_next, passed_less, kept_passed}
use Rattle.buffer.proofs.run.Goals as goal

pub loop-number-init : goal.loop-number-init
loop-number-init c = kept_first _ _ _ _

pub loop-number-smaller-in-Some : goal.loop-number-smaller-in-Some
loop-number-smaller-in-Some c =
    let turn = c.loop-number in
    let line = c.in-Some.ensures ∙ ap (λ n. passes_by turn.state.due n turn.state.slots turn.owners c.args.input.now turn.next) c.next_number-number.ensures in
    passed_less turn.invariant _ (sym c.may_go_on.ensures ∙ c.loop-number-test.true) (sym line)

pub loop-number-preserved-in-Some : goal.loop-number-preserved-in-Some
loop-number-preserved-in-Some c =
    let turn = c.loop-number in
    let number = c.next_number-number.ensures in
    let line = c.in-Some.ensures ∙ ap (λ n. passes_by turn.state.due n turn.state.slots turn.owners c.args.input.now turn.next) number in
    let said = c.put_said-printed.ensures in
    rw (← number) at (kept_passed turn.invariant _ (sym c.may_go_on.ensures ∙ c.loop-number-test.true) (sym line) _ _ said.place said.bytes)

pub loop-number-smaller : goal.loop-number-smaller
loop-number-smaller c = kept_less c.loop-number.invariant _ (sym c.in-Some-next_line.ensures.reply)

pub loop-number-preserved : goal.loop-number-preserved
loop-number-preserved c =
    let turn = c.loop-number in
    let line = c.in-Some-next_line.ensures in
    let said = c.put_said-printed-in-loop-number.ensures in
    kept_next turn.invariant _ _ _ _ (sym c.may_go_on.ensures ∙ c.loop-number-test.true) (sym line.reply) line.table (c.next_line.auto.owners ∙ turn.invariant.lent) said.place said.bytes

pub returns-after-loop-number : goal.returns-after-loop-number
returns-after-loop-number c =
    let end = kept_full c.loop-number.invariant (sym c.may_go_on.ensures ∙ c.loop-number-test.false) in
    record { reply = end.0; table = end.1; text = end.2 }

pub returns-in_default-next_line : goal.returns-in_default-next_line
returns-in_default-next_line c =
    let end = kept_ends c.loop-number.invariant _ (sym c.next_line.ensures.reply ∙ c.in_default-next_line.is) c.next_line.ensures.table in
    record { reply = end.0; table = end.1; text = end.2 }
