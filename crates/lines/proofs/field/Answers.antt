-- `lines::field` meets its contract: what is left behind the name is the definition's.
use mathlib.Core.Path.{sym, ap, ◌∙◌}
use Rattle.lines.specs.Numbers.{number_of}
use Rattle.lines.specs.Lines.{field_of}
use Rattle.lines.proofs.Starts.{starts_cut}
use Rattle.lines.proofs.field.Goals as goal

pub returns-in_err-strip_prefix : goal.returns-in_err-strip_prefix
unfolding field_of
returns-in_err-strip_prefix c = c.from_residual.ensures ∙ rw (sym (starts_cut c.args.name.now c.args.line.now) ∙ c.in_err-strip_prefix.ensures.cases)

pub returns : goal.returns
unfolding field_of
returns c =
    let starts = c.in_ok-strip_prefix.ensures.cases in
    rw (sym (starts_cut c.args.name.now c.args.line.now) ∙ starts.0) (c.number_in.ensures ∙ ap number_of starts.1)
