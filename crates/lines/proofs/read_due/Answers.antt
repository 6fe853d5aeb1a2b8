-- `lines::read_due` meets its contract: where a key is due the one test is that of the definition.
use mathlib.Core.Path.{sym, ◌∙◌}
use Rattle.lines.specs.Lines.{key_name, keyed}
use Rattle.lines.proofs.Starts.{begins}
use Rattle.lines.proofs.read_due.Goals as goal

pub returns-in-Key : goal.returns-in-Key
unfolding keyed
returns-in-Key c = rw (c.in-Key.is, sym (begins key_name c.args.line.now c.starts_with.ensures.value) ∙ c.if-starts_with.true)

pub returns-in-Key-2 : goal.returns-in-Key-2
unfolding keyed
returns-in-Key-2 c = rw (c.in-Key.is, sym (begins key_name c.args.line.now c.starts_with.ensures.value) ∙ c.if-starts_with.false)
