-- `roster::place_to_rerate` meets its contract: its tests are those of the definition.
use mathlib.Core.Path.{sym, ◌∙◌}
use mathlib.Core.Bool.{and-true, and-false}
use Rattle.roster.specs.Roster.{valid}
use Rattle.roster.specs.Changes.{may_drop, may_rerate}
use Rattle.roster.proofs.place_to_rerate.Goals as goal

pub returns-then-not-rate_fits : goal.returns-then-not-rate_fits
unfolding may_rerate
returns-then-not-rate_fits c = rw (sym c.rate_fits.ensures ∙ c.if-not-rate_fits.true, and-false (valid c.args.r))

pub returns : goal.returns
unfolding may_rerate may_drop
returns c = rw (sym c.rate_fits.ensures ∙ c.if-not-rate_fits.false, and-true (valid c.args.r)) c.place_to_drop.ensures
