-- What checking a roster gives: the roster as one that breaks no rule, or the refusal of row 2.
-- Assumes nothing.
use Rattle.std.specs.Prelude.{◌≡◌, false, Result, MatchResult}
use Rattle.base.specs.declared.Refusal.{Refusal}
use Rattle.base.specs.declared.Refusal.TheVariants.{BrokenRoster}
use Rattle.roster.specs.declared.Roster.{Roster}
use Rattle.roster.specs.declared.valid_roster.ValidRoster.{ValidRoster}
use Rattle.roster.specs.Roster.{valid}

-- it is the roster handed in, or that one breaks a rule
abbrev pub ChecksRoster : Roster → Result ValidRoster Refusal → Type 0
ChecksRoster r result = MatchResult result (λ v. v.roster ≡ r) (λ reason. (reason ≡ BrokenRoster) × (valid r ≡ false))
