-- `roster::is_on` meets its contract: the search among rising numbers tells.
use mathlib.Core.Path.{◌∙◌}
use Rattle.roster.proofs.Search.{search_tells}
use Rattle.roster.proofs.is_on.Goals as goal

pub returns : goal.returns
returns c = λ rises. c.is_ok.ensures.value ∙ search_tells _ rises _ _ c.binary_search.ensures.position
