-- A helper notion of the proofs, no rule of the document: a division in which every granted claim comes before every ungranted one.
-- Assumes nothing.
use Rattle.std.specs.Prelude.{◌≡◌, List, ℕ, suc, ◌*◌, ◌≤◌, ◌<◌, length}
use Rattle.base.specs.Tables.{at}

-- claim k at place i comes before claim l at place j, as two facts on products
pub record Before (rates : List ℕ) (i k j l : ℕ) : Type 0 where
  pub no_heavier : k * at rates j ≤ l * at rates i
  pub lighter_from : j ≤ i → k * at rates j < l * at rates i

-- each host's last granted claim comes before each host's first ungranted one
pub record Cut (rates held : List ℕ) : Type 0 where
  pub sized : length held ≡ length rates
  pub cut : (i j : ℕ) → i < length rates → j < length rates → Before rates i (at held i) j (suc (at held j))
