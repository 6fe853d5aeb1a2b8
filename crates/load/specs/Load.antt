-- Carrying a load, as the section of document 01 tells it: when a host keeps up, and whether some division of the slots lets all of them.
-- Assumes nothing.
use Rattle.std.specs.Prelude.{◌≡◌, Bool, true, List, ℕ, suc, ◌*◌, ◌<◌, leb, length}
use Rattle.base.specs.Tables.{sum, count, at, total}
use Rattle.quota.specs.Laws.{Division}

-- sentence 1: a host keeps up when load × slots held × (sum of rates) is at most 1000 × rate × slot count
unfoldable pub keeps_up : ℕ → ℕ → ℕ → ℕ → ℕ → Bool
keeps_up load slots all rate held = leb (load * held * all) (1000 * rate * slots)

-- every host keeps up under this division
abbrev pub AllKeepUp : ℕ → ℕ → List ℕ → List ℕ → Type 0
AllKeepUp load slots rates held = (i : ℕ) → i < length rates → keeps_up load slots (total rates) (at rates i) (at held i) ≡ true

-- sentence 2: some division of the slots among the hosts lets every host keep up
abbrev pub Carries : ℕ → ℕ → List ℕ → Type 0
Carries load slots rates = (held : List ℕ) × Division rates slots held × AllKeepUp load slots rates held

-- the most of the slots that a host could hold and keep up
unfoldable pub most_kept : ℕ → ℕ → ℕ → ℕ → ℕ
most_kept load slots all rate = count slots (λ s. keeps_up load slots all rate (suc s))

-- the same as a test that needs no division: the hosts could hold all slots and keep up. `CarriesIsDivision` of Laws shows that it is sentence 2
unfoldable pub carries_all : ℕ → ℕ → List ℕ → Bool
carries_all load slots rates = leb slots (sum (length rates) (λ i. most_kept load slots (total rates) (at rates i)))
