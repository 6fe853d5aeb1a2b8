-- The ranges of document 01, section Sizes, as tests.
-- Assumes nothing.
use Rattle.std.specs.Prelude.{Bool, ◌&&◌, ℕ, leb}

-- first to last, both counted in
abbrev pub between : ℕ → ℕ → ℕ → Bool
between first last n = leb first n && leb n last

-- sentence 1: slots are 1 to 16,384
abbrev pub slots_fit : ℕ → Bool
slots_fit slots = between 1 16384 slots

-- sentence 4: host numbers are 1 to 65,535
abbrev pub host_fits : ℕ → Bool
host_fits host = between 1 65535 host

-- sentence 4: rates are 1 to 1,000,000
abbrev pub rate_fits : ℕ → Bool
rate_fits rate = between 1 1000000 rate
