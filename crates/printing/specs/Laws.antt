-- What printing promises, as a statement; the function `promises` holds it.
-- Assumes nothing.
use Rattle.std.specs.Prelude.{◌≡◌, List, ℕ, length}
use Rattle.stream.specs.declared.Said.{Said}
use Rattle.printing.specs.Wrote.{said_at, place_after}

-- two places that meet the contract of what is put are equal, and so are the outputs they leave
abbrev pub SaidFixed : Type 0
SaidFixed =
    (said : Said) (out : List ℕ) (place x y : ℕ) (t u : List ℕ) → x ≡ place_after said (length out) place → y ≡ place_after said (length out) place →
    t ≡ said_at said out place → u ≡ said_at said out place → (x ≡ y) × (t ≡ u)
