-- A helper notion of the proofs, no rule of the document: a lent output with the place behind what was put into it.
-- Assumes nothing.
use Rattle.std.specs.Prelude.{◌≡◌, List, ℕ, ◌+◌, length}
use Rattle.printing.specs.declared.Sheet.{Sheet}
use Rattle.printing.specs.Wrote.{wrote}

-- a text was put at the place, and the place is behind it; the output is the same one, and as large
pub record Put (old new : Sheet) (text : List ℕ) : Type 0 where
  pub lent : new.out.ghost_name ≡ old.out.ghost_name
  pub size : length new.out.now ≡ length old.out.now
  pub place : new.at ≡ old.at + length text
  pub bytes : new.out.now ≡ wrote old.out.now old.at text
