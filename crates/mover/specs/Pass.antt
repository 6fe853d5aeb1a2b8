-- A helper notion of the proofs, no rule of the document: the move as one pass from the front, with the room that each owner has left.
-- Assumes nothing.
use Rattle.std.specs.Prelude.{cond, List, [], ◌∷◌, ℕ, ◌+◌, ◌-◌, eqb, drop}
use Rattle.base.specs.Tables.{one_if, at}

-- one slot of a host has been passed: its room goes down by one, not below 0
abbrev pub lowered : (ℕ → ℕ) → ℕ → ℕ → ℕ
lowered room host owner = cond (eqb owner host) (room owner - 1) (room owner)

-- a slot whose owner has no room goes to the next receiver
unfoldable pub pass : (ℕ → ℕ) → List ℕ → List ℕ → List ℕ
pass room next [] = []
pass room next (h ∷ slots) =
    cond (eqb (room h) 0) (at next 0 ∷ pass (lowered room h) (drop 1 next) slots) (h ∷ pass (lowered room h) next slots)

-- how many slots the pass frees
unfoldable pub frees : (ℕ → ℕ) → List ℕ → ℕ
frees room [] = 0
frees room (h ∷ slots) = one_if (eqb (room h) 0) + frees (lowered room h) slots

-- the room that is left after the pass
unfoldable pub room_after : (ℕ → ℕ) → List ℕ → ℕ → ℕ
room_after room [] owner = room owner
room_after room (h ∷ slots) owner = room_after (lowered room h) slots owner
