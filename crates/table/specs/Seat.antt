-- Helper notions of the proofs, no rule of the document: what three searches answer.
-- Assumes nothing.
use Rattle.std.specs.Prelude.{◌≡◌, Bool, Option, MatchOption, List, ℕ, ◌≤◌, ◌<◌, length}
use Rattle.base.specs.Tables.{first, at}
use Rattle.mover.specs.Mover.{quota_of}

-- the first of 0 .. n-1 that passes the test p, or none
abbrev pub Finds : ℕ → (ℕ → Bool) → Option ℕ → Type 0
Finds n p answer = MatchOption answer (first n p ≡ n) (λ i. (i < n) × (i ≡ first n p))

-- place p is the owner's, and has room left
pub record SeatAt (hosts room : List ℕ) (owner p : ℕ) : Type 0 where
  pub within : p < length hosts
  pub there : at hosts p ≡ owner
  pub has_room : 0 < at room p

-- the place of an owner that has room left, or none
abbrev pub Seat : List ℕ → List ℕ → ℕ → Option ℕ → Type 0
Seat hosts room owner answer = MatchOption answer (quota_of hosts room owner ≡ 0) (SeatAt hosts room owner)

-- p is the first place from `from` on that lacks a slot
pub record ShortAt (times : List ℕ) (from p : ℕ) : Type 0 where
  pub behind : from ≤ p
  pub within : p < length times
  pub none_between : (j : ℕ) → from ≤ j → j < p → at times j ≡ 0
  pub short : 0 < at times p

-- that place, or none
abbrev pub NextShort : List ℕ → ℕ → Option ℕ → Type 0
NextShort times from answer = MatchOption answer ((j : ℕ) → from ≤ j → j < length times → at times j ≡ 0) (ShortAt times from)
