-- A list with one entry more, one less, and with zeros behind it.
-- Assumes nothing.
use Rattle.std.specs.Prelude.{cond, List, ◌∷◌, ◌++◌, ℕ, suc, ◌-◌, ltb, length, take, drop, replicate}

-- the list with v put in at place p: what stood there and behind it moves up by one
abbrev pub insert_at : ℕ → ℕ → List ℕ → List ℕ
insert_at p v l = take p l ++ v ∷ drop p l

-- the list without its place p: what stood behind it moves down by one
abbrev pub remove_at : ℕ → List ℕ → List ℕ
remove_at p l = take p l ++ drop (suc p) l

-- where place i is found once a place has been put in at p
abbrev pub skip : ℕ → ℕ → ℕ
skip p i = cond (ltb i p) i (suc i)

-- the list, and zeros up to n entries in all
abbrev pub padded : ℕ → List ℕ → List ℕ
padded n l = l ++ replicate (n - length l) 0
