-- The greedy step of document 000 (the M3 paper, section IV), as document 01, Quotas, sentence 5 tells it; and a certificate for a vector of quotas.
-- Assumes nothing.
use Rattle.std.specs.Prelude.{Bool, ◌&&◌, cond, List, ℕ, zero, suc, eqb, length, set, replicate}
use Rattle.base.specs.Tables.{all, at, total}
use Rattle.quota.specs.Quota.{lighter, before}

-- the first of the places 0 .. n-1 where (slots held + 1) / rate is least
unfoldable pub least : List ℕ → List ℕ → ℕ → ℕ
least rates held zero = 0
least rates held (suc n) =
    let best = least rates held n in
    cond (lighter rates n (suc (at held n)) best (suc (at held best))) n best

-- one slot more for the host at place p
abbrev pub grant : List ℕ → ℕ → List ℕ
grant held p = set held p (suc (at held p))

-- S times: the next slot goes where (slots held + 1) / rate is least
unfoldable pub greedy : List ℕ → ℕ → List ℕ
greedy rates zero = replicate (length rates) 0
greedy rates (suc S) = let held = greedy rates S in grant held (least rates held (length rates))

-- each host's last granted claim comes before each host's first ungranted one
unfoldable pub is_cut : List ℕ → List ℕ → ℕ → Bool
is_cut rates held S =
    eqb (length held) (length rates) && eqb (total held) S
    && all (length rates) (λ i. all (length rates) (λ j. before rates i (at held i) j (suc (at held j))))
