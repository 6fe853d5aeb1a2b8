-- The quotas of document 01, section Quotas, as a ranking of claims. Hosts are known by their place in a list of rates, in rising host number.
-- Assumes nothing.
use Rattle.std.specs.Prelude.{Bool, ◌&&◌, ◌||◌, cond, List, ℕ, suc, ◌*◌, ltb, leb, eqb, length, replicate}
use Rattle.base.specs.Tables.{sum, count, all, table, at}
use Rattle.base.specs.Lists.{padded}
use Rattle.base.specs.Sizes.{rate_fits}

-- sentences 2 and 6: claim k at place i weighs k / its rate, less than claim l at place j; compared by multiplying across
abbrev pub lighter : List ℕ → ℕ → ℕ → ℕ → ℕ → Bool
lighter rates i k j l = ltb (k * at rates j) (l * at rates i)

-- sentence 3: claims are ranked by weight, and equal weights by the lower host number, that is by the lower place
abbrev pub before : List ℕ → ℕ → ℕ → ℕ → ℕ → Bool
before rates i k j l = lighter rates i k j l || (eqb (k * at rates j) (l * at rates i) && ltb i j)

-- how many claims come before claim k at place i, of the claims 1 .. most that each host makes
unfoldable pub rank : List ℕ → ℕ → ℕ → ℕ → ℕ
rank rates most i k = sum (length rates) (λ j. count most (λ l. before rates j (suc l) i k))

-- how many of the claims 1 .. most at place i are among the first S of all
unfoldable pub granted : List ℕ → ℕ → ℕ → ℕ → ℕ
granted rates most S i = count most (λ k. ltb (rank rates most i (suc k)) S)

-- sentence 4: the quota is how many of a host's claims are among the first S. S claims of each host are ranked: `MoreClaims` of Laws shows that ranking more changes nothing
abbrev pub quota : List ℕ → ℕ → ℕ → ℕ
quota rates S i = granted rates S S i

-- the quotas of all hosts in their order; with no hosts there are none (sentence 8)
abbrev pub quotas : List ℕ → ℕ → List ℕ
quotas rates S = table (length rates) (quota rates S)

-- Sizes: at most 256 hosts, each rate in its range, and at most 16,384 slots
unfoldable pub within_sizes : List ℕ → ℕ → Bool
within_sizes rates S = leb (length rates) 256 && leb S 16384 && all (length rates) (λ i. rate_fits (at rates i))

-- what the function `quotas` gives: 256 entries, the quotas with zeros behind them; within no sizes, zeros alone
unfoldable pub quotas_given : List ℕ → ℕ → List ℕ
quotas_given rates S = cond (within_sizes rates S) (padded 256 (quotas rates S)) (replicate 256 0)
