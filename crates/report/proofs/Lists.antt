-- Lists of records: the list of a function's values, and a list whose front is written one place after the other.
-- Assumes nothing.
use mathlib.Core.Path.{◌≡◌, refl, ap}
use mathlib.Core.List.{List, [], ◌∷◌, ◌++◌}
use Prim.Native.Nat.{ℕ, zero, suc, ◌+◌, ◌<◌}
use native.Mathlib.Nat.{not-suc-le-zero, le_of_suc-le-suc}
use native.Mathlib.Numerals.{add-one}
use lib.ListN.{length, take, set, get_or}
use lib.Seq.{take-suc-set}
use Rattle.report.specs.declared.HostRecord.{HostRecord}
use Rattle.report.specs.Report.{listed}

-- listed -------------------------------------------------------------------------

pub length-listed : (n : ℕ) (f : ℕ → HostRecord) → length (listed n f) ≡ n
unfolding listed
length-listed zero f = refl
length-listed (suc n) f = ap suc (length-listed n (λ i. f (suc i)))

pub at_listed : (n : ℕ) (f : ℕ → HostRecord) (i : ℕ) (other : HostRecord) → i < n → get_or (listed n f) i other ≡ f i
unfolding listed
at_listed zero f i other l = absurd (not-suc-le-zero l)
at_listed (suc n) f zero other l = refl
at_listed (suc n) f (suc i) other l = at_listed n (λ k. f (suc k)) i other (le_of_suc-le-suc l)

pub none_listed : (f : ℕ → HostRecord) → listed 0 f ≡ []
unfolding listed
none_listed f = refl

-- one more at the end
listed_more : (n : ℕ) (f : ℕ → HostRecord) → listed (suc n) f ≡ listed n f ++ f n ∷ []
unfolding listed
listed_more zero f = refl
listed_more (suc n) f = ap (λ l. f 0 ∷ l) (listed_more n (λ i. f (suc i)))

-- a list that is written over from the front, one place more
pub written_next : (i : ℕ) (f : ℕ → HostRecord) (out : List HostRecord) → i < length out → take i out ≡ listed i f → take (i + 1) (set out i (f i)) ≡ listed (i + 1) f
written_next i f out l h = rw (add-one i, listed_more i f, take-suc-set out i (f i), h)
