-- The report of document 01, section Layout and events, last paragraph: one record for each host in roster order, and the rows of its refusals.
-- Assumes nothing.
use Rattle.std.specs.Prelude.{not, cond, List, [], ◌∷◌, ℕ, zero, suc, eqb, length}
use Rattle.base.specs.Tables.{at}
use Rattle.base.specs.Sizes.{slots_fit}
use Rattle.base.specs.Rows.{Row, lowest}
use Rattle.quota.specs.Quota.{quota}
use Rattle.roster.specs.declared.Roster.{Roster}
use Rattle.roster.specs.Roster.{hosts_of, rates_of, valid}
use Rattle.report.specs.declared.HostRecord.{HostRecord}

-- the record of the host at place i: number, rate, quota
abbrev pub host_record : Roster → ℕ → ℕ → HostRecord
host_record r slots i = record { number = at (hosts_of r) i; rate = at (rates_of r) i; quota = quota (rates_of r) slots i }

-- the list of f 0, f 1, .., f (n-1)
unfoldable pub listed : ℕ → (ℕ → HostRecord) → List HostRecord
listed zero f = []
listed (suc n) f = f 0 ∷ listed n (λ i. f (suc i))

-- one record for each host in roster order
abbrev pub host_records : Roster → ℕ → List HostRecord
host_records r slots = listed r.count (host_record r slots)

-- Numbers answered, rows 1, 2 and 12, of which a report can meet no other
abbrev pub rows : Roster → ℕ → ℕ → List Row
rows r slots records =
    record { number = 1; holds = not (slots_fit slots) }
    ∷ record { number = 2; holds = not (valid r) }
    ∷ record { number = 12; holds = not (eqb r.count records) }
    ∷ []

-- the lowest row that holds
unfoldable pub answer_of : Roster → ℕ → ℕ → ℕ
answer_of r slots records = lowest (rows r slots records)

-- what the lent list holds at exit: the records, or what it held where the report is refused
unfoldable pub reported : Roster → ℕ → List HostRecord → List HostRecord
reported r slots out = cond (eqb (answer_of r slots (length out)) 0) (host_records r slots) out
