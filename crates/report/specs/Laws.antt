-- What a report promises, as statements; the function `promises` holds them all.
-- Assumes nothing.
use Rattle.std.specs.Prelude.{◌≡◌, true, ◌≢◌, List, ℕ, ◌<◌, Result, length, get_or}
use Rattle.base.specs.Rows.{rises_from}
use Rattle.base.specs.Refusals.{answer_of as told}
use Rattle.base.specs.declared.Refusal.{Refusal}
use Rattle.roster.specs.declared.Roster.{Roster}
use Rattle.report.specs.declared.HostRecord.{HostRecord}
use Rattle.report.specs.Report.{rows, host_record, answer_of, reported}

-- the rows rise in number, so that the answer is the lowest row that holds (`LowestIsFirst` of base)
abbrev pub RowsRise : Type 0
RowsRise = (r : Roster) (slots records : ℕ) → rises_from 0 (rows r slots records) ≡ true

-- a report that is answered with 0 has one record a host, each that host's, in roster order
abbrev pub OneRecordAHost : Type 0
OneRecordAHost =
    (r : Roster) (slots : ℕ) (out : List HostRecord) → answer_of r slots (length out) ≡ 0 →
    (length (reported r slots out) ≡ r.count)
    × ((i : ℕ) (other : HostRecord) → i < r.count → get_or (reported r slots out) i other ≡ host_record r slots i)

-- a refusal writes nothing
abbrev pub RefusedUnwritten : Type 0
RefusedUnwritten = (r : Roster) (slots : ℕ) (out : List HostRecord) → answer_of r slots (length out) ≢ 0 → reported r slots out ≡ out

-- two results, and two lists at exit, that meet the contract are equal
abbrev pub ReportFixed : Type 0
ReportFixed =
    (r : Roster) (slots : ℕ) (out : List HostRecord) (a b : Result (Unit {0}) Refusal) (x y : List HostRecord) →
    (told a ≡ answer_of r slots (length out)) × (x ≡ reported r slots out) →
    (told b ≡ answer_of r slots (length out)) × (y ≡ reported r slots out) → (a ≡ b) × (x ≡ y)
