-- A report's answer at each row, what its plan comes to, and its laws.
-- Assumes nothing.
use mathlib.Core.Path.{◌≡◌, refl, sym, ◌∙◌}
use mathlib.Core.Bool.{true, false}
use mathlib.Core.Logic.{◌≢◌}
use Prim.Native.Nat.{ℕ}
use native.Mathlib.Omega.{arith}
use lib.Dec.{eqb}
use borrow.Author.Tests.{eq-eqb, ne_eqb, eqb-true, eqb-false}
use Rattle.std.specs.Prelude.{Result}
use Rattle.base.specs.Sizes.{slots_fit}
use Rattle.base.specs.Rows.{lowest, rises_from}
use Rattle.base.specs.Refusals.{answer_of as told}
use Rattle.base.specs.declared.Refusal.{Refusal}
use Rattle.base.proofs.Tests.{by_test}
use Rattle.base.proofs.Refusals.{told_once}
use Rattle.roster.specs.declared.Roster.{Roster}
use Rattle.roster.specs.Roster.{valid}
use Rattle.report.specs.Report.{answer_of, reported}
use Rattle.report.specs.Laws.{RowsRise, OneRecordAHost, RefusedUnwritten, ReportFixed}
use Rattle.report.proofs.Lists.{length-listed, at_listed}

-- at each row ----------------------------------------------------------------------

module _ (r : Roster) (slots records : ℕ) where
  pub answer-slots : slots_fit slots ≡ false → answer_of r slots records ≡ 1
  unfolding answer_of lowest
  answer-slots f = rw f

  module _ (sizes : slots_fit slots ≡ true) where
    pub answer_roster : valid r ≡ false → answer_of r slots records ≡ 2
    unfolding answer_of lowest
    answer_roster f = rw (sizes, f)

    module _ (right : valid r ≡ true) where
      pub answer_records : r.count ≢ records → answer_of r slots records ≡ 12
      unfolding answer_of lowest
      answer_records ne = rw (sizes, right, ne_eqb _ _ ne)

      pub answer-done : r.count ≡ records → answer_of r slots records ≡ 0
      unfolding answer_of lowest
      answer-done e = rw (sizes, right, eq-eqb _ _ e)

-- the answer at each row, for the proof of `checked`
pub ruleset answer_rows = (answer-slots, answer_roster, answer_records, answer-done)

-- an answer of 0 tells that no row holds
module _ (r : Roster) (slots records : ℕ) (done : answer_of r slots records ≡ 0) where
  pub slots_right : slots_fit slots ≡ true
  slots_right = by_test (slots_fit slots) (λ t. t) (λ f. absurd (let e = answer-slots r slots records f in omega arith))

  pub roster_right : valid r ≡ true
  roster_right = by_test (valid r) (λ t. t) (λ f. absurd (let e = answer_roster r slots records slots_right f in omega arith))

  pub records_right : r.count ≡ records
  records_right =
      by_test (eqb r.count records)
      (λ t. eqb-true _ _ t)
      (λ f. absurd (let e = answer_records r slots records slots_right roster_right (eqb-false _ _ f) in omega arith))

-- the laws -------------------------------------------------------------------------

pub rows-rise : RowsRise
unfolding rises_from
rows-rise r slots records = refl

pub one_record_a_host : OneRecordAHost
unfolding reported
one_record_a_host r slots out done = rw done (length-listed r.count _, (λ i other l. at_listed r.count _ i other l))

pub refused_unwritten : RefusedUnwritten
unfolding reported
refused_unwritten r slots out ne = rw (ne_eqb _ _ ne)

-- results that tell the same answer are the same
once : (a b : Result (Unit {0}) Refusal) → told a ≡ told b → a ≡ b
once = told_once told (λ n. n) (λ done. refl) (λ reason. refl) (λ a b h. refl)

pub report_fixed : ReportFixed
report_fixed r slots out a b x y p q = (once a b (p.0 ∙ sym q.0), p.1 ∙ sym q.1)
