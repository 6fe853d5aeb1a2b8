-- The reply of the load question: what it is at each row, and the laws of it.
-- Assumes nothing.
use mathlib.Core.Path.{◌≡◌, refl, sym, ap, ◌∙◌}
use mathlib.Core.Bool.{Bool, true, false}
use mathlib.Core.Logic.{◌≢◌}
use Prim.Native.Nat.{ℕ, suc, ◌≤◌}
use native.Mathlib.Nat.{le_trans}
use native.Mathlib.Omega.{arith}
use lib.Dec.{eqb}
use borrow.Author.Tests.{eq-eqb, ne_eqb, eqb-true, le-leb}
use Rattle.std.specs.Prelude.{Result}
use Rattle.base.specs.Sizes.{slots_fit}
use Rattle.base.specs.Rows.{lowest, rises_from}
use Rattle.base.specs.declared.Refusal.{Refusal}
use Rattle.base.proofs.Tests.{by_test, and_left, and_right, and_both}
use Rattle.base.proofs.Refusals.{told_once}
use Rattle.base.proofs.Entries.{length-table}
use Rattle.quota.proofs.Laws.{sum_is_slots}
use Rattle.roster.specs.declared.Roster.{Roster}
use Rattle.roster.specs.Roster.{rates_of, valid}
use Rattle.load.specs.Load.{carries_all}
use Rattle.load.specs.Reply.{Carried, load_fits, answer_of, carried, refusal, told}
use Rattle.load.specs.Laws.{RowsRise, AnsweredIsDivision, RefusedIsNo, LessIsCarried, QuotasKeepUp, LoadFixed}
use Rattle.load.proofs.Shares.{carries_is_division, less_carried, quotas_keep}
use Rattle.load.proofs.Ranges.{to_last, rates_positive, some_rates}

module _ (r : Roster) (slots load : ℕ) where
  pub carried-slots : slots_fit slots ≡ false → carried r slots load ≡ refusal 1
  unfolding carried answer_of lowest
  carried-slots f = rw f

  module _ (sizes : slots_fit slots ≡ true) where
    pub carried_roster : valid r ≡ false → carried r slots load ≡ refusal 2
    unfolding carried answer_of lowest
    carried_roster f = rw (sizes, f)

    module _ (right : valid r ≡ true) where
      pub carried_none : r.count ≡ 0 → carried r slots load ≡ refusal 10
      unfolding carried answer_of lowest
      carried_none e = rw (sizes, right, eq-eqb _ _ e)

      module _ (some : r.count ≢ 0) where
        pub carried_load : load_fits load ≡ false → carried r slots load ≡ refusal 11
        unfolding carried answer_of lowest
        carried_load f = rw (sizes, right, ne_eqb _ _ some, f)

        pub carried-done : load_fits load ≡ true → carried r slots load ≡ record { answer = 0; carries = carries_all load slots (rates_of r) }
        unfolding carried answer_of lowest
        carried-done t = rw (sizes, right, ne_eqb _ _ some, t)

-- the whole reply at each row, for the proof of `carries`
pub ruleset reply_rows = (carried-slots, carried_roster, carried_none, carried_load, carried-done)

pub rows-rise : RowsRise
unfolding rises_from
rows-rise r slots load = refl

-- an answer of 0 tells that no row holds
module _ (r : Roster) (slots load : ℕ) (done : (carried r slots load).answer ≡ 0) where
  -- no refusal by number
  not_refused : {A : Type 0} (number : ℕ) → carried r slots load ≡ refusal (suc number) → A
  not_refused number e = absurd (let w : suc number ≡ 0 = ap (λ (c : Carried). c.answer) (sym e) ∙ done in omega arith)

  slots_right : slots_fit slots ≡ true
  slots_right = by_test (slots_fit slots) (λ t. t) (λ f. not_refused 0 (carried-slots r slots load f))

  roster_right : valid r ≡ true
  roster_right = by_test (valid r) (λ t. t) (λ f. not_refused 1 (carried_roster r slots load slots_right f))

  some_host : r.count ≢ 0
  some_host e = not_refused 9 (carried_none r slots load slots_right roster_right e)

  load_right : load_fits load ≡ true
  load_right = by_test (load_fits load) (λ t. t) (λ f. not_refused 10 (carried_load r slots load slots_right roster_right some_host f))

-- and so does a yes
module _ (r : Roster) (slots load : ℕ) (says-yes : (carried r slots load).carries ≡ true) where
  answered : (carried r slots load).answer ≡ 0
  unfolding carried
  answered = eqb-true _ _ (and_left (eqb (answer_of r slots load) 0) _ says-yes)

  all-carried : carries_all load slots (rates_of r) ≡ true
  unfolding carried
  all-carried = and_right (eqb (answer_of r slots load) 0) _ says-yes

pub less_is_carried : LessIsCarried
less_is_carried r slots load less some small says-yes =
    let done = answered r slots load says-yes in
    let most : load ≤ 1000 = to_last 1 1000 load (load_right r slots load done) in
    let fits : load_fits less ≡ true = and_both _ _ (le-leb 1 less some) (le-leb less 1000 (le_trans small most)) in
    ap (λ (c : Carried). c.carries) (carried-done r slots less (slots_right r slots load done) (roster_right r slots load done) (some_host r slots load done) fits)
    ∙ less_carried load less slots (rates_of r) small (all-carried r slots load says-yes)

pub quotas_keep_up : QuotasKeepUp
quotas_keep_up r slots load says-yes =
    let done = answered r slots load says-yes in
    let right = roster_right r slots load done in
    let pos = rates_positive r right in (
      record { a_host_each = length-table _ _; all-given = sum_is_slots (rates_of r) pos (some_rates r right (some_host r slots load done)) slots },
      quotas_keep load slots (rates_of r) pos (all-carried r slots load says-yes),
    )

pub answered_is_division : AnsweredIsDivision
unfolding carried
answered_is_division r slots load e = rw e (carries_is_division load slots (rates_of r))

pub refused_is_no : RefusedIsNo
unfolding carried
refused_is_no r slots load ne = rw (ne_eqb _ _ ne)

-- results that tell the same reply are the same
once : (x y : Result Bool Refusal) → told x ≡ told y → x ≡ y
once = told_once told (λ c. c.answer) (λ yes. refl) (λ reason. refl) (λ a b h. ap (λ c. c.carries) h)

pub load_fixed : LoadFixed
load_fixed r slots load x y a b = once x y (a ∙ sym b)
