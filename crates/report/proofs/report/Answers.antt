-- `report::report` meets its contract. The loop's invariant: before place i the list holds the hosts' records.
use mathlib.Core.Path.{◌≡◌, sym, ap, ◌∙◌}
use mathlib.Core.Bool.{true}
use native.Mathlib.Omega.{arith}
use Prim.Native.Nat.{◌+◌}
use lib.ListN.{length, take, set}
use lib.Seq.{take_all}
use Rattle.base.specs.Tables.{at}
use Rattle.base.proofs.Refusals.{number_not_zero}
use Rattle.roster.specs.Roster.{hosts_of, rates_of, valid}
use Rattle.roster.proofs.Facts.{facts, length_hosts, length-rates}
use Rattle.quota.specs.Quota.{quota, quotas_given}
use Rattle.report.specs.Report.{host_record, listed, answer_of, reported}
use Rattle.report.proofs.Lists.{none_listed, written_next}
use Rattle.report.proofs.Replies.{slots_right, roster_right, records_right, refused_unwritten}
use Rattle.report.proofs.Quotas.{quota-given}
use Rattle.report.proofs.report.Goals as goal
use Rattle.report.proofs.report.Goals.{After-quotas-quotas}

pub returns-in_err-roster-clause-list : goal.returns-in_err-roster-clause-list
returns-in_err-roster-clause-list c =
    let args = c.args in
    sym (refused_unwritten args.r args.slots args.out.now (λ z. number_not_zero c.in_err-roster.field-0.0 (c.in_err-roster.ensures.answer ∙ z)))

-- past the checks nothing is refused, and the two lists are the roster's, as long as the list to be written
module _ (c : After-quotas-quotas) where
  done : let args = c.args in answer_of args.r args.slots (length args.out.now) ≡ 0
  done = sym c.in_ok-roster.ensures.answer

  right : valid c.args.r ≡ true
  right = roster_right _ _ _ done

  hosts : c.hosts-hosts.result.now ≡ hosts_of c.args.r
  hosts = c.hosts-hosts.ensures ∙ ap hosts_of c.in_ok-roster.ensures.roster

  rates : c.rates-rates.result.now ≡ rates_of c.args.r
  rates = c.rates-rates.ensures ∙ ap rates_of c.in_ok-roster.ensures.roster

  count : c.args.r.count ≡ length c.args.out.now
  count = records_right _ _ _ done

pub loop-i-init : goal.loop-i-init
loop-i-init c = sym (none_listed _)

pub bounds-hosts-i : goal.bounds-hosts-i
bounds-hosts-i c =
    let past = (goal.at.bounds-hosts-i c).After-quotas-quotas in
    rw (hosts past) (omega (arith, length_hosts c.args.r (facts c.args.r (right past)), count past))

pub bounds-rates-i : goal.bounds-rates-i
bounds-rates-i c =
    let past = (goal.at.bounds-rates-i c).After-quotas-quotas in
    rw (rates past) (omega (arith, length-rates c.args.r (facts c.args.r (right past)), count past))

pub bounds-quotas-i : goal.bounds-quotas-i
bounds-quotas-i c =
    let past = (goal.at.bounds-quotas-i c).After-quotas-quotas in
    omega (arith, (facts c.args.r (right past)).few, count past)

pub loop-i-preserved : goal.loop-i-preserved
loop-i-preserved c =
    let past = (goal.at.loop-i-preserved c).After-quotas-quotas in
    let args = c.args in
    let i = c.loop-i.i in
    let given : c.quotas-quotas.result ≡ quotas_given (rates_of args.r) args.slots = c.quotas-quotas.ensures ∙ ap (λ l. quotas_given l args.slots) (rates past) in
    let sizes = slots_right _ _ _ (done past) in
    let share : at c.quotas-quotas.result i ≡ quota (rates_of args.r) args.slots i = ap (λ l. at l i) given ∙ quota-given args.r args.slots (right past) sizes i (omega (arith, count past)) in
    ap (λ v. take (i + 1) (set c.loop-i.out i v)) (λ j. record { number = ap (λ l. at l i) (hosts past) j; rate = ap (λ l. at l i) (rates past) j; quota = share j })
    ∙ written_next i (host_record args.r args.slots) c.loop-i.out (omega arith) c.loop-i.invariant

pub returns-clause-list : goal.returns-clause-list
unfolding reported
returns-clause-list c =
    let past = (goal.at.returns-clause-list c).After-quotas-quotas in
    let args = c.args in
    let all : c.loop-i.i ≡ args.r.count = omega (arith, count past) in
    rw (done past) (sym (take_all c.loop-i.i c.loop-i.out (omega arith)) ∙ c.loop-i.invariant ∙ ap (λ n. listed n (host_record args.r args.slots)) all)
