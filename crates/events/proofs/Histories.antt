-- Demand 3: every reached state is right, and what follows from that for the slots, the moves and the forecasts.
-- Assumes nothing.
use mathlib.Core.Path.{◌≡◌, refl, sym, ap, ap₂, ◌∙◌, subst, subst₂}
use mathlib.Core.Bool.{true, false, not, ◌&&◌}
use mathlib.Core.Logic.{◌⊎◌, inl, inr, ⊎_elim}
use mathlib.Core.List.{List}
use Prim.Native.Nat.{ℕ, ◌+◌, ◌-◌, ◌*◌, ◌≤◌, ◌<◌}
use native.Mathlib.Nat.{eq-zero-or-pos, zero-add}
use native.Mathlib.Omega.{arith}
use lib.Dec.{leb}
use lib.IntN.{pos, ◌-ℤ◌, +ℤ-neg_ℤ_cancel}
use lib.ListN.{length, set, replicate, length-replicate, get_or-replicate}
use lib.Seq.{get_or-take}
use borrow.Author.Tests.{eq-eqb, ne_eqb, eqb-true, leb-true}
use Rattle.base.specs.Rows.{lowest}
use Rattle.base.specs.Sizes.{slots_fit, host_fits, rate_fits}
use Rattle.base.specs.Tables.{sum, at, total}
use Rattle.base.specs.Lists.{insert_at, remove_at}
use Rattle.base.proofs.Sums.{sum_ext}
use Rattle.base.proofs.Entries.{at_table, length_insert}
use Rattle.base.proofs.Tests.{by_test, never, and_left, and_right, all_of}
use Rattle.quota.specs.Quota.{quota, quotas}
use Rattle.quota.proofs.Laws.{quota-sum, least_greatest_ratio, bounded}
use Rattle.roster.specs.declared.Roster.{Roster}
use Rattle.roster.specs.Roster.{hosts_of, rates_of, valid, is_on, Rises}
use Rattle.roster.specs.Changes.{none, may_add, may_drop, may_rerate, place_in, added, dropped, rerated}
use Rattle.roster.proofs.Facts.{facts, length_hosts, length-rates, hosts_rise}
use Rattle.roster.proofs.Search.{place-fits, on_place}
use Rattle.roster.proofs.Changes.{none-valid, added-valid, dropped-valid, rerated-valid, added_only, dropped_only, rerated_only, add_rate_fits, drop-place, drop-there, rate_place, rate_there, rate_rate_fits}
use Rattle.roster.proofs.Made.{same_rate}
use Rattle.mover.specs.Mover.{held, quota_of, new_owner, changes}
use Rattle.mover.specs.Laws.{Exact}
use Rattle.mover.proofs.Laws.{exact_held, quota_off, changed_is_freed, from_above_to_below}
use Rattle.table.specs.Table.{no_hosts, belongs, owners, shares, rearranged}
use Rattle.table.specs.Answers.{check_answer}
use Rattle.table.specs.Laws.{Sized}
use Rattle.table.proofs.Owners.{rates_positive, owners-rise, owners-none, owners_some, shares-none, shares_some, alone_on, belongs_exact}
use Rattle.table.proofs.Moves.{fits as fits-table, rearranged-belongs, fewest_moves, belonging_stays, zero_off}
use Rattle.table.proofs.Replies.{no_change}
use Rattle.events.specs.declared.Event.{Event}
use Rattle.events.specs.declared.Event.TheVariants.{Add, Drop, Rate}
use Rattle.events.specs.Events.{named, changed, change_rows, event_rows, bad_host, answer_of, roster_after, table_after}
use Rattle.events.specs.Forecasts.{host_quota, forecast_answer}
use Rattle.events.specs.Demand3.{Reached, begin, next, slots_at, StaysRight, SlotsSum, NoSmallerRatio, WithinBound, OnlyTheNamed, CountIsTrue, NoFewer, RefusedKeeps, rate_again, SameRateStays, ForecastIsTrue, ReplyFixed, ForecastFixed}
use Rattle.events.proofs.OneHost.{only_added, only_dropped, only_rerated, add_allowed, drop_allowed, rate_allowed}
use Rattle.events.proofs.Outcomes.{told_fixes, foretold_fixes, changed-sized, event_decides, accepted_check, accepted_event, named-fits, row_passed, kept_roster, kept_table, none-moved, new_roster, new_table, new_moved, forecast_refused, forecast_made}

-- every reached state is right ------------------------------------------------------------

pub record Right (S : ℕ) (r : Roster) (slots : List ℕ) : Type 0 where
  pub sized : Sized r S slots
  pub belonging : belongs r S slots ≡ true

-- an answer is 0 or it is not
by_answer : {C : Type 0} (n : ℕ) → (n ≡ 0 → C) → ((n ≡ 0 → ⊥) → C) → C
by_answer n f g = ⊎_elim f (λ p. g (λ z. omega arith)) (eq-zero-or-pos n)

pub start_right : (S : ℕ) → slots_fit S ≡ true → Right S none (replicate S 0)
unfolding belongs
start_right S fits = record {
  sized = record { valid_roster = none-valid; count_fits = fits; that_long = length-replicate {A = ℕ} S 0 };
  belonging = all_of (length (replicate S 0)) _ (λ i l. eq-eqb _ 0 (get_or-replicate {A = ℕ} S i 0 0 (rw (length-replicate {A = ℕ} S 0) at l)));
}

pub next_right : {S : ℕ} {r : Roster} {slots : List ℕ} (e : Event) → Right S r slots → Right S (roster_after r S e slots) (table_after r S e slots)
next_right {S} {r} {slots} e w =
    by_answer (answer_of r S e slots)
    (λ z. let size = changed-sized r S e slots (accepted_check r S e slots z) in
    let m = rearranged-belongs (changed r e) S slots size in
    rw (new_roster r S e slots z, new_table r S e slots z) (record {
      sized = record { valid_roster = size.valid_roster; count_fits = size.count_fits; that_long = m.0 };
      belonging = m.1;
    }))
    (λ ne. rw (kept_roster r S e slots ne, kept_table r S e slots ne) w)

pub reached_right : {S : ℕ} {r : Roster} {slots : List ℕ} → slots_fit S ≡ true → Reached S r slots → Right S r slots
reached_right {S} fits begin = start_right S fits
reached_right fits (next w e) = next_right e (reached_right fits w)

pub stays_right : StaysRight
stays_right S fits r slots w = let g = reached_right fits w in (g.sized.valid_roster, g.sized.that_long, g.belonging)

-- a share and a quota ----------------------------------------------------------------------

pub share_some : (r : Roster) (S : ℕ) → no_hosts r ≡ false → (k : ℕ) → quota_of (owners r) (shares r S) k ≡ host_quota r S k
share_some r S f k = rw (owners_some r f, shares_some r S f) refl

pub share_quota : (r : Roster) (S : ℕ) → valid r ≡ true → (k : ℕ) → 0 < k → quota_of (owners r) (shares r S) k ≡ host_quota r S k
share_quota r S v k some =
    by_test (no_hosts r)
    (λ t. rw (owners-none r t, shares-none r S t) (quota_off _ _ k (alone_on k ∙ ne_eqb k 0 (λ z. omega arith)) ∙ sym (quota_off (hosts_of r) (quotas (rates_of r) S) k (none_on t))))
    (λ f. share_some r S f k)
  where
    none_on : no_hosts r ≡ true → is_on (hosts_of r) k ≡ false
    none_on t =
        let f = facts r v in
        by_test (is_on (hosts_of r) k)
        (λ on. absurd (let p = on_place (hosts_of r) (hosts_rise r f) k on in let c = eqb-true r.count 0 t in omega (arith, length_hosts r f, p.0)))
        (λ off. off)

-- the slots of each host are its quota ------------------------------------------------------

module _ {S : ℕ} {r : Roster} {slots : List ℕ} (w : Right S r slots) where
  exact : Exact (owners r) (shares r S) slots
  exact = belongs_exact r w.sized.valid_roster S slots w.sized.that_long w.belonging

  -- every owner holds just its share
  pub held_share : (k : ℕ) → held slots k ≡ quota_of (owners r) (shares r S) k
  held_share = exact_held (owners r) (shares r S) slots (owners-rise r w.sized.valid_roster) exact

  -- which for a host number is its quota
  pub held-quota : (k : ℕ) → 0 < k → held slots k ≡ host_quota r S k
  held-quota k some = held_share k ∙ share_quota r S w.sized.valid_roster k some

  slots_are : (j : ℕ) → j < r.count → slots_at r slots j ≡ quota (rates_of r) S j
  slots_are j l =
      let f = facts r w.sized.valid_roster in
      let some : no_hosts r ≡ false = ne_eqb r.count 0 (λ z. omega arith) in
      let x : Exact (hosts_of r) (quotas (rates_of r) S) slots = subst (λ q. Exact (hosts_of r) q slots) (shares_some r S some) (subst (λ o. Exact o (shares r S) slots) (owners_some r some) exact) in
      x.full j (rw (length_hosts r f) l) ∙ at_table (length (rates_of r)) (quota (rates_of r) S) j (rw (length-rates r f) l)

pub slots-sum : SlotsSum
slots-sum S fits r slots h some =
    let w = reached_right fits h in
    let v = w.sized.valid_roster in
    let n = length-rates r (facts r v) in
    sum_ext r.count (slots_at r slots) (quota (rates_of r) S) (slots_are w)
    ∙ ap (λ m. sum m (quota (rates_of r) S)) (sym n) ∙ quota-sum (rates_of r) (rates_positive r v) (rw n some) S

pub no_smaller_ratio : NoSmallerRatio
no_smaller_ratio S fits r slots h other d i l =
    let w = reached_right fits h in
    let v = w.sized.valid_roster in
    let n = length-rates r (facts r v) in
    let m = least_greatest_ratio (rates_of r) (rates_positive r v) S other d i (rw n l) in
    (m.0, rw n at m.1, rw (slots_are w i l) m.2)

pub within_bound : WithinBound
within_bound S fits r slots h i l =
    let w = reached_right fits h in
    let v = w.sized.valid_roster in
    let n = length-rates r (facts r v) in
    rw (slots_are w i l) (subst (λ k. quota (rates_of r) S i * total (rates_of r) ≤ at (rates_of r) i * (S + k - 1)) n (bounded (rates_of r) (rates_positive r v) S i (rw n l)))

-- the count, the fewest, and refusals ----------------------------------------------------------

pub count_is_true : CountIsTrue
count_is_true S r slots e =
    by_answer (answer_of r S e slots)
    (λ z. new_moved r S e slots z ∙ ap (changes slots) (sym (new_table r S e slots z)))
    (λ ne. none-moved r S e slots ne ∙ sym (ap (changes slots) (kept_table r S e slots ne) ∙ no_change slots))

pub no_fewer : NoFewer
no_fewer S fits r slots h e z other long b =
    let size = changed-sized r S e slots (accepted_check r S e slots z) in
    rw (new_table r S e slots z) ((fewest_moves (changed r e) S slots size).1 other long (subst (λ s. belongs s S other ≡ true) (new_roster r S e slots z) b))

pub refused_keeps : RefusedKeeps
refused_keeps S r slots e ne = (kept_roster r S e slots ne, kept_table r S e slots ne, none-moved r S e slots ne)

-- a right state passes the check
checks_out : {S : ℕ} {r : Roster} {slots : List ℕ} → Right S r slots → check_answer r S slots ≡ 0
unfolding check_answer lowest
checks_out {S} {r} {slots} w = rw (w.sized.count_fits, w.sized.that_long, w.sized.valid_roster, eq-eqb S S refl, w.belonging) refl

pub same_rate_stays : SameRateStays
unfolding lowest may_rerate
same_rate_stays S fits r slots h j l =
    let w = reached_right fits h in
    let v = w.sized.valid_roster in
    let e = rate_again r j in
    let s = same_rate r v j l in
    let good = get_or-take r.count r.hosts j 0 l in
    let on : is_on (hosts_of r) (named e) ≡ true = and_right (valid r && rate_fits (at (rates_of r) j)) _ s.0 in
    let fit : host_fits (named e) ≡ true = ap host_fits good ∙ (facts r v).each_host_fits j l in
    let rows : lowest (event_rows r e) ≡ 0 = rw (fit, rate_rate_fits r (named e) (at (rates_of r) j) s.0, on) refl in
    let z = event_decides r S e slots (checks_out w) ∙ rows in
    let table : table_after r S e slots ≡ slots = new_table r S e slots z ∙ ap (λ c. rearranged c S slots) s.1 ∙ belonging_stays r S slots w.sized w.belonging in
    (z, new_roster r S e slots z ∙ s.1, table, count_is_true S r slots e ∙ ap (changes slots) table ∙ no_change slots)

-- forecasts --------------------------------------------------------------------------------------

-- in a right state only the event's own rows decide, of its forecast as of the event
same_answer : {S : ℕ} {r : Roster} {slots : List ℕ} → Right S r slots → (e : Event) (asked : ℕ) → host_fits asked ≡ true → forecast_answer r S e asked ≡ answer_of r S e slots
unfolding forecast_answer lowest
same_answer {S} {r} {slots} w e asked good =
    by_test (host_fits (named e))
    (λ t. rw (w.sized.count_fits, w.sized.valid_roster, good, t) refl)
    (λ f. rw (w.sized.count_fits, w.sized.valid_roster, f) refl)
    ∙ sym (event_decides r S e slots (checks_out w))

none_gained : (n : ℕ) → pos n -ℤ pos n ≡ pos 0
none_gained n = rw (zero-add n) at (+ℤ-neg_ℤ_cancel (pos 0) (pos n))

pub forecast_is_true : ForecastIsTrue
forecast_is_true S fits r slots h e asked good =
    let w = reached_right fits h in
    let same = same_answer w e asked good in
    let some : 0 < asked = leb-true 1 asked (and_left (leb 1 asked) _ good) in (
      same,
      by_answer (answer_of r S e slots)
          (λ z. let there : held (table_after r S e slots) asked ≡ host_quota (changed r e) S asked = held-quota (next_right e w) asked some ∙ ap (λ s. host_quota s S asked) (new_roster r S e slots z) in
          forecast_made r S e asked (same ∙ z) ∙ ap₂ (λ a b. pos a -ℤ pos b) (sym there) (sym (held-quota w asked some)))
          (λ ne. ap (λ f. f.change) (forecast_refused r S e asked (answer_of r S e slots) (sym same) ne)
          ∙ sym (ap (λ t. pos (held t asked) -ℤ pos (held slots asked)) (kept_table r S e slots ne) ∙ none_gained (held slots asked))),
    )

-- one reply ---------------------------------------------------------------------------------------

pub reply_fixed : ReplyFixed
reply_fixed S r slots e x y t u p q v w = (told_fixes x y (p ∙ sym q), v ∙ sym w)

pub forecast_fixed : ForecastFixed
forecast_fixed S r e asked x y p q = foretold_fixes x y (p ∙ sym q)

-- only the host named -----------------------------------------------------------------------------

-- a host on a valid roster has a number above 0
on_positive : (r : Roster) → valid r ≡ true → (k : ℕ) → is_on (hosts_of r) k ≡ true → 0 < k
on_positive r v k on = ⊎_elim (λ (z : k ≡ 0). never _ (subst (λ n. is_on (hosts_of r) n ≡ true) z on) (zero_off r v)) (λ p. p) (eq-zero-or-pos k)

-- a roster that lists a host has hosts
listed_some : (r : Roster) → valid r ≡ true → 0 < length (hosts_of r) → no_hosts r ≡ false
listed_some r v l = let e = length_hosts r (facts r v) in ne_eqb r.count 0 (λ z. omega arith)

-- a slot goes from g, which loses, to h, which gains: one of them is the host named
module _ {S : ℕ} {r : Roster} {slots : List ℕ} (w : Right S r slots) (g h : ℕ) where
  v : valid r ≡ true
  v = w.sized.valid_roster

  add-named : (x y : ℕ) → may_add r x y ≡ true → is_on (owners (added r x y)) h ≡ true → held slots h < quota_of (owners (added r x y)) (shares (added r x y) S) h → h ≡ x
  add-named x y may on gains =
      let s = added r x y in
      let vs = added-valid r x y v in
      let new = added_only r x y may in
      let f = facts r v in
      let p = place_in r x in
      let hp = place-fits (hosts_of r) x in
      let some : no_hosts s ≡ false = listed_some s vs (rw new.0 (rw (length_insert p x (hosts_of r) hp) (omega arith))) in
      let here : is_on (hosts_of s) h ≡ true = subst (λ o. is_on o h ≡ true) (owners_some s some) on in
      let more : host_quota r S h < host_quota s S h = subst₂ (λ a b. a < b) (held-quota w h (on_positive s vs h here)) (share_some s S some h) gains in
      let moved : host_quota s S h ≡ quota_of (insert_at p x (hosts_of r)) (quotas (insert_at p y (rates_of r)) S) h = ap₂ (λ a b. quota_of a (quotas b S) h) new.0 new.1 in
      only_added (hosts_of r) (rates_of r) S (hosts_rise r f) (length-rates r f ∙ sym (length_hosts r f)) (rates_positive r v) p x y hp
      (leb-true 1 y (and_left (leb 1 y) _ (add_rate_fits r x y may)))
      (subst Rises new.0 (hosts_rise s (facts s vs))) h (rw (← moved) more)

  drop_named : (x : ℕ) → may_drop r x ≡ true → quota_of (owners (dropped r x)) (shares (dropped r x) S) g < held slots g → g ≡ x
  drop_named x may loses =
      let s = dropped r x in
      let vs = dropped-valid r x v in
      let new = dropped_only r x may in
      let f = facts r v in
      let p = place_in r x in
      let low = drop-place r x may in
      let hp : p < length (hosts_of r) = rw (length_hosts r f) low in
      let some : no_hosts r ≡ false = listed_some r v (omega arith) in
      let old : held slots g ≡ host_quota r S g = held_share w g ∙ share_some r S some g in
      ⊎_elim
      (λ (z : g ≡ 0). absurd (let n = ap (host_quota r S) z ∙ quota_off (hosts_of r) (quotas (rates_of r) S) 0 (zero_off r v) in omega arith))
      (λ pos. let less : host_quota s S g < host_quota r S g = subst₂ (λ a b. a < b) (share_quota s S vs g pos) old loses in
      let moved : host_quota s S g ≡ quota_of (remove_at p (hosts_of r)) (quotas (remove_at p (rates_of r)) S) g = ap₂ (λ a b. quota_of a (quotas b S) g) new.0 new.1 in
      only_dropped (hosts_of r) (rates_of r) S (hosts_rise r f) (length-rates r f ∙ sym (length_hosts r f)) (rates_positive r v) p hp
      (subst Rises new.0 (hosts_rise s (facts s vs))) g (rw (← moved) less)
      ∙ drop-there r x may)
      (eq-zero-or-pos g)

  rate_named : (x y : ℕ) → may_rerate r x y ≡ true → quota_of (owners (rerated r x y)) (shares (rerated r x y) S) g < held slots g →
      held slots h < quota_of (owners (rerated r x y)) (shares (rerated r x y) S) h → (g ≡ x) ⊎ (h ≡ x)
  rate_named x y may loses gains =
      let s = rerated r x y in
      let vs = rerated-valid r x y v in
      let new = rerated_only r x y may in
      let f = facts r v in
      let p = place_in r x in
      let hp : p < length (hosts_of r) = rw (length_hosts r f) (rate_place r x y may) in
      let some : no_hosts r ≡ false = listed_some r v (omega arith) in
      let some' : no_hosts s ≡ false = listed_some s vs (rw new.0 (omega arith)) in
      let moved : (k : ℕ) → host_quota s S k ≡ quota_of (hosts_of r) (quotas (set (rates_of r) p y) S) k = λ k. ap₂ (λ a b. quota_of a (quotas b S) k) new.0 new.1 in
      let old : (k : ℕ) → held slots k ≡ host_quota r S k = λ k. held_share w k ∙ share_some r S some k in
      let there = rate_there r x y may in
      ⊎_elim (λ a. inl (a ∙ there)) (λ b. inr (b ∙ there))
      (only_rerated (hosts_of r) (rates_of r) S (hosts_rise r f) (length-rates r f ∙ sym (length_hosts r f)) (rates_positive r v) p y hp
      (leb-true 1 y (and_left (leb 1 y) _ (rate_rate_fits r x y may))) h g
      (subst₂ (λ a b. a < b) (old h) (share_some s S some' h ∙ moved h) gains)
      (subst₂ (λ a b. a < b) (share_some s S some' g ∙ moved g) (old g) loses))

  one_named : (e : Event) → answer_of r S e slots ≡ 0 → is_on (owners (changed r e)) h ≡ true →
      quota_of (owners (changed r e)) (shares (changed r e) S) g < held slots g → held slots h < quota_of (owners (changed r e)) (shares (changed r e) S) h → (g ≡ named e) ⊎ (h ≡ named e)
  one_named (Add x y) z on loses gains =
      let rows = accepted_event r S (Add x y) slots z in
      inr (add-named x y (add_allowed r v x y (named-fits r (Add x y) rows) (row_passed 4 (bad_host (Add x y)) (change_rows r (Add x y)) (omega arith) rows).1) on gains)
  one_named (Drop x) z on loses gains =
      let rows = accepted_event r S (Drop x) slots z in
      inl (drop_named x (drop_allowed r v x (row_passed 4 (bad_host (Drop x)) (change_rows r (Drop x)) (omega arith) rows).1) loses)
  one_named (Rate x y) z on loses gains =
      let rows = accepted_event r S (Rate x y) slots z in
      rate_named x y (rate_allowed r v x y (row_passed 4 (bad_host (Rate x y)) (change_rows r (Rate x y)) (omega arith) rows).1) loses gains

pub only_the_named : OnlyTheNamed
only_the_named S fits r slots h e z i l differs =
    let w = reached_right fits h in
    let s = changed r e in
    let size = changed-sized r S e slots (accepted_check r S e slots z) in
    let fit = fits-table s S slots size in
    let k : i < length slots = rw size.that_long l in
    let after : at (table_after r S e slots) i ≡ new_owner (owners s) (shares s S) slots i = ap (λ t. at t i) (new_table r S e slots z) ∙ at_table (length slots) (new_owner (owners s) (shares s S) slots) i k in
    let freed = sym ((changed_is_freed (owners s) (shares s S) slots fit).0 i k) ∙ ap not (ne_eqb _ _ (λ same. differs (same ∙ sym after))) in
    let m = from_above_to_below (owners s) (shares s S) slots fit i k freed in
    ⊎_elim (λ a. inl a) (λ b. inr (after ∙ b))
    (one_named w (at slots i) (new_owner (owners s) (shares s S) slots i) e z m.2 m.0 m.1)
