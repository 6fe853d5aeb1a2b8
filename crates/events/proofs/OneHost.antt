-- Every slot that changes owner leaves or joins the host that the event names: a slot moves from a host that loses to one that gains,
-- and the quotas move one way only, but for that host's. Assumes nothing.
use mathlib.Core.Path.{◌≡◌, sym, ap, ◌∙◌, subst}
use mathlib.Core.Bool.{true, false, not}
use mathlib.Core.Logic.{◌⊎◌, inl, inr, ⊎_elim, by_cases}
use mathlib.Core.List.{List}
use Prim.Native.Nat.{ℕ, suc, ◌≤◌, ◌<◌}
use native.Mathlib.Nat.{le_of_lt, lt_of_not-le}
use native.Mathlib.Numerals.{lt_of_le_of_ne}
use native.Mathlib.Omega.{arith}
use native.Mathlib.Decide.{dec_le, ℕ_discrete}
use lib.Dec.{eqb}
use lib.ListN.{length, set, length-set}
use borrow.Author.Tests.{lt-ltb, eqb-false, not-false}
use Rattle.base.specs.Rows.{lowest}
use Rattle.base.specs.Sizes.{host_fits, rate_fits}
use Rattle.base.specs.Tables.{at}
use Rattle.base.specs.Lists.{insert_at, remove_at, skip}
use Rattle.base.proofs.Entries.{at_table, at_insert_here, at_insert_skip, length_insert, at_remove, length_remove, skip-cases, skip_below}
use Rattle.base.proofs.Tests.{by_test}
use Rattle.quota.specs.Quota.{quota, quotas}
use Rattle.quota.specs.Laws.{Positive}
use Rattle.quota.proofs.Laws.{add-takes, drop_gives, rise-takes, fall_gives}
use Rattle.roster.specs.declared.Roster.{Roster}
use Rattle.roster.specs.Roster.{hosts_of, valid, is_on, place, Rises}
use Rattle.roster.specs.Changes.{may_add, may_drop, may_rerate}
use Rattle.roster.proofs.Facts.{facts}
use Rattle.roster.proofs.Search.{on_place}
use Rattle.mover.specs.Mover.{quota_of}
use Rattle.mover.proofs.Laws.{quota_off, quota-host}
use Rattle.events.specs.declared.Event.TheVariants.{Add, Drop, Rate}
use Rattle.events.specs.Events.{change_rows}
use Rattle.events.proofs.Outcomes.{row_passed}

-- a quota by the host's place -------------------------------------------------------------------

-- a list of hosts and the quotas of their rates
abbrev quota_in : List ℕ → List ℕ → ℕ → ℕ → ℕ
quota_in hosts rates S k = quota_of hosts (quotas rates S) k

quota-at : (hosts rates : List ℕ) (S : ℕ) → Rises hosts → length rates ≡ length hosts → (j k : ℕ) → j < length hosts → at hosts j ≡ k → quota_in hosts rates S k ≡ quota rates S j
quota-at hosts rates S rises e j k l h =
    ap (quota_in hosts rates S) (sym h) ∙ quota-host hosts (quotas rates S) rises j l ∙ at_table (length rates) (quota rates S) j (rw e l)

-- a host with a quota stands somewhere on the list
place_of : (hosts rates : List ℕ) (S : ℕ) → Rises hosts → (k : ℕ) → 0 < quota_in hosts rates S k → (j : ℕ) × (j < length hosts) × (at hosts j ≡ k)
place_of hosts rates S rises k some =
    let on : is_on hosts k ≡ true = by_test (is_on hosts k) (λ t. t) (λ f. absurd (let z = quota_off hosts (quotas rates S) k f in omega arith)) in
    let p = on_place hosts rises k on in
    (place hosts k, p.0, p.1)

-- who gains and who loses, on lists ----------------------------------------------------------------

module _ (hosts rates : List ℕ) (S : ℕ) (rises : Rises hosts) (e : length rates ≡ length hosts) (pos : Positive rates) where
  -- a host is added: only it gains
  pub only_added : (p x v : ℕ) → p ≤ length hosts → 0 < v → Rises (insert_at p x hosts) → (k : ℕ) → quota_in hosts rates S k < quota_in (insert_at p x hosts) (insert_at p v rates) S k → k ≡ x
  only_added p x v hp some rises' k gains =
      let e' : length (insert_at p v rates) ≡ length (insert_at p x hosts) = length_insert p v rates (rw e hp) ∙ ap suc e ∙ sym (length_insert p x hosts hp) in
      let m = place_of (insert_at p x hosts) (insert_at p v rates) S rises' k (omega arith) in
      ⊎_elim
      (λ (h : m.0 ≡ p). sym m.2 ∙ ap (at (insert_at p x hosts)) h ∙ at_insert_here p x hosts hp)
      (λ o. let j = o.0 in
      let low : skip p j < length (insert_at p x hosts) = rw o.1 m.1 in
      let l : j < length hosts = skip_below p (length hosts) j hp (rw (length_insert p x hosts hp) at low) in
      let here : at (insert_at p x hosts) (skip p j) ≡ k = ap (at (insert_at p x hosts)) o.1 ∙ m.2 in
      let old = quota-at hosts rates S rises e j k l (sym (at_insert_skip p x hosts hp j) ∙ here) in
      let new = quota-at (insert_at p x hosts) (insert_at p v rates) S rises' e' (skip p j) k low here in
      absurd (let t = add-takes rates pos p v (rw e hp) some S j (rw e l) in omega arith))
      (skip-cases p m.0)

  -- a host is dropped: only it loses
  pub only_dropped : (p : ℕ) → p < length hosts → Rises (remove_at p hosts) → (k : ℕ) → quota_in (remove_at p hosts) (remove_at p rates) S k < quota_in hosts rates S k → k ≡ at hosts p
  only_dropped p hp rises' k loses =
      let fewer = length_remove p hosts hp in
      let e' : length (remove_at p rates) ≡ length (remove_at p hosts) = omega (arith, length_remove p rates (rw e hp)) in
      let m = place_of hosts rates S rises k (omega arith) in
      ⊎_elim
      (λ (h : m.0 ≡ p). sym m.2 ∙ ap (at hosts) h)
      (λ o. let j = o.0 in
      let l : j < length (remove_at p hosts) = skip_below p (length (remove_at p hosts)) j (omega arith) (rw (o.1, fewer) m.1) in
      let here : at hosts (skip p j) ≡ k = ap (at hosts) o.1 ∙ m.2 in
      let old = quota-at hosts rates S rises e (skip p j) k (rw o.1 m.1) here in
      let new = quota-at (remove_at p hosts) (remove_at p rates) S rises' e' j k l (at_remove p hosts hp j ∙ here) in
      absurd (let t = drop_gives rates pos p (rw e hp) S j (rw e' l) in omega arith))
      (skip-cases p m.0)

  -- a host's rate changes: only it gains where it rises, only it loses where it falls
  pub only_rerated : (p v : ℕ) → p < length hosts → 0 < v → (k : ℕ) (g : ℕ) →
      quota_in hosts rates S k < quota_in hosts (set rates p v) S k → quota_in hosts (set rates p v) S g < quota_in hosts rates S g → (g ≡ at hosts p) ⊎ (k ≡ at hosts p)
  only_rerated p v hp some k g gains loses =
      let e' : length (set rates p v) ≡ length hosts = length-set rates p v ∙ e in
      by_cases (dec_le (at rates p) v)
      (λ up. let m = place_of hosts (set rates p v) S rises k (omega arith) in
      by_cases (ℕ_discrete m.0 p)
      (λ h. inr (sym m.2 ∙ ap (at hosts) h))
      (λ ne. absurd (let t = rise-takes rates pos p v (rw e hp) up S m.0 (subst (λ n. m.0 < n) (sym e) m.1) ne in
      omega (arith, quota-at hosts rates S rises e m.0 k m.1 m.2, quota-at hosts (set rates p v) S rises e' m.0 k m.1 m.2))))
      (λ w. let down : v ≤ at rates p = le_of_lt (lt_of_not-le w) in
      let m = place_of hosts rates S rises g (omega arith) in
      by_cases (ℕ_discrete m.0 p)
      (λ h. inl (sym m.2 ∙ ap (at hosts) h))
      (λ ne. absurd (let t = fall_gives rates pos p v (rw e hp) some down S m.0 (subst (λ n. m.0 < n) (sym e) m.1) ne in
      omega (arith, quota-at hosts rates S rises e m.0 g m.1 m.2, quota-at hosts (set rates p v) S rises e' m.0 g m.1 m.2))))

-- what an event that passes its rows has ------------------------------------------------------------

module _ (r : Roster) (v : valid r ≡ true) where
  -- an add whose rows do not hold is allowed, and so are a drop and a new rate
  pub add_allowed : (x y : ℕ) → host_fits x ≡ true → lowest (change_rows r (Add x y)) ≡ 0 → may_add r x y ≡ true
  unfolding may_add
  add_allowed x y fits z =
      let five = row_passed 5 (not (rate_fits y)) _ (omega arith) z in
      let six = row_passed 6 false _ (omega arith) five.1 in
      let seven = row_passed 7 (is_on (hosts_of r) x) _ (omega arith) six.1 in
      let eight = row_passed 8 (eqb r.count 256) _ (omega arith) seven.1 in
      let few = (facts r v).few in
      let ne = eqb-false r.count 256 eight.0 in
      rw (v, fits, not-false (rate_fits y) five.0, seven.0, lt-ltb r.count 256 (lt_of_le_of_ne few ne))

  pub drop_allowed : (x : ℕ) → lowest (change_rows r (Drop x)) ≡ 0 → may_drop r x ≡ true
  unfolding may_drop
  drop_allowed x z =
      let five = row_passed 5 false _ (omega arith) z in
      let six = row_passed 6 (not (is_on (hosts_of r) x)) _ (omega arith) five.1 in
      rw (v, not-false (is_on (hosts_of r) x) six.0)

  pub rate_allowed : (x y : ℕ) → lowest (change_rows r (Rate x y)) ≡ 0 → may_rerate r x y ≡ true
  unfolding may_rerate
  rate_allowed x y z =
      let five = row_passed 5 (not (rate_fits y)) _ (omega arith) z in
      let six = row_passed 6 (not (is_on (hosts_of r) x)) _ (omega arith) five.1 in
      rw (v, not-false (rate_fits y) five.0, not-false (is_on (hosts_of r) x) six.0)
