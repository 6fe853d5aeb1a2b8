-- The rosters that the three changes make, array by array, are those of the definitions.
-- Assumes nothing.
use mathlib.Core.Path.{◌≡◌, refl, sym, ap, ◌∙◌, subst}
use mathlib.Core.Logic.{by_cases}
use mathlib.Core.Bool.{true}
use mathlib.Core.List.{List, [], ◌∷◌, ◌++◌}
use Prim.Native.Nat.{ℕ, suc, ◌+◌, ◌-◌, ◌≤◌, ◌<◌}
use native.Mathlib.Numerals.{add-one}
use native.Mathlib.Omega.{arith}
use native.Mathlib.Decide.{ℕ_discrete}
use lib.ListN.{length, take, set, length-set}
use lib.Seq.{ext_get_or, get_or-take, get_or-set_same, get_or-set_other}
use Rattle.base.specs.Tables.{at}
use Rattle.base.specs.Lists.{insert_at, remove_at}
use Rattle.base.proofs.Entries.{length_insert, length_remove}
use Rattle.roster.specs.declared.Roster.{Roster}
use Rattle.roster.specs.Roster.{hosts_of, rates_of, is_on}
use Rattle.roster.specs.Laws.{SameRate}
use Rattle.roster.specs.Changes.{may_add, may_drop, may_rerate, place_in, added, dropped, rerated}
use Rattle.roster.proofs.Facts.{Facts, facts, length_hosts, hosts_rise}
use Rattle.roster.proofs.Search.{place-fits, place_at, on_there}
use Rattle.roster.proofs.Changes.{add-valid, add_room, drop-valid, drop-place, rate_valid, rate_place, added_is, dropped_is, rerated_is}
use Rattle.roster.proofs.Arrays.{array_kept, array_put, array_taken, array_set}

abbrev roster : List ℕ → List ℕ → ℕ → Roster
roster hosts rates count = record { hosts = hosts; rates = rates; count = count }

-- two rosters are the same where their parts are
same_parts : {h h' v v' : List ℕ} {n n' : ℕ} → h ≡ h' → v ≡ v' → n ≡ n' → roster h v n ≡ roster h' v' n'
same_parts a b c = λ i. record { hosts = a i; rates = b i; count = c i }

module _ (r : Roster) (host rate : ℕ) (t : may_add r host rate ≡ true) where
  f : Facts r
  f = facts r (add-valid r host rate t)

  pub add-place : place_in r host ≤ r.count
  add-place = subst (λ n. place_in r host ≤ n) (length_hosts r f) (place-fits (hosts_of r) host)

  pub made_added : (p : ℕ) → p ≡ place_in r host → (hosts rates : List ℕ) →
      hosts ≡ take (length r.hosts) (insert_at p host r.hosts) → rates ≡ take (length r.rates) (insert_at p rate r.rates) →
      roster hosts rates (r.count + 1) ≡ added r host rate
  made_added p e hosts rates eh er =
      let room = add_room r host rate t in
      same_parts
      (eh ∙ ap (λ k. take (length r.hosts) (insert_at k host r.hosts)) e ∙ array_put r.hosts r.count f.hosts_long f.few f.no_host (place_in r host) host room add-place)
      (er ∙ ap (λ k. take (length r.rates) (insert_at k rate r.rates)) e
      ∙ array_put r.rates r.count f.rates_long f.few f.no_rate (place_in r host) rate room add-place)
      (add-one r.count ∙ ap suc (sym (length_hosts r f)) ∙ sym (length_insert (place_in r host) host (hosts_of r) (place-fits (hosts_of r) host)))
      ∙ sym (added_is r host rate t)

module _ (r : Roster) (host : ℕ) (t : may_drop r host ≡ true) where
  pub made_dropped : (p : ℕ) → p ≡ place_in r host → (hosts rates : List ℕ) →
      hosts ≡ remove_at p r.hosts ++ 0 ∷ [] → rates ≡ remove_at p r.rates ++ 0 ∷ [] →
      roster hosts rates (r.count - 1) ≡ dropped r host
  made_dropped p e hosts rates eh er =
      let f = facts r (drop-valid r host t) in
      let low = drop-place r host t in
      let fewer = length_remove (place_in r host) (hosts_of r) (rw (length_hosts r f) low) in
      same_parts
      (eh ∙ ap (λ k. remove_at k r.hosts ++ 0 ∷ []) e ∙ array_taken r.hosts r.count f.hosts_long f.few f.no_host (place_in r host) low)
      (er ∙ ap (λ k. remove_at k r.rates ++ 0 ∷ []) e ∙ array_taken r.rates r.count f.rates_long f.few f.no_rate (place_in r host) low)
      (let n = length_hosts r f in omega arith)
      ∙ sym (dropped_is r host t)

module _ (r : Roster) (host rate : ℕ) (t : may_rerate r host rate ≡ true) where
  pub made_rerated : (p : ℕ) → p ≡ place_in r host → roster r.hosts (set r.rates p rate) r.count ≡ rerated r host rate
  made_rerated p e =
      let f = facts r (rate_valid r host rate t) in
      same_parts
      (array_kept r.hosts r.count f.hosts_long f.few f.no_host)
      (ap (λ k. set r.rates k rate) e ∙ array_set r.rates r.count f.rates_long f.few f.no_rate (place_in r host) rate (rate_place r host rate t))
      (sym (length_hosts r f))
      ∙ sym (rerated_is r host rate t)

-- an entry set to what it is leaves the list as it was
set_self : (l : List ℕ) (p : ℕ) → p < length l → set l p (at l p) ≡ l
set_self l p h =
    ext_get_or 0 (set l p (at l p)) l (length-set l p (at l p))
    (λ i w. by_cases (ℕ_discrete i p) (λ e. rw e (get_or-set_same l p (at l p) 0 h)) (get_or-set_other l p i (at l p) 0))

pub same_rate : SameRate
unfolding may_rerate
same_rate r v i l =
    let f = facts r v in
    let hosts = hosts_of r in
    let host = at hosts i in
    let here : i < length hosts = rw (length_hosts r f) l in
    let place : place_in r host ≡ i = place_at hosts (hosts_rise r f) host i here refl in
    let on : is_on hosts host ≡ true = on_there hosts (hosts_rise r f) host (rw place here) (ap (at hosts) place) in
    let same : at (rates_of r) i ≡ at r.rates i = get_or-take r.count r.rates i 0 l in
    let may : may_rerate r host (at (rates_of r) i) ≡ true = rw (v, same, f.each_rate_fits i l, on) refl in
    (may, sym (made_rerated r host (at (rates_of r) i) may i (sym place)) ∙ ap (λ c. record { hosts = r.hosts; rates = c; count = r.count }) (ap (set r.rates i) same ∙ set_self r.rates i (omega (arith, f.rates_long, f.few, l))))
