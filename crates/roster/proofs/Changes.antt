-- The changes of a roster: each keeps it valid, and is that change and no other.
-- Assumes nothing.
use mathlib.Core.Path.{◌≡◌, refl, sym, ap, ◌∙◌}
use mathlib.Core.Bool.{Bool, true, false, ◌&&◌, not, and-false}
use mathlib.Core.Logic.{⊎_elim}
use mathlib.Core.List.{List, []}
use Prim.Native.Nat.{ℕ, suc, ◌-◌, ◌≤◌, ◌<◌, zero-le}
use native.Mathlib.Nat.{not-suc-le-zero}
use native.Mathlib.Omega.{arith}
use lib.ListN.{length, set, length-set, get_or-eq_default}
use lib.Seq.{take_at}
use borrow.Author.Tests.{not-true, ltb-true}
use Rattle.base.specs.Tables.{at}
use Rattle.base.specs.Lists.{insert_at, remove_at, skip}
use Rattle.base.specs.Sizes.{host_fits, rate_fits}
use Rattle.base.proofs.Entries.{length_insert, length_remove, at_insert_here, at_insert_skip, at_remove, every_insert, every_remove, every_set, skip-cases, skip_rises, skip-before, skip-behind, skip_order, skip-within, skip_below, alike_zeros, length-padded}
use Rattle.base.proofs.Tests.{and_left, and_right, by_test}
use Rattle.roster.specs.declared.Roster.{Roster}
use Rattle.roster.specs.Roster.{hosts_of, rates_of, valid, is_on, place, Rises}
use Rattle.roster.specs.Changes.{roster_of, may_add, may_drop, may_rerate, place_in, added, dropped, rerated}
use Rattle.roster.specs.Laws.{NoneValid, AddedValid, DroppedValid, ReratedValid, AddedOnly, DroppedOnly, ReratedOnly, NoSecondAdd, NoAbsentDrop, NoAbsentRate}
use Rattle.roster.proofs.Facts.{facts, facts_valid, length_hosts, length-rates, at_hosts, at-rates, hosts_rise}
use Rattle.roster.proofs.Search.{place-fits, before-place, from_place_off, on_place}

-- a roster made of two lists ---------------------------------------------------------

-- what two lists must be for their roster to be valid
pub record Sound (hosts rates : List ℕ) : Type 0 where
  pub few : length hosts ≤ 256
  pub as_many : length rates ≡ length hosts
  pub hosts_fit : (i : ℕ) → i < length hosts → host_fits (at hosts i) ≡ true
  pub rates_fit : (i : ℕ) → i < length rates → rate_fits (at rates i) ≡ true
  pub rise : Rises hosts

pub sound_valid : (hosts rates : List ℕ) → Sound hosts rates → valid (roster_of hosts rates) ≡ true
sound_valid hosts rates s =
    let same-hosts = alike_zeros (256 - length hosts) hosts in
    let same-rates = alike_zeros (256 - length rates) rates in
    facts_valid (roster_of hosts rates) (record {
      hosts_long = length-padded 256 hosts s.few;
      rates_long = length-padded 256 rates (rw s.as_many s.few);
      few = s.few;
      each_host_fits = λ i l. rw (same-hosts i) (s.hosts_fit i l);
      each_rate_fits = λ i l. rw (same-rates i) (s.rates_fit i (rw s.as_many l));
      rises = λ i l. rw (same-hosts i, same-hosts (suc i)) (s.rise i (suc i) (omega arith) l);
      no_host = λ i h. same-hosts i ∙ get_or-eq_default hosts 0 h;
      no_rate = λ i h. same-rates i ∙ get_or-eq_default rates 0 (rw s.as_many h);
    })

-- and the lists are found in it again
pub hosts_of_roster : (hosts rates : List ℕ) → hosts_of (roster_of hosts rates) ≡ hosts
hosts_of_roster hosts rates = take_at hosts _ (length hosts) refl

pub rates_of_roster : (hosts rates : List ℕ) → length rates ≡ length hosts → rates_of (roster_of hosts rates) ≡ rates
rates_of_roster hosts rates e = take_at rates _ (length hosts) e

-- a valid roster's own lists
valid_sound : (r : Roster) → valid r ≡ true → Sound (hosts_of r) (rates_of r)
valid_sound r t =
    let f = facts r t in
    let n = length_hosts r f in
    let m = length-rates r f in
    record {
      few = rw n f.few;
      as_many = m ∙ sym n;
      hosts_fit = λ i l. let h : i < r.count = rw n at l in rw (at_hosts r f i h) (f.each_host_fits i h);
      rates_fit = λ i l. let h : i < r.count = rw m at l in rw (at-rates r f i h) (f.each_rate_fits i h);
      rise = hosts_rise r f;
    }

-- rising numbers stay so ---------------------------------------------------------------

insert_rises : (hosts : List ℕ) (host : ℕ) → Rises hosts → is_on hosts host ≡ false → Rises (insert_at (place hosts host) host hosts)
insert_rises hosts host rises off i j l k =
    ⊎_elim
    (λ (ei : i ≡ p). ⊎_elim (λ (ej : j ≡ p). absurd (omega arith)) (λ b. rw ei (rw (here, ← b.1) (rw (there b.0) (higher b.0 (rw b.1 k) (rw (b.1, ← ei) l))))) (skip-cases p j))
    (λ a. ⊎_elim
    (λ (ej : j ≡ p). rw ej (rw (here, ← a.1) (rw (there a.0) (before-place hosts rises host a.0 (skip-before p a.0 (rw (a.1, ← ej) l))))))
    (λ b. rw (← a.1, ← b.1) (rw (there a.0, there b.0) (rises a.0 b.0 (skip_order p a.0 b.0 (rw (a.1, b.1) l)) (low b.0 (rw b.1 k)))))
    (skip-cases p j))
    (skip-cases p i)
  where
    p : ℕ
    p = place hosts host

    within : p ≤ length hosts
    within = place-fits hosts host

    here : at (insert_at p host hosts) p ≡ host
    here = at_insert_here p host hosts within

    there : (m : ℕ) → at (insert_at p host hosts) (skip p m) ≡ at hosts m
    there = at_insert_skip p host hosts within

    low : (m : ℕ) → skip p m < length (insert_at p host hosts) → m < length hosts
    low m h = skip_below p (length hosts) m within (rw (length_insert p host hosts within) at h)

    higher : (m : ℕ) → skip p m < length (insert_at p host hosts) → p < skip p m → host < at hosts m
    higher m h w = from_place_off hosts rises host off m (low m h) (skip-behind p m w)

remove_rises : (hosts : List ℕ) (p : ℕ) → p < length hosts → Rises hosts → Rises (remove_at p hosts)
remove_rises hosts p h rises i j l k =
    rw (at_remove p hosts h i, at_remove p hosts h j)
    (rises (skip p i) (skip p j) (skip_rises p i j l) (rw (← length_remove p hosts h) (skip-within p (length (remove_at p hosts)) j k)))

-- the lists after a change ---------------------------------------------------------------

-- what may be added, dropped or given a rate, as facts
module _ (r : Roster) (host rate : ℕ) (t : may_add r host rate ≡ true) where
  ready : (valid r && host_fits host && rate_fits rate && not (is_on (hosts_of r) host)) ≡ true
  unfolding may_add
  ready = and_left (valid r && host_fits host && rate_fits rate && not (is_on (hosts_of r) host)) _ t

  pub add-valid : valid r ≡ true
  add-valid = and_left (valid r) _ (and_left (valid r && host_fits host) _ (and_left (valid r && host_fits host && rate_fits rate) _ ready))

  pub add-host-fits : host_fits host ≡ true
  add-host-fits = and_right (valid r) _ (and_left (valid r && host_fits host) _ (and_left (valid r && host_fits host && rate_fits rate) _ ready))

  pub add_rate_fits : rate_fits rate ≡ true
  add_rate_fits = and_right (valid r && host_fits host) _ (and_left (valid r && host_fits host && rate_fits rate) _ ready)

  pub add_off : is_on (hosts_of r) host ≡ false
  add_off = not-true _ (and_right (valid r && host_fits host && rate_fits rate) _ ready)

  pub add_room : r.count < 256
  unfolding may_add
  add_room = ltb-true _ _ (and_right (valid r && host_fits host && rate_fits rate && not (is_on (hosts_of r) host)) _ t)

  pub add_sound : Sound (insert_at (place_in r host) host (hosts_of r)) (insert_at (place_in r host) rate (rates_of r))
  add_sound =
      let f = facts r add-valid in
      let s = valid_sound r add-valid in
      let p = place_in r host in
      let hp : p ≤ length (hosts_of r) = place-fits (hosts_of r) host in
      let rp : p ≤ length (rates_of r) = rw s.as_many hp in
      let eh = length_insert p host (hosts_of r) hp in
      let er = length_insert p rate (rates_of r) rp in
      record {
        few = omega (arith, length_hosts r f, add_room);
        as_many = omega (arith, s.as_many);
        hosts_fit = every_insert (λ v. host_fits v ≡ true) p host (hosts_of r) hp add-host-fits s.hosts_fit;
        rates_fit = every_insert (λ v. rate_fits v ≡ true) p rate (rates_of r) rp add_rate_fits s.rates_fit;
        rise = insert_rises (hosts_of r) host s.rise add_off;
      }

module _ (r : Roster) (host : ℕ) (t : may_drop r host ≡ true) where
  pub drop-valid : valid r ≡ true
  unfolding may_drop
  drop-valid = and_left (valid r) _ t

  -- the host stands at its place
  pub drop-place : place_in r host < r.count
  unfolding may_drop
  drop-place = let f = facts r drop-valid in rw (length_hosts r f) at (on_place (hosts_of r) (hosts_rise r f) host (and_right (valid r) _ t)).0

  -- and nobody else does
  pub drop-there : at (hosts_of r) (place_in r host) ≡ host
  unfolding may_drop
  drop-there = let f = facts r drop-valid in (on_place (hosts_of r) (hosts_rise r f) host (and_right (valid r) _ t)).1

  pub drop_sound : Sound (remove_at (place_in r host) (hosts_of r)) (remove_at (place_in r host) (rates_of r))
  drop_sound =
      let f = facts r drop-valid in
      let s = valid_sound r drop-valid in
      let p = place_in r host in
      let hp : p < length (hosts_of r) = rw (length_hosts r f) drop-place in
      let rp : p < length (rates_of r) = rw (length-rates r f) drop-place in
      let eh = length_remove p (hosts_of r) hp in
      let er = length_remove p (rates_of r) rp in
      record {
        few = omega (arith, s.few);
        as_many = omega (arith, s.as_many);
        hosts_fit = every_remove (λ v. host_fits v ≡ true) p (hosts_of r) hp s.hosts_fit;
        rates_fit = every_remove (λ v. rate_fits v ≡ true) p (rates_of r) rp s.rates_fit;
        rise = remove_rises (hosts_of r) p hp s.rise;
      }

module _ (r : Roster) (host rate : ℕ) (t : may_rerate r host rate ≡ true) where
  pub rate_valid : valid r ≡ true
  unfolding may_rerate
  rate_valid = and_left (valid r) _ (and_left (valid r && rate_fits rate) _ t)

  pub rate_place : place_in r host < r.count
  unfolding may_rerate
  rate_place = let f = facts r rate_valid in rw (length_hosts r f) at (on_place (hosts_of r) (hosts_rise r f) host (and_right (valid r && rate_fits rate) _ t)).0

  pub rate_there : at (hosts_of r) (place_in r host) ≡ host
  unfolding may_rerate
  rate_there = let f = facts r rate_valid in (on_place (hosts_of r) (hosts_rise r f) host (and_right (valid r && rate_fits rate) _ t)).1

  pub rate_rate_fits : rate_fits rate ≡ true
  unfolding may_rerate
  rate_rate_fits = and_right (valid r) _ (and_left (valid r && rate_fits rate) _ t)

  pub rate_sound : Sound (hosts_of r) (set (rates_of r) (place_in r host) rate)
  unfolding may_rerate
  rate_sound =
      let s = valid_sound r rate_valid in
      record {
        few = s.few;
        as_many = length-set (rates_of r) _ rate ∙ s.as_many;
        hosts_fit = s.hosts_fit;
        rates_fit = every_set (λ v. rate_fits v ≡ true) (rates_of r) (place_in r host) rate rate_rate_fits s.rates_fit;
        rise = s.rise;
      }

-- what a change gives --------------------------------------------------------------------

pub added_is : (r : Roster) (host rate : ℕ) → may_add r host rate ≡ true → added r host rate ≡ roster_of (insert_at (place_in r host) host (hosts_of r)) (insert_at (place_in r host) rate (rates_of r))
unfolding added
added_is r host rate t = rw t

pub added_not : (r : Roster) (host rate : ℕ) → may_add r host rate ≡ false → added r host rate ≡ r
unfolding added
added_not r host rate f = rw f

pub dropped_is : (r : Roster) (host : ℕ) → may_drop r host ≡ true → dropped r host ≡ roster_of (remove_at (place_in r host) (hosts_of r)) (remove_at (place_in r host) (rates_of r))
unfolding dropped
dropped_is r host t = rw t

pub dropped_not : (r : Roster) (host : ℕ) → may_drop r host ≡ false → dropped r host ≡ r
unfolding dropped
dropped_not r host f = rw f

pub rerated_is : (r : Roster) (host rate : ℕ) → may_rerate r host rate ≡ true → rerated r host rate ≡ roster_of (hosts_of r) (set (rates_of r) (place_in r host) rate)
unfolding rerated
rerated_is r host rate t = rw t

pub rerated_not : (r : Roster) (host rate : ℕ) → may_rerate r host rate ≡ false → rerated r host rate ≡ r
unfolding rerated
rerated_not r host rate f = rw f

-- the laws ---------------------------------------------------------------------------------

pub none-valid : NoneValid
none-valid = sound_valid [] [] (record {
  few = zero-le;
  as_many = refl;
  hosts_fit = λ i l. absurd (not-suc-le-zero l);
  rates_fit = λ i l. absurd (not-suc-le-zero l);
  rise = λ i j l k. absurd (not-suc-le-zero k);
})

-- a change that is made is sound, and one that is not leaves the roster
kept_valid : {r s n : Roster} (b : Bool) → valid r ≡ true → (b ≡ true → n ≡ s) → (b ≡ false → n ≡ r) → (b ≡ true → valid s ≡ true) → valid n ≡ true
kept_valid {r} {s} {n} b v made left sound = by_test b (λ t. ap valid (made t) ∙ sound t) (λ f. ap valid (left f) ∙ v)

pub added-valid : AddedValid
added-valid r host rate v =
    kept_valid (may_add r host rate) v (added_is r host rate) (added_not r host rate) (λ t. sound_valid _ _ (add_sound r host rate t))

pub dropped-valid : DroppedValid
dropped-valid r host v =
    kept_valid (may_drop r host) v (dropped_is r host) (dropped_not r host) (λ t. sound_valid _ _ (drop_sound r host t))

pub rerated-valid : ReratedValid
rerated-valid r host rate v =
    kept_valid (may_rerate r host rate) v (rerated_is r host rate) (rerated_not r host rate) (λ t. sound_valid _ _ (rate_sound r host rate t))

-- a roster made of two lists has just those
lists_of : {n : Roster} (hosts rates : List ℕ) → n ≡ roster_of hosts rates → Sound hosts rates → (hosts_of n ≡ hosts) × (rates_of n ≡ rates)
lists_of hosts rates e s = (ap hosts_of e ∙ hosts_of_roster hosts rates, ap rates_of e ∙ rates_of_roster hosts rates s.as_many)

pub added_only : AddedOnly
added_only r host rate t = lists_of _ _ (added_is r host rate t) (add_sound r host rate t)

pub dropped_only : DroppedOnly
dropped_only r host t = lists_of _ _ (dropped_is r host t) (drop_sound r host t)

pub rerated_only : ReratedOnly
rerated_only r host rate t = lists_of _ _ (rerated_is r host rate t) (rate_sound r host rate t)

pub no_second_add : NoSecondAdd
unfolding may_add
no_second_add r host rate on =
    let f : may_add r host rate ≡ false = rw (on, and-false (valid r && host_fits host && rate_fits rate)) in
    (f, added_not r host rate f)

pub no_absent_drop : NoAbsentDrop
unfolding may_drop
no_absent_drop r host off =
    let f : may_drop r host ≡ false = rw (off, and-false (valid r)) in
    (f, dropped_not r host f)

pub no_absent_rate : NoAbsentRate
unfolding may_rerate
no_absent_rate r host rate off =
    let f : may_rerate r host rate ≡ false = rw (off, and-false (valid r && rate_fits rate)) in
    (f, rerated_not r host rate f)
