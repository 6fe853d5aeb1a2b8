-- Who owns slots and how many, with and without hosts; and that a table belongs exactly where each owner holds its share.
-- Assumes nothing.
use mathlib.Core.Path.{◌≡◌, refl, sym, ap, ◌∙◌, subst}
use mathlib.Core.Bool.{true, false}
use mathlib.Core.List.{List, [], ◌∷◌}
use Prim.Native.Nat.{ℕ, zero, suc, ◌≤◌, ◌<◌, max}
use native.Mathlib.Nat.{not-suc-le-zero, pos_of_ne-zero, le_of_eq, le_of_suc-le-suc}
use native.Mathlib.Omega.{arith}
use lib.Dec.{leb, eqb}
use lib.ListN.{length, take}
use lib.Seq.{take-suc, take_at}
use borrow.Author.Tests.{eq-eqb, eqb-true, eqb-false, leb-true}
use Rattle.base.specs.Tables.{sum, all, any, at, total}
use Rattle.base.specs.Sizes.{slots_fit}
use Rattle.base.proofs.Tests.{by_test, same_test, and_left, and_right, and_both, all-at, all_of}
use Rattle.base.proofs.Sums.{count-all}
use Rattle.base.proofs.Entries.{length-table, at_table, length-padded}
use Rattle.base.specs.Lists.{padded}
use Rattle.quota.specs.Quota.{quota, quotas, quotas_given}
use Rattle.quota.proofs.Sizes.{rates_decide}
use Rattle.quota.proofs.Given.{given_inside}
use Rattle.quota.specs.Laws.{Positive}
use Rattle.quota.proofs.Laws.{sum_is_slots}
use Rattle.roster.specs.declared.Roster.{Roster}
use Rattle.roster.specs.Roster.{hosts_of, rates_of, valid, is_on, Rises}
use Rattle.roster.proofs.Facts.{Facts, facts, length_hosts, length-rates, at-rates, hosts_rise}
use Rattle.mover.specs.Mover.{held}
use Rattle.mover.specs.Laws.{Fitting, Exact}
use Rattle.table.specs.Table.{no_hosts, belongs, known, owners, shares}

-- a roster with no hosts, and one with some --------------------------------------------

pub owners-none : (r : Roster) → no_hosts r ≡ true → owners r ≡ 0 ∷ []
unfolding owners
owners-none r t = rw t

pub owners_some : (r : Roster) → no_hosts r ≡ false → owners r ≡ hosts_of r
unfolding owners
owners_some r f = rw f

pub shares-none : (r : Roster) (S : ℕ) → no_hosts r ≡ true → shares r S ≡ S ∷ []
unfolding shares
shares-none r S t = rw t

pub shares_some : (r : Roster) (S : ℕ) → no_hosts r ≡ false → shares r S ≡ quotas (rates_of r) S
unfolding shares
shares_some r S f = rw f

-- nobody alone
alone_rise : Rises (0 ∷ [])
alone_rise i zero l k = absurd (not-suc-le-zero l)
alone_rise i (suc j) l k = absurd (omega arith)

pub alone_on : (owner : ℕ) → is_on (0 ∷ []) owner ≡ eqb owner 0
unfolding is_on any
alone_on owner =
    same_test (eqb 0 owner) (eqb owner 0)
    (λ t. eq-eqb owner 0 (sym (eqb-true 0 owner t)))
    (λ t. eq-eqb 0 owner (sym (eqb-true owner 0 t)))

module _ (r : Roster) (v : valid r ≡ true) where
  f : Facts r
  f = facts r v

  some_hosts : no_hosts r ≡ false → 0 < r.count
  some_hosts w = pos_of_ne-zero (eqb-false r.count 0 w)

  pub rates_positive : Positive (rates_of r)
  rates_positive i l =
      let h : i < r.count = rw (length-rates r f) at l in
      rw (at-rates r f i h) (leb-true 1 _ (and_left (leb 1 (at r.rates i)) _ (f.each_rate_fits i h)))

  pub owners-rise : Rises (owners r)
  owners-rise =
      by_test (no_hosts r)
      (λ t. rw (owners-none r t) alone_rise)
      (λ w. rw (owners_some r w) (hosts_rise r f))

  -- the owners stand in front of the array of numbers
  pub owners_front : owners r ≡ take (length (owners r)) r.hosts
  owners_front =
      by_test (no_hosts r)
      (λ t. rw (owners-none r t) (sym (take-suc r.hosts 0 0 (rw f.hosts_long (omega arith)) ∙ ap (λ h. h ∷ []) (f.no_host 0 (le_of_eq (eqb-true r.count 0 t))))))
      (λ w. rw (owners_some r w) (ap (λ n. take n r.hosts) (sym (length_hosts r f))))

  pub owners-few : length (owners r) ≤ 256
  owners-few =
      by_test (no_hosts r)
      (λ t. rw (owners-none r t) (omega arith))
      (λ w. rw (owners_some r w, length_hosts r f) f.few)

  pub owners-count : max r.count 1 ≡ length (owners r)
  owners-count =
      by_test (no_hosts r)
      (λ t. let none : r.count ≡ 0 = eqb-true r.count 0 t in rw (owners-none r t, none) refl)
      (λ w. let some = some_hosts w in rw (owners_some r w, length_hosts r f) (omega arith))

  pub known_owner : (owner : ℕ) → known r owner ≡ is_on (owners r) owner
  unfolding known
  known_owner owner =
      by_test (no_hosts r)
      (λ t. rw (owners-none r t, t) (sym (alone_on owner)))
      (λ w. rw (owners_some r w, w) refl)

  pub shares_each : (S : ℕ) → length (shares r S) ≡ length (owners r)
  shares_each S =
      by_test (no_hosts r)
      (λ t. rw (owners-none r t, shares-none r S t) refl)
      (λ w. rw (owners_some r w, shares_some r S w) (length-table (length (rates_of r)) (quota (rates_of r) S) ∙ length-rates r f ∙ sym (length_hosts r f)))

  pub shares-total : (S : ℕ) → total (shares r S) ≡ S
  unfolding sum
  shares-total S =
      by_test (no_hosts r)
      (λ t. rw (shares-none r S t) (omega arith))
      (λ w. rw (shares_some r S w) (sum_is_slots (rates_of r) rates_positive (rw (length-rates r f) (some_hosts w)) S))

  -- rates of a valid roster and a slot count in range are within the sizes of `quotas`
  pub shares-given : (S : ℕ) → slots_fit S ≡ true → no_hosts r ≡ false → quotas_given (rates_of r) S ≡ padded 256 (shares r S)
  shares-given S t w =
      let m = length-rates r f in
      let within = rates_decide (rates_of r) S (rw m f.few) (leb-true _ _ (and_right (leb 1 S) _ t))
      ∙ all_of (length (rates_of r)) _ (λ i l. let h : i < r.count = rw m at l in rw (at-rates r f i h) (f.each_rate_fits i h)) in
      given_inside (rates_of r) S within ∙ ap (padded 256) (sym (shares_some r S w))

  pub fitting : (S : ℕ) (slots : List ℕ) → length slots ≡ S → Fitting (owners r) (shares r S) slots
  fitting S slots e = record { rise = owners-rise; a_quota_each = shares_each S; as_many = shares-total S ∙ sym e }

  -- the fronts of the two arrays, as the code lends them
  module _ (S n : ℕ) (e : n ≡ length (owners r)) where
    pub front_owners : take n r.hosts ≡ owners r
    front_owners = ap (λ k. take k r.hosts) e ∙ sym owners_front

    pub front_rise : Rises (take n r.hosts)
    front_rise = rw front_owners owners-rise

    module _ (l : List ℕ) (given : l ≡ padded 256 (shares r S)) where
      pub front_shares : take n l ≡ shares r S
      front_shares = ap (take n) given ∙ take_at (shares r S) _ n (shares_each S ∙ sym e)

      pub shares_fit : n ≤ length l
      shares_fit = omega (arith, owners-few, ap length given ∙ length-padded 256 (shares r S) (rw (shares_each S) owners-few))

  -- a table belongs exactly where each owner holds its share ------------------------------

  pub belongs_exact : (S : ℕ) (slots : List ℕ) → length slots ≡ S → belongs r S slots ≡ true → Exact (owners r) (shares r S) slots
  unfolding belongs
  belongs_exact S slots e b =
      by_test (no_hosts r)
      (λ t. let zeros = all-at (length slots) _ (rw t at b) in
      rw (owners-none r t, shares-none r S t) (record {
        known = λ i l. alone_on (at slots i) ∙ zeros i l;
        full = λ j l. only j l (count-all (length slots) (λ i. eqb (at slots i) 0) zeros ∙ e);
      }))
      (λ w. let both = rw w at b in
      let n = length_hosts r f in
      rw (owners_some r w, shares_some r S w) (record {
        known = all-at (length slots) _ (and_left (all (length slots) (λ i. is_on (hosts_of r) (at slots i))) _ both);
        full = λ j l. let k : j < r.count = rw n at l in
            eqb-true _ _ (all-at r.count _ (and_right (all (length slots) (λ i. is_on (hosts_of r) (at slots i))) _ both) j k)
            ∙ sym (at_table (length (rates_of r)) (quota (rates_of r) S) j (rw (length-rates r f) k));
      }))
    where
      only : (j : ℕ) → j < 1 → held slots 0 ≡ S → held slots (at (0 ∷ []) j) ≡ at (S ∷ []) j
      only zero l h = h
      only (suc j) l h = absurd (not-suc-le-zero (le_of_suc-le-suc l))

  pub exact_belongs : (S : ℕ) (slots : List ℕ) → Exact (owners r) (shares r S) slots → belongs r S slots ≡ true
  unfolding belongs
  exact_belongs S slots x =
      by_test (no_hosts r)
      (λ t. rw t (all_of (length slots) _ (λ i l. sym (alone_on (at slots i)) ∙ subst (λ o. is_on o (at slots i) ≡ true) (owners-none r t) (x.known i l))))
      (λ w. let y = subst (λ o. Exact o (shares r S) slots) (owners_some r w) x in
      let z : Exact (hosts_of r) (quotas (rates_of r) S) slots = subst (λ q. Exact (hosts_of r) q slots) (shares_some r S w) y in
      rw w (and_both _ _
      (all_of (length slots) _ z.known)
      (all_of r.count _ (λ j l. eq-eqb _ _ (z.full j (rw (length_hosts r f) l) ∙ at_table (length (rates_of r)) (quota (rates_of r) S) j (rw (length-rates r f) l))))))
