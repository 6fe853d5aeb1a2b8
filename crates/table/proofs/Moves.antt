-- The laws of a roster's table: the mover's laws, for the owners and shares of a valid roster.
-- Assumes nothing.
use mathlib.Core.Path.{◌≡◌, sym, ap, ◌∙◌, subst}
use mathlib.Core.Bool.{true, false, cond}
use mathlib.Core.List.{List, append-nil}
use Prim.Native.Nat.{ℕ, ◌≤◌, ◌<◌}
use native.Mathlib.Nat.{lt_trans}
use native.Mathlib.Omega.{arith}
use lib.Dec.{leb}
use lib.ListN.{length, replicate, length-replicate, get_or-replicate}
use lib.Seq.{ext_get_or}
use borrow.Author.Tests.{le-leb, leb-true, eq-eqb, ne_eqb, eqb-true}
use Rattle.base.specs.Tables.{at}
use Rattle.base.proofs.Sums.{count-all, count_none}
use Rattle.base.proofs.Entries.{is_table, length-table, at_table}
use Rattle.base.proofs.Tests.{by_test, never, and_left, all-at, all_of}
use Rattle.roster.specs.declared.Roster.{Roster}
use Rattle.roster.specs.Roster.{valid, is_on, place, hosts_of}
use Rattle.roster.proofs.Facts.{facts, length_hosts, at_hosts, hosts_rise}
use Rattle.roster.proofs.Search.{on_place}
use Rattle.mover.specs.Mover.{held, held_below, freed, freed_below, lack, lacks, runs, receivers, new_owner, moved}
use Rattle.mover.specs.Laws.{Fitting}
use Rattle.mover.proofs.Laws.{freed_is_lacking, moved_is_exact, changed_is_freed, fewest_changes, exact_none_freed, none-freed-same, none_freed_exact, quota_off, host_on}
use Rattle.mover.proofs.Runs.{runs-length}
use Rattle.table.specs.Table.{no_hosts, belongs, owners, shares, fresh, rearranged, freed_slots}
use Rattle.table.specs.Laws.{Sized, FreshBelongs, RearrangedBelongs, NoHostsZero, FewestMoves, FreedIsLacked, BelongingStays}
use Rattle.table.proofs.Owners.{owners-none, owners_some, shares-none, fitting, belongs_exact, exact_belongs}

module _ (r : Roster) (S : ℕ) (slots : List ℕ) (z : Sized r S slots) where
  pub fits : Fitting (owners r) (shares r S) slots
  fits = fitting r z.valid_roster S slots z.that_long

  -- a table belongs exactly where no slot is freed
  pub belongs-none-freed : belongs r S slots ≡ true → freed_slots r S slots ≡ 0
  belongs-none-freed b = exact_none_freed (owners r) (shares r S) slots fits (belongs_exact r z.valid_roster S slots z.that_long b)

  pub none-freed-belongs : freed_slots r S slots ≡ 0 → belongs r S slots ≡ true
  none-freed-belongs e = exact_belongs r z.valid_roster S slots (none_freed_exact (owners r) (shares r S) slots fits e)

pub freed_is_lacked : FreedIsLacked
freed_is_lacked r S slots z = freed_is_lacking (owners r) (shares r S) slots (fits r S slots z)

pub rearranged-belongs : RearrangedBelongs
rearranged-belongs r S slots z =
    let m = moved_is_exact (owners r) (shares r S) slots (fits r S slots z) in
    (m.0 ∙ z.that_long, exact_belongs r z.valid_roster S _ m.1)

pub fewest_moves : FewestMoves
fewest_moves r S slots z = (
  (changed_is_freed (owners r) (shares r S) slots (fits r S slots z)).1,
  λ other e b. fewest_changes (owners r) (shares r S) slots other (fits r S slots z) (e ∙ sym z.that_long) (belongs_exact r z.valid_roster S other e b),
)

pub belonging_stays : BelongingStays
belonging_stays r S slots z b = sym (none-freed-same (owners r) (shares r S) slots (belongs-none-freed r S slots z b))

-- a list of zeros is told by its length and entries
all-zero : (l : List ℕ) (S : ℕ) → length l ≡ S → ((i : ℕ) → i < S → at l i ≡ 0) → l ≡ replicate S 0
all-zero l S e h = ext_get_or 0 l (replicate S 0) (e ∙ sym (length-replicate {A = ℕ} S 0)) (λ i w. let v : i < S = rw e at w in h i v ∙ sym (get_or-replicate {A = ℕ} S i 0 0 v))

pub no_hosts_zero : NoHostsZero
unfolding belongs
no_hosts_zero r S slots z t =
    let m = rearranged-belongs r S slots z in
    let zeros = all-at (length (rearranged r S slots)) _ (rw t at m.1) in
    all-zero (rearranged r S slots) S m.0 (λ i l. eqb-true _ _ (zeros i (rw m.0 l)))

-- from a table of zeros the hosts get their quotas in a row ---------------------------------

abbrev blank : ℕ → List ℕ
blank S = replicate S 0

-- where 0 is none of the hosts, zeros are all freed
module _ (hosts quotas : List ℕ) (S : ℕ) (w : Fitting hosts quotas (blank S)) (off : is_on hosts 0 ≡ false) where
  zero-at : (i : ℕ) → i < S → at (blank S) i ≡ 0
  zero-at i l = get_or-replicate {A = ℕ} S i 0 0 l

  all-freed : (i : ℕ) → i < S → freed hosts quotas (blank S) i ≡ true
  all-freed i l = rw (zero-at i l) (rw (quota_off hosts quotas 0 off) (le-leb 0 (held_below (blank S) i 0) (omega arith)))

  -- no host holds a slot, so each lacks its quota
  all_lacking : quotas ≡ lacks hosts quotas (blank S)
  all_lacking =
      is_table quotas (length hosts) (lack hosts quotas (blank S)) w.a_quota_each
      (λ j l. let none : held (blank S) (at hosts j) ≡ 0 = count_none (length (blank S)) _ (λ i v.
      ne_eqb (at (blank S) i) (at hosts j) (λ e. never _ (subst (λ h. is_on hosts h ≡ true) (sym (sym (zero-at i (rw (length-replicate {A = ℕ} S 0) at v)) ∙ e)) (host_on hosts w.rise j l)) off)) in
      omega arith)

  runs_of_zeros : moved hosts quotas (blank S) ≡ runs hosts quotas
  runs_of_zeros =
      let long = length-replicate {A = ℕ} S 0 in
      ext_get_or 0 _ (runs hosts quotas)
      (length-table (length (blank S)) _ ∙ sym (runs-length hosts quotas w.a_quota_each ∙ w.as_many))
      (λ i v. let l : i < S = rw (length-table (length (blank S)) (new_owner hosts quotas (blank S)), long) at v in
      at_table (length (blank S)) (new_owner hosts quotas (blank S)) i (rw long l)
      ∙ ap (λ b. cond b (at (receivers hosts quotas (blank S)) (freed_below hosts quotas (blank S) i)) (at (blank S) i)) (all-freed i l)
      ∙ ap (at (receivers hosts quotas (blank S))) (count-all i (freed hosts quotas (blank S)) (λ k h. all-freed k (lt_trans h l)))
      ∙ ap (λ t. at (runs hosts t) i) (sym all_lacking))

-- 0 is no host's number
pub zero_off : (r : Roster) → valid r ≡ true → is_on (hosts_of r) 0 ≡ false
zero_off r v =
    let f = facts r v in
    by_test (is_on (hosts_of r) 0)
    (λ t. let on = on_place (hosts_of r) (hosts_rise r f) 0 t in
    let l : place (hosts_of r) 0 < r.count = rw (length_hosts r f) at on.0 in
    absurd (let some : 1 ≤ at r.hosts (place (hosts_of r) 0) = leb-true 1 _ (and_left (leb 1 (at r.hosts (place (hosts_of r) 0))) _ (f.each_host_fits (place (hosts_of r) 0) l)) in omega (arith, on.1, at_hosts r f (place (hosts_of r) 0) l)))
    (λ w. w)

-- a table of zeros is as good as the one that was there
pub blank_sized : {r : Roster} {S : ℕ} {slots : List ℕ} → Sized r S slots → Sized r S (replicate S 0)
blank_sized {r} {S} z = record { valid_roster = z.valid_roster; count_fits = z.count_fits; that_long = length-replicate {A = ℕ} S 0 }

pub fresh-moved : (r : Roster) (S : ℕ) → Sized r S (replicate S 0) → rearranged r S (replicate S 0) ≡ fresh r S
unfolding belongs runs
fresh-moved r S z =
    by_test (no_hosts r)
    (λ t. let zeros = all_of (length (replicate S 0)) _ (λ i l. eq-eqb (at (replicate S 0) i) 0 (get_or-replicate {A = ℕ} S i 0 0 (rw (length-replicate {A = ℕ} S 0) at l))) in
    belonging_stays r S (replicate S 0) z (rw t zeros) ∙ rw (owners-none r t, shares-none r S t) (sym (append-nil (replicate S 0))))
    (λ f. runs_of_zeros (owners r) (shares r S) S (fits r S (replicate S 0) z) (rw (owners_some r f) (zero_off r z.valid_roster)))

pub fresh-belongs : FreshBelongs
fresh-belongs r S slots z =
    let start = blank_sized z in
    let m = rearranged-belongs r S (replicate S 0) start in
    let e = fresh-moved r S start in
    (ap length (sym e) ∙ m.0, ap (belongs r S) (sym e) ∙ m.1)
