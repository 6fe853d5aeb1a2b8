-- The laws of a move, each from the pass.
-- Assumes nothing.
use mathlib.Core.Path.{◌≡◌, refl, sym, ap, ◌∙◌, subst}
use mathlib.Core.Bool.{true, false, not, cond}
use mathlib.Core.List.{List}
use Prim.Native.Nat.{ℕ, ◌-◌, ◌<◌}
use native.Mathlib.Nat.{le_of_eq}
use native.Mathlib.Omega.{arith}
use lib.Dec.{eqb}
use lib.ListN.{length, take}
use lib.Seq.{take_all}
use borrow.Author.Tests.{leb-true, leb-false, lt-leb, eq-eqb, ne_eqb}
use Rattle.base.specs.Tables.{sum, at, total}
use Rattle.base.proofs.Sums.{sum_ext, count_ext, count_none, count_strict}
use Rattle.base.proofs.Entries.{length-table, at_table, total-table, is_table}
use Rattle.base.proofs.Tests.{by_test, never}
use Rattle.roster.specs.Roster.{is_on, place, Rises}
use Rattle.roster.proofs.Search.{on_place, place_at, on_there}
use Rattle.mover.specs.Mover.{held_below, held, quota_of, freed, freed_below, lack, lacks, receivers, new_owner, moved, changes}
use Rattle.mover.specs.Pass.{pass, frees, room_after}
use Rattle.mover.specs.Laws.{Fitting, Exact, FreedIsLacking, MovedIsExact, ChangedIsFreed, FewestChanges, OthersStay, FromAboveToBelow}
use Rattle.mover.proofs.Passes.{length-pass, pass-at, frees-count, room_after_lem, pass-held, room_balance, frees-least}
use Rattle.mover.proofs.Runs.{held_at, runs-length, runs_off, runs-held}

-- the quota of an owner -------------------------------------------------------------------

pub quota_off : (hosts quotas : List ℕ) (k : ℕ) → is_on hosts k ≡ false → quota_of hosts quotas k ≡ 0
unfolding quota_of
quota_off hosts quotas k f = rw f

pub quota_on : (hosts quotas : List ℕ) (k : ℕ) → is_on hosts k ≡ true → quota_of hosts quotas k ≡ at quotas (place hosts k)
unfolding quota_of
quota_on hosts quotas k t = rw t

-- a number of the list is on it
pub host_on : (hosts : List ℕ) → Rises hosts → (j : ℕ) → j < length hosts → is_on hosts (at hosts j) ≡ true
host_on hosts rises j l =
    let e = place_at hosts rises (at hosts j) j l refl in
    on_there hosts rises (at hosts j) (rw e l) (ap (at hosts) e)

pub quota-host : (hosts quotas : List ℕ) → Rises hosts → (j : ℕ) → j < length hosts → quota_of hosts quotas (at hosts j) ≡ at quotas j
quota-host hosts quotas rises j l =
    quota_on hosts quotas (at hosts j) (host_on hosts rises j l) ∙ ap (at quotas) (place_at hosts rises (at hosts j) j l refl)

-- an owner with a quota is among the hosts
quota_some : (hosts quotas : List ℕ) (k : ℕ) → 0 < quota_of hosts quotas k → is_on hosts k ≡ true
quota_some hosts quotas k some = by_test (is_on hosts k) (λ t. t) (λ f. absurd (let z = quota_off hosts quotas k f in omega arith))

-- the move is the pass -----------------------------------------------------------------------

pub moved_is_pass : (hosts quotas slots : List ℕ) → pass (quota_of hosts quotas) (receivers hosts quotas slots) slots ≡ moved hosts quotas slots
moved_is_pass hosts quotas slots =
    is_table _ (length slots) (new_owner hosts quotas slots) (length-pass (quota_of hosts quotas) (receivers hosts quotas slots) slots)
    (pass-at (quota_of hosts quotas) (receivers hosts quotas slots) slots)

pub freed_is_frees : (hosts quotas slots : List ℕ) → frees (quota_of hosts quotas) slots ≡ freed_below hosts quotas slots (length slots)
freed_is_frees hosts quotas slots = frees-count (quota_of hosts quotas) slots

-- an owner that is not above its quota keeps its slots
pub others_stay : OthersStay
others_stay hosts quotas slots i l h =
    let b : held_below slots i (at slots i) < held slots (at slots i) = count_strict (length slots) (λ k. eqb (at slots k) (at slots i)) i l (eq-eqb (at slots i) (at slots i) refl) in
    let f : freed hosts quotas slots i ≡ false = lt-leb (quota_of hosts quotas (at slots i)) (held_below slots i (at slots i)) (omega arith) in
    ap (λ b. cond b (at (receivers hosts quotas slots) (freed_below hosts quotas slots i)) (at slots i)) f

module _ (hosts quotas slots : List ℕ) (w : Fitting hosts quotas slots) where
  -- what is left of a host's room is what it lacks
  lack-left : (j : ℕ) → j < length hosts → at (lacks hosts quotas slots) j ≡ room_after (quota_of hosts quotas) slots (at hosts j)
  lack-left j l =
      at_table (length hosts) (lack hosts quotas slots) j l
      ∙ ap (λ q. q - held slots (at hosts j)) (sym (quota-host hosts quotas w.rise j l))
      ∙ sym (room_after_lem (quota_of hosts quotas) slots (at hosts j))

  a_lack_each : length (lacks hosts quotas slots) ≡ length hosts
  a_lack_each = length-table (length hosts) (lack hosts quotas slots)

  freed_lacking : frees (quota_of hosts quotas) slots ≡ total (lacks hosts quotas slots)
  freed_lacking =
      let n = length hosts in
      let b = room_balance hosts w.rise (quota_of hosts quotas) (quota_off hosts quotas) slots in
      let left : total (lacks hosts quotas slots) ≡ sum n (λ j. room_after (quota_of hosts quotas) slots (at hosts j)) =
      total-table n (lack hosts quotas slots) ∙ sum_ext n _ _ (λ j l. sym (at_table n (lack hosts quotas slots) j l) ∙ lack-left j l) in
      let start : sum n (λ j. quota_of hosts quotas (at hosts j)) ≡ total quotas =
      sum_ext n _ (at quotas) (quota-host hosts quotas w.rise) ∙ ap (λ m. sum m (at quotas)) (sym w.a_quota_each) in
      omega (arith, w.as_many)

  enough : length (receivers hosts quotas slots) ≡ frees (quota_of hosts quotas) slots
  enough = runs-length hosts (lacks hosts quotas slots) a_lack_each ∙ sym freed_lacking

  -- each receiver is a host that lacks slots
  receiver : (i : ℕ) → i < length (receivers hosts quotas slots) →
      let host = at (receivers hosts quotas slots) i in (is_on hosts host ≡ true) × (held slots host < quota_of hosts quotas host)
  receiver i l =
      let next = receivers hosts quotas slots in
      let host = at next i in
      let there = held_at next i l in
      let on : is_on hosts host ≡ true = by_test (is_on hosts host) (λ t. t)
      (λ f. absurd (let z = runs_off hosts (lacks hosts quotas slots) host (λ j k e. never _ (subst (λ h. is_on hosts h ≡ true) e (host_on hosts w.rise j k)) f) in omega arith)) in
      let found = on_place hosts w.rise host on in
      let p = place hosts host in
      let times : held next (at hosts p) ≡ at (lacks hosts quotas slots) p = runs-held hosts (lacks hosts quotas slots) w.rise a_lack_each p found.0 in
      let same : held next (at hosts p) ≡ held next host = ap (held next) found.1 in
      let short : at (lacks hosts quotas slots) p ≡ at quotas p - held slots (at hosts p) = at_table (length hosts) (lack hosts quotas slots) p found.0 in
      let holds : held slots (at hosts p) ≡ held slots host = ap (held slots) found.1 in
      (on, omega (arith, quota_on hosts quotas host on))

  -- a freed slot's turn is among the receivers
  turn : (i : ℕ) → i < length slots → freed hosts quotas slots i ≡ true → freed_below hosts quotas slots i < length (receivers hosts quotas slots)
  turn i l t = let c = count_strict (length slots) (freed hosts quotas slots) i l t in omega (arith, enough, freed_is_frees hosts quotas slots)

  owner_freed : (i : ℕ) → freed hosts quotas slots i ≡ true → new_owner hosts quotas slots i ≡ at (receivers hosts quotas slots) (freed_below hosts quotas slots i)
  owner_freed i t = ap (λ b. cond b (at (receivers hosts quotas slots) (freed_below hosts quotas slots i)) (at slots i)) t

  owner_kept : (i : ℕ) → freed hosts quotas slots i ≡ false → new_owner hosts quotas slots i ≡ at slots i
  owner_kept i f = ap (λ b. cond b (at (receivers hosts quotas slots) (freed_below hosts quotas slots i)) (at slots i)) f

  above_below : (i : ℕ) → i < length slots → freed hosts quotas slots i ≡ true →
      (quota_of hosts quotas (at slots i) < held slots (at slots i))
      × (held slots (new_owner hosts quotas slots i) < quota_of hosts quotas (new_owner hosts quotas slots i))
      × (is_on hosts (new_owner hosts quotas slots i) ≡ true)
  above_below i l t =
      let below : held_below slots i (at slots i) < held slots (at slots i) = count_strict (length slots) (λ k. eqb (at slots k) (at slots i)) i l (eq-eqb (at slots i) (at slots i) refl) in
      let over = leb-true (quota_of hosts quotas (at slots i)) (held_below slots i (at slots i)) t in
      let r = receiver (freed_below hosts quotas slots i) (turn i l t) in
      (omega arith, rw (owner_freed i t) r.1, rw (owner_freed i t) r.0)

  changed : (i : ℕ) → i < length slots → not (eqb (at slots i) (new_owner hosts quotas slots i)) ≡ freed hosts quotas slots i
  changed i l =
      by_test (freed hosts quotas slots i)
      (λ t. let r = above_below i l t in
      let ne : at slots i ≡ new_owner hosts quotas slots i → ⊥ = λ e. let a = ap (held slots) e in let b = ap (quota_of hosts quotas) e in omega (arith, r.0, r.1) in
      ap not (ne_eqb _ _ ne) ∙ sym t)
      (λ f. ap not (eq-eqb _ _ (sym (owner_kept i f))) ∙ sym f)

  changes-freed : changes slots (moved hosts quotas slots) ≡ freed_below hosts quotas slots (length slots)
  changes-freed =
      count_ext (length slots) _ _
      (λ i l. ap (λ o. not (eqb (at slots i) o)) (at_table (length slots) (new_owner hosts quotas slots) i l) ∙ changed i l)

  -- who stands in the moved table
  known-after : (i : ℕ) → i < length slots → is_on hosts (new_owner hosts quotas slots i) ≡ true
  known-after i l =
      by_test (freed hosts quotas slots i)
      (λ t. (above_below i l t).2)
      (λ f. rw (owner_kept i f) (quota_some hosts quotas (at slots i) (let v = leb-false (quota_of hosts quotas (at slots i)) (held_below slots i (at slots i)) f in omega arith)))

  full-after : (j : ℕ) → j < length hosts → held (moved hosts quotas slots) (at hosts j) ≡ at quotas j
  full-after j l =
      let next = receivers hosts quotas slots in
      let room = quota_of hosts quotas in
      let h = pass-held room next slots (at hosts j) (le_of_eq (sym enough)) in
      let all-used : held (take (frees room slots) next) (at hosts j) ≡ held next (at hosts j) = ap (λ l. held l (at hosts j)) (take_all (frees room slots) next (le_of_eq enough)) in
      let received : held next (at hosts j) ≡ at (lacks hosts quotas slots) j = runs-held hosts (lacks hosts quotas slots) w.rise a_lack_each j l in
      let is : held (pass room next slots) (at hosts j) ≡ held (moved hosts quotas slots) (at hosts j) = ap (λ l. held l (at hosts j)) (moved_is_pass hosts quotas slots) in
      omega (arith, lack-left j l, quota-host hosts quotas w.rise j l)

-- the laws -----------------------------------------------------------------------------------

pub freed_is_lacking : FreedIsLacking
freed_is_lacking hosts quotas slots w = sym (freed_is_frees hosts quotas slots) ∙ freed_lacking hosts quotas slots w

pub moved_is_exact : MovedIsExact
moved_is_exact hosts quotas slots w =
    let long = length-table (length slots) (new_owner hosts quotas slots) in (
      long,
      record {
        known = λ i l. let h : i < length slots = rw long at l in rw (at_table (length slots) (new_owner hosts quotas slots) i h) (known-after hosts quotas slots w i h);
        full = full-after hosts quotas slots w;
      },
    )

pub changed_is_freed : ChangedIsFreed
changed_is_freed hosts quotas slots w = (changed hosts quotas slots w, changes-freed hosts quotas slots w)

pub from_above_to_below : FromAboveToBelow
from_above_to_below hosts quotas slots w = above_below hosts quotas slots w

-- in a table that gives each host its quota every owner holds just its quota
pub exact_held : (hosts quotas other : List ℕ) → Rises hosts → Exact hosts quotas other → (k : ℕ) → held other k ≡ quota_of hosts quotas k
exact_held hosts quotas other rises x k =
    by_test (is_on hosts k)
    (λ t. let on = on_place hosts rises k t in
    ap (held other) (sym on.1) ∙ x.full (place hosts k) on.0 ∙ sym (quota_on hosts quotas k t))
    (λ f. count_none (length other) _ (λ i l. ne_eqb (at other i) k (λ e. never _ (subst (λ o. is_on hosts o ≡ true) e (x.known i l)) f)) ∙ sym (quota_off hosts quotas k f))

pub fewest_changes : FewestChanges
fewest_changes hosts quotas slots other w long x =
    let f = frees-least (quota_of hosts quotas) slots other long (λ k. le_of_eq (exact_held hosts quotas other w.rise x k)) in
    omega (arith, changes-freed hosts quotas slots w, freed_is_frees hosts quotas slots)

-- a table is exact where no slot is freed --------------------------------------------------------

pub exact_none_freed : (hosts quotas slots : List ℕ) → Fitting hosts quotas slots → Exact hosts quotas slots → freed_below hosts quotas slots (length slots) ≡ 0
exact_none_freed hosts quotas slots w x =
    let few = fewest_changes hosts quotas slots slots w refl x in
    let none : changes slots slots ≡ 0 = count_none (length slots) _ (λ i l. ap not (eq-eqb (at slots i) (at slots i) refl)) in
    omega (arith, changes-freed hosts quotas slots w)

pub none-freed-same : (hosts quotas slots : List ℕ) → freed_below hosts quotas slots (length slots) ≡ 0 → slots ≡ moved hosts quotas slots
none-freed-same hosts quotas slots z =
    is_table slots (length slots) (new_owner hosts quotas slots) refl
    (λ i l. by_test (freed hosts quotas slots i)
    (λ t. absurd (let c = count_strict (length slots) (freed hosts quotas slots) i l t in omega arith))
    (λ f. sym (ap (λ b. cond b (at (receivers hosts quotas slots) (freed_below hosts quotas slots i)) (at slots i)) f)))

pub none_freed_exact : (hosts quotas slots : List ℕ) → Fitting hosts quotas slots → freed_below hosts quotas slots (length slots) ≡ 0 → Exact hosts quotas slots
none_freed_exact hosts quotas slots w z = subst (Exact hosts quotas) (sym (none-freed-same hosts quotas slots z)) (moved_is_exact hosts quotas slots w).1
