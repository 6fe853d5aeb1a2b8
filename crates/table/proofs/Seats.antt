-- What the searches for an owner find.
-- Assumes nothing.
use mathlib.Core.Path.{◌≡◌, sym, ap, ◌∙◌, subst}
use mathlib.Core.Bool.{true, false, not}
use mathlib.Core.Logic.{⊎_elim, by_cases}
use mathlib.Core.List.{List}
use Prim.Native.Nat.{ℕ, ◌+◌, ◌≤◌, ◌<◌, zero-le}
use native.Mathlib.Nat.{pos_of_ne-zero, le_refl, le_of_eq, le_of_lt, eq-or-lt_of_le, not-le_of_lt, le_antisymm, le_trans, lt_of_lt_of_le}
use native.Mathlib.Omega.{arith, by_contra}
use native.Mathlib.Decide.{dec_lt}
use lib.Dec.{eqb}
use lib.ListN.{length}
use borrow.Author.Tests.{eqb-true, eqb-false}
use Rattle.std.specs.Prelude.{Result, Ok, Err, Some, None}
use Rattle.std.specs.Result.{result_ok}
use Rattle.std.specs.Bool.{then_some}
use Rattle.std.specs.Ordering.{nat_cmp}
use Rattle.std.specs.List.Sorted.{IsBinarySearchResult}
use Rattle.std.proofs.lemmas.List.Sorted.{searched}
use Rattle.base.specs.Tables.{at}
use Rattle.base.proofs.Tests.{by_test}
use Rattle.roster.specs.Roster.{is_on, place, Rises}
use Rattle.roster.proofs.Search.{search_tells, place-fits, lower_before, place-before, off_past, off_other}
use Rattle.mover.specs.Mover.{quota_of}
use Rattle.mover.proofs.Laws.{quota-host, host_on}
use Rattle.table.specs.Seat.{Seat}

module _ (hosts : List ℕ) (rises : Rises hosts) (owner : ℕ) where
  rises_on : (i j : ℕ) → i ≤ j → j < length hosts → at hosts i ≤ at hosts j
  rises_on i j h l = ⊎_elim (λ e. le_of_eq (ap (at hosts) e)) (λ w. le_of_lt (rises i j w l)) (eq-or-lt_of_le h)

  -- the library's search finds a place of the owner, or there is none
  pub searched_there : (answer : Result ℕ ℕ) → IsBinarySearchResult (λ y. nat_cmp y owner) hosts answer → (p : ℕ) → result_ok answer ≡ Some p → (p < length hosts) × (at hosts p ≡ owner)
  searched_there (Ok i) found p e =
      let at_i = searched hosts owner (Ok i) found rises_on in
      let same : i ≡ p = cc in
      subst (λ k. (k < length hosts) × (at hosts k ≡ owner)) same at_i
  searched_there (Err i) found p e = absurd (cc)

  pub searched_none : (answer : Result ℕ ℕ) → IsBinarySearchResult (λ y. nat_cmp y owner) hosts answer → result_ok answer ≡ None → is_on hosts owner ≡ false
  searched_none (Ok i) found e = absurd (cc)
  searched_none (Err i) found e = sym (search_tells hosts rises owner (Err i) found)

  -- at its place stands its room
  pub seat_by_room : (room : List ℕ) (p : ℕ) → p < length hosts → at hosts p ≡ owner → Seat hosts room owner (then_some (not (eqb (at room p) 0)) p)
  seat_by_room room p l e =
      let own : quota_of hosts room owner ≡ at room p = ap (quota_of hosts room) (sym e) ∙ quota-host hosts room rises p l in
      by_test (eqb (at room p) 0)
      (λ t. rw t (own ∙ eqb-true _ _ t))
      (λ f. rw f (record { within = l; there = e; has_room = pos_of_ne-zero (eqb-false _ _ f) }))

-- the search inside the slots -------------------------------------------------------------

-- the owner's place is between lo and hi, and the owner does not stand at hi
pub record Narrowed (hosts : List ℕ) (owner lo hi : ℕ) : Type 0 where
  pub low : lo ≤ hi
  pub high : hi ≤ length hosts
  pub from : lo ≤ place hosts owner
  pub upto : place hosts owner ≤ hi
  pub other : hi < length hosts → at hosts hi ≡ owner → ⊥

pub narrow_start : (hosts : List ℕ) (owner : ℕ) → Narrowed hosts owner 0 (length hosts)
narrow_start hosts owner = record {
  low = zero-le;
  high = le_refl (length hosts);
  from = zero-le;
  upto = place-fits hosts owner;
  other = λ l. absurd (not-le_of_lt l (le_refl (length hosts)));
}

module _ {hosts : List ℕ} {owner lo hi : ℕ} (rises : Rises hosts) (n : Narrowed hosts owner lo hi) (mid : ℕ) (l : lo ≤ mid) (h : mid < hi) where
  pub narrow_up : at hosts mid < owner → Narrowed hosts owner (mid + 1) hi
  narrow_up t = record {
    low = omega arith;
    high = n.high;
    from = let v = lower_before hosts rises owner mid (lt_of_lt_of_le h n.high) t in omega arith;
    upto = n.upto;
    other = n.other;
  }

  pub narrow_down : owner ≤ at hosts mid → (at hosts mid ≡ owner → ⊥) → Narrowed hosts owner lo mid
  narrow_down t ne = record {
    low = l;
    high = omega (arith, n.high);
    from = n.from;
    upto = place-before hosts rises owner mid (lt_of_lt_of_le h n.high) t;
    other = λ _. ne;
  }

-- nothing left: the owner is not there
pub narrow_off : (hosts : List ℕ) (owner lo hi : ℕ) → Rises hosts → Narrowed hosts owner lo hi → hi ≤ lo → is_on hosts owner ≡ false
narrow_off hosts owner lo hi rises n h =
    let e : place hosts owner ≡ hi = le_antisymm n.upto (le_trans h n.from) in
    by_cases (dec_lt hi (length hosts))
    (λ l. off_other hosts rises owner (rw e l) (λ v. n.other l (ap (at hosts) (sym e) ∙ v)))
    (λ w. off_past hosts rises owner (rw e (by_contra _ _ w)))

pub found_on : (hosts : List ℕ) (owner mid : ℕ) → Rises hosts → mid < length hosts → at hosts mid ≡ owner → is_on hosts owner ≡ true
found_on hosts owner mid rises l e = subst (λ o. is_on hosts o ≡ true) e (host_on hosts rises mid l)
