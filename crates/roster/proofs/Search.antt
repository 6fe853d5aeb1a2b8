-- Where a host number stands among rising ones, and whether it is there.
-- Assumes nothing.
use mathlib.Core.Path.{◌≡◌, sym, ap, ◌∙◌}
use mathlib.Core.Bool.{true, false, not}
use mathlib.Core.Logic.{⊎_elim, by_cases}
use mathlib.Core.List.{List}
use Prim.Native.Nat.{ℕ, ◌≤◌, ◌<◌}
use native.Mathlib.Nat.{lt_trans, lt_irrefl, lt_of_le_of_lt, le_of_eq, le_antisymm, eq-or-lt_of_le, lt_of_lt_of_le, le_of_lt}
use native.Mathlib.Omega.{arith, by_contra}
use native.Mathlib.Decide.{dec_lt, ℕ_discrete}
use lib.Dec.{ltb, eqb}
use lib.ListN.{length}
use borrow.Author.Tests.{lt-ltb, le-ltb, ltb-true, ltb-false, eq-eqb, ne_eqb}
use Prim.Native.Nat.{zero-le}
use native.Mathlib.Nat.{le_refl, le_trans}
use Rattle.std.specs.Prelude.{Result, Ok, Err, is_ok, MatchOption}
use Rattle.std.specs.Result.{result_ok, result_err}
use Rattle.std.specs.Ordering.{nat_cmp}
use Rattle.std.specs.List.Sorted.{IsPartitionedBy, IsPartitionPoint, IsBinarySearchResult}
use Rattle.std.proofs.lemmas.List.Sorted.{searched}
use Rattle.std.proofs.lemmas.Grind.{get_or_default_zero}
use Rattle.base.specs.Tables.{at}
use Rattle.base.proofs.Sums.{count_fits_lem, count_prefix}
use Rattle.base.proofs.Tests.{never, any_at, any_none}
use Rattle.roster.specs.Roster.{is_on, place, Rises}

pub place-fits : (hosts : List ℕ) (host : ℕ) → place hosts host ≤ length hosts
unfolding place
place-fits hosts host = count_fits_lem (length hosts) (λ i. ltb (at hosts i) host)

module _ (hosts : List ℕ) (rises : Rises hosts) (host : ℕ) where
  lower_first : (i : ℕ) → i < length hosts → ltb (at hosts i) host ≡ ltb i (place hosts host)
  unfolding place
  lower_first i l = count_prefix (length hosts) (λ k. ltb (at hosts k) host) (λ a b h k t. lt-ltb _ _ (lt_trans (rises a b h k) (ltb-true _ _ t))) i l

  -- the numbers before the place are lower, those from it on are not
  pub before-place : (i : ℕ) → i < place hosts host → at hosts i < host
  before-place i h = let l = place-fits hosts host in ltb-true _ _ (lower_first i (omega arith) ∙ lt-ltb _ _ h)

  pub from_place : (i : ℕ) → i < length hosts → place hosts host ≤ i → host ≤ at hosts i
  from_place i l h = ltb-false _ _ (lower_first i l ∙ le-ltb _ _ h)

  -- a lower number stands before the place, another one does not
  pub lower_before : (i : ℕ) → i < length hosts → at hosts i < host → i < place hosts host
  lower_before i l h = ltb-true _ _ (sym (lower_first i l) ∙ lt-ltb _ _ h)

  pub place-before : (i : ℕ) → i < length hosts → host ≤ at hosts i → place hosts host ≤ i
  place-before i l h = ltb-false _ _ (sym (lower_first i l) ∙ le-ltb _ _ h)

  -- a number that is there stands at its place
  pub place_at : (i : ℕ) → i < length hosts → at hosts i ≡ host → place hosts host ≡ i
  place_at i l e =
      le_antisymm
      (place-before i l (le_of_eq (sym e)))
      (by_contra _ _ λ w. lt_irrefl _ (lower_before (place hosts host) (lt_trans w l) (rw e at (rises (place hosts host) i w l))))

  pub on_there : place hosts host < length hosts → at hosts (place hosts host) ≡ host → is_on hosts host ≡ true
  unfolding is_on
  on_there l e = any_at (length hosts) _ (place hosts host) l (eq-eqb _ _ e)

  pub off_past : length hosts ≤ place hosts host → is_on hosts host ≡ false
  unfolding is_on
  off_past h = any_none (length hosts) _ (λ i l. ne_eqb (at hosts i) host (λ e. let v = place_at i l e in omega arith))

  pub off_other : place hosts host < length hosts → (at hosts (place hosts host) ≡ host → ⊥) → is_on hosts host ≡ false
  unfolding is_on
  off_other h ne = any_none (length hosts) _ (λ i l. ne_eqb _ _ (λ e. ne (ap (at hosts) (place_at i l e) ∙ e)))

  -- so a number that is on the list is found at its place
  pub on_place : is_on hosts host ≡ true → (place hosts host < length hosts) × (at hosts (place hosts host) ≡ host)
  on_place t =
      by_cases (dec_lt (place hosts host) (length hosts))
      (λ l. by_cases (ℕ_discrete (at hosts (place hosts host)) host) (λ e. (l, e)) (λ ne. never _ t (off_other l ne)))
      (λ w. never _ t (off_past (by_contra _ _ w)))

  -- and where it is not, the numbers from the place on are higher
  pub from_place_off : is_on hosts host ≡ false → (i : ℕ) → i < length hosts → place hosts host ≤ i → host < at hosts i
  from_place_off f i l h =
      ⊎_elim
      (λ e. never _ (on_there (lt_of_le_of_lt h l) (ap (at hosts) (place_at i l (sym e)) ∙ sym e)) f)
      (λ w. w)
      (eq-or-lt_of_le (from_place i l h))

  -- what stands at the place tells
  pub on_answer : place hosts host < length hosts → eqb (at hosts (place hosts host)) host ≡ is_on hosts host
  on_answer l =
      by_cases (ℕ_discrete (at hosts (place hosts host)) host)
      (λ e. eq-eqb _ _ e ∙ sym (on_there l e))
      (λ ne. ne_eqb _ _ ne ∙ sym (off_other l ne))

-- the library's searches -----------------------------------------------------------------

module _ (hosts : List ℕ) (rises : Rises hosts) (host : ℕ) where
  rises_on : (i j : ℕ) → i ≤ j → j < length hosts → at hosts i ≤ at hosts j
  rises_on i j h l = ⊎_elim (λ e. le_of_eq (ap (at hosts) e)) (λ w. le_of_lt (rises i j w l)) (eq-or-lt_of_le h)

  -- no lower number comes after one that is not lower
  pub lower_part : IsPartitionedBy (λ y. ltb y host) hosts
  lower_part i j d h l t =
      let low = ltb-true _ _ t in
      lt-ltb _ _ (omega (arith, low, rises_on i j h l, get_or_default_zero hosts j d l, get_or_default_zero hosts i d (omega arith)))

  -- so the point at which the lower ones end is the place
  pub place_parts : (p : ℕ) → p ≤ length hosts → IsPartitionPoint (λ y. ltb y host ≡ true) (λ y. ltb y host ≡ false) hosts p → p ≡ place hosts host
  place_parts p h parts =
      let below : (i : ℕ) → i < p → at hosts i < host = λ i l. ltb-true _ _ (parts.0 i 0 zero-le l) in
      let above : (i : ℕ) → p ≤ i → i < length hosts → host ≤ at hosts i = λ i g l. ltb-false _ _ (parts.1 i 0 g l) in
      le_antisymm
      (by_contra _ _ λ w. lt_irrefl _ (lt_of_le_of_lt (from_place hosts rises host _ (lt_of_lt_of_le w h) (le_refl _)) (below _ w)))
      (by_contra _ _ λ w. lt_irrefl _ (lt_of_le_of_lt (above p (le_refl p) (lt_of_lt_of_le w (place-fits hosts host))) (before-place hosts rises host p w)))

  -- and a search finds a number exactly where it is on the list
  pub search_tells : (r : Result ℕ ℕ) → IsBinarySearchResult (λ y. nat_cmp y host) hosts r → is_ok r ≡ is_on hosts host
  unfolding is_on
  search_tells (Ok i) found =
      let s = searched hosts host (Ok i) found rises_on in
      sym (any_at (length hosts) _ i s.0 (eq-eqb _ _ s.1))
  search_tells (Err i) found =
      let s = searched hosts host (Err i) found rises_on in
      sym (any_none (length hosts) _ (λ k l. ne_eqb _ _ (λ e.
      by_cases (dec_lt k i) (λ w. lt_irrefl _ (rw e at (s.1 k w))) (λ w. lt_irrefl _ (rw e at (s.2 k (by_contra _ _ w) l))))))

  -- and where it finds one, that is the place
  pub search_finds : (r : Result ℕ ℕ) → IsBinarySearchResult (λ y. nat_cmp y host) hosts r →
      MatchOption (result_ok r) (is_on hosts host ≡ false) (λ p. (is_on hosts host ≡ true) × (p ≡ place hosts host))
  search_finds (Ok i) found =
      let s = searched hosts host (Ok i) found rises_on in
      (sym (search_tells (Ok i) found), sym (place_at hosts rises host i s.0 s.1))
  search_finds (Err i) found = sym (search_tells (Err i) found)

  -- where it finds none, what it answers is where the number would stand
  pub search_misses : (r : Result ℕ ℕ) → IsBinarySearchResult (λ y. nat_cmp y host) hosts r →
      MatchOption (result_err r) (not (is_on hosts host) ≡ false) (λ p. (not (is_on hosts host) ≡ true) × (p ≡ place hosts host))
  search_misses (Ok i) found = ap not (sym (search_tells (Ok i) found))
  search_misses (Err i) found =
      let s = searched hosts host (Err i) found rises_on in
      let high : place hosts host ≤ i =
      by_cases (dec_lt i (length hosts))
      (λ l. place-before hosts rises host i l (le_of_lt (s.2 i (le_refl i) l)))
      (λ w. le_trans (place-fits hosts host) (by_contra _ _ w)) in (
        ap not (sym (search_tells (Err i) found)),
        le_antisymm
            (by_contra _ _ λ w. lt_irrefl _ (lt_of_le_of_lt (from_place hosts rises host _ (lt_of_lt_of_le w s.0) (le_refl _)) (s.1 _ w)))
            high,
      )
