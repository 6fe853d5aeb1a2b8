-- Laws of the table of refusals: the lowest row that holds, and tables that are joined.
-- Assumes nothing.
use mathlib.Core.Path.{◌≡◌, refl, sym, ◌∙◌}
use mathlib.Core.Bool.{true, false}
use mathlib.Core.Logic.{◌≢◌, ⊎_elim}
use mathlib.Core.List.{List, [], ◌∷◌, ◌++◌}
use Prim.Native.Nat.{ℕ, ◌≤◌, ◌<◌}
use native.Mathlib.Nat.{le_antisymm, eq-zero-or-pos}
use native.Mathlib.Omega.{arith, by_contra}
use lib.Dec.{eqb, ltb}
use borrow.Author.Tests.{ltb-true, eqb-true, eqb-false, eq-eqb}
use Rattle.base.specs.Rows.{Row, lowest, listed, given, rises_from, LowestIsFirst, LowestIsNone}
use Rattle.base.proofs.Tests.{and_left, and_right, or_left, or_right, by_test, never}

-- lowest, where the numbers rise -----------------------------------------------

-- a row holds, or the table below it decides
row_holds : (r : Row) (rows : List Row) → r.holds ≡ true → lowest (r ∷ rows) ≡ r.number
unfolding lowest
row_holds r rows h = rw h

row_fails : (r : Row) (rows : List Row) → r.holds ≡ false → lowest (r ∷ rows) ≡ lowest rows
unfolding lowest
row_fails r rows h = rw h

other_row : (r : Row) (rows : List Row) (n : ℕ) → (r.number ≡ n → r.holds ≡ false) → given (r ∷ rows) n ≡ given rows n
unfolding given
other_row r rows n h =
    by_test (eqb r.number n)
    (λ e. rw (e, h (eqb-true _ _ e)))
    (λ e. rw e)

-- no row at or below the number from which they rise
given_low : (m : ℕ) (rows : List Row) → rises_from m rows ≡ true → (n : ℕ) → n ≤ m → given rows n ≡ false
unfolding given rises_from
given_low m [] s n l = refl
given_low m (r ∷ rows) s n l =
    let above : m < r.number = ltb-true _ _ (and_left (ltb m r.number) _ s) in
    other_row r rows n (λ e. absurd (omega arith)) ∙ given_low r.number rows (and_right (ltb m r.number) _ s) n (omega arith)

none-given : (m : ℕ) (rows : List Row) → rises_from m rows ≡ true → lowest rows ≡ 0 → (n : ℕ) → given rows n ≡ false
unfolding given rises_from
none-given m [] s e n = refl
none-given m (r ∷ rows) s e n =
    let above : m < r.number = ltb-true _ _ (and_left (ltb m r.number) _ s) in
    by_test r.holds
    (λ h. absurd (let z : r.number ≡ 0 = sym (row_holds r rows h) ∙ e in omega arith))
    (λ h. other_row r rows n (λ _. h) ∙ none-given r.number rows (and_right (ltb m r.number) _ s) (sym (row_fails r rows h) ∙ e) n)

-- n is given, and nothing below it
record First (rows : List Row) (n : ℕ) : Type 0 where
  here : given rows n ≡ true
  below : (m : ℕ) → m < n → given rows m ≡ false

first-given : (m : ℕ) (rows : List Row) → rises_from m rows ≡ true → (n : ℕ) → 0 < n → lowest rows ≡ n → First rows n
unfolding given rises_from lowest
first-given m [] s n l e = absurd (omega arith)
first-given m (r ∷ rows) s n l e =
    let rest : rises_from r.number rows ≡ true = and_right (ltb m r.number) _ s in
    by_test r.holds
    (λ h. let z : r.number ≡ n = sym (row_holds r rows h) ∙ e in
    record {
      here = rw (eq-eqb _ _ z, h);
      below = λ k w. other_row r rows k (λ v. absurd (omega arith)) ∙ given_low r.number rows rest k (omega arith);
    })
    (λ h. let f : First rows n = first-given r.number rows rest n l (sym (row_fails r rows h) ∙ e) in
    record {
      here = other_row r rows n (λ _. h) ∙ f.here;
      below = λ k w. other_row r rows k (λ _. h) ∙ f.below k w;
    })

-- the first row given is the answer
lowest_from : (rows : List Row) → rises_from 0 rows ≡ true → (n : ℕ) → given rows n ≡ true → ((m : ℕ) → m < n → given rows m ≡ false) → lowest rows ≡ n
lowest_from rows s n here below =
    ⊎_elim
    (λ z. never (given rows n) here (none-given 0 rows s z n))
    (λ p. let f : First rows (lowest rows) = first-given 0 rows s (lowest rows) p refl in
    le_antisymm
    (by_contra _ _ λ w. never (given rows n) here (f.below n w))
    (by_contra _ _ λ w. never (given rows (lowest rows)) f.here (below (lowest rows) w)))
    (eq-zero-or-pos (lowest rows))

pub lowest_is_first : LowestIsFirst
lowest_is_first rows s n p =
    ((λ e. let f : First rows n = first-given 0 rows s n p e in (f.here, f.below)), (λ g. lowest_from rows s n g.0 g.1))

pub lowest_is_none : LowestIsNone
lowest_is_none rows s = (
  none-given 0 rows s,
  (λ none. ⊎_elim
      (λ z. z)
      (λ p. never (given rows (lowest rows)) (first-given 0 rows s (lowest rows) p refl).here (none (lowest rows)))
      (eq-zero-or-pos (lowest rows))),
)

-- whatever the order of the rows, a number that none of them has is not the answer
pub not_listed : (rows : List Row) (n : ℕ) → 0 < n → listed rows n ≡ false → lowest rows ≢ n
unfolding listed lowest
not_listed [] n l none e = omega arith
not_listed (r ∷ rows) n l none e =
    by_test r.holds
    (λ h. eqb-false r.number n (or_left (eqb r.number n) (listed rows n) none) (sym (row_holds r rows h) ∙ e))
    (λ h. not_listed rows n l (or_right (eqb r.number n) (listed rows n) none) (sym (row_fails r rows h) ∙ e))

-- tables that are joined -------------------------------------------------------

-- a group that answers stops there
pub lowest_stop : (a b : List Row) (n : ℕ) → 0 < n → lowest a ≡ n → lowest (a ++ b) ≡ n
unfolding lowest
lowest_stop [] b n l e = absurd (omega arith)
lowest_stop (r ∷ a) b n l e =
    by_test r.holds
    (λ h. row_holds r (a ++ b) h ∙ sym (row_holds r a h) ∙ e)
    (λ h. row_fails r (a ++ b) h ∙ lowest_stop a b n l (sym (row_fails r a h) ∙ e))

-- a group of rising numbers that does not answer is passed over
pub lowest_go : (m : ℕ) (a b : List Row) → rises_from m a ≡ true → lowest a ≡ 0 → lowest (a ++ b) ≡ lowest b
unfolding rises_from
lowest_go m [] b s e = refl
lowest_go m (r ∷ a) b s e =
    let above : m < r.number = ltb-true _ _ (and_left (ltb m r.number) _ s) in
    by_test r.holds
    (λ h. absurd (let z : r.number ≡ 0 = sym (row_holds r a h) ∙ e in omega arith))
    (λ h. row_fails r (a ++ b) h ∙ lowest_go r.number a b (and_right (ltb m r.number) _ s) (sym (row_fails r a h) ∙ e))
