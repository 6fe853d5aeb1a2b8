-- A find's reply: what it is at each row, and the laws of it.
-- Assumes nothing.
use mathlib.Core.Path.{◌≡◌, refl, sym, ap, ◌∙◌}
use mathlib.Core.Bool.{true, false}
use mathlib.Core.Logic.{◌≢◌}
use mathlib.Core.List.{List}
use Prim.Native.Nat.{ℕ, ◌≤◌, ◌<◌}
use native.Mathlib.Nat.{mod-lt}
use native.Mathlib.Omega.{arith}
use lib.Dec.{leb}
use lib.ListN.{length}
use borrow.Author.Tests.{lt-ltb, le-ltb, eq-eqb, ne_eqb, leb-true, eqb-true, ltb-true, ltb-false}
use Rattle.std.specs.Prelude.{Result}
use Rattle.base.specs.Tables.{at}
use Rattle.base.specs.Sizes.{slots_fit}
use Rattle.base.specs.Rows.{lowest, rises_from}
use Rattle.base.specs.declared.Refusal.{Refusal}
use Rattle.base.proofs.Tests.{by_test, and_left, and_right}
use Rattle.base.proofs.Refusals.{told_once}
use Rattle.find.specs.declared.Owner.{Owner}
use Rattle.find.specs.Hash.{slot_of}
use Rattle.find.specs.Reply.{length_fits, too_long, answer_of, found, refusal, told}
use Rattle.find.specs.Laws.{RowsRise, FoundIsOwner, RefusedIsNothing, FindFixed, ViewFixed, FindInFixed}

-- at each row ----------------------------------------------------------------------

module _ (table : List ℕ) (slots : ℕ) (key : List ℕ) where
  answer-length : length_fits slots (length table) ≡ false → answer_of table slots key ≡ 1
  unfolding answer_of lowest
  answer-length f = rw f

  answer_key : length_fits slots (length table) ≡ true → 4096 < length key → answer_of table slots key ≡ 9
  unfolding answer_of lowest
  answer_key t l = rw (t, lt-ltb _ _ l)

  module _ (t : length_fits slots (length table) ≡ true) (l : length key ≤ 4096) where
    answer_nobody : at table (slot_of key slots) ≡ 0 → answer_of table slots key ≡ 10
    unfolding answer_of lowest
    answer_nobody e = rw (t, le-ltb _ _ l, eq-eqb _ _ e)

    answer-done : at table (slot_of key slots) ≢ 0 → answer_of table slots key ≡ 0
    unfolding answer_of lowest
    answer-done ne = rw (t, le-ltb _ _ l, ne_eqb _ _ ne)

    pub found_nobody : at table (slot_of key slots) ≡ 0 → found table slots key ≡ refusal 10
    unfolding found
    found_nobody e = rw (answer_nobody e)

    pub found-done : at table (slot_of key slots) ≢ 0 → found table slots key ≡ record { answer = 0; slot = slot_of key slots; host = at table (slot_of key slots) }
    unfolding found
    found-done ne = rw (answer-done ne)

  pub found-length : length_fits slots (length table) ≡ false → found table slots key ≡ refusal 1
  unfolding found
  found-length f = rw (answer-length f)

  pub found_key : length_fits slots (length table) ≡ true → 4096 < length key → found table slots key ≡ refusal 9
  unfolding found
  found_key t l = rw (answer_key t l)

-- the whole reply at each row, for the proof of `find`
pub ruleset reply_rows = (found-length, found_key, found_nobody, found-done)

-- a length that fits is one that a hash can be taken by, and the table's own
module _ (stated own : ℕ) (t : length_fits stated own ≡ true) where
  pub some_slots : 0 < stated
  some_slots = leb-true _ _ (and_left (leb 1 stated) _ (and_left (slots_fit stated) _ t))

  pub own_length : own ≡ stated
  own_length = eqb-true _ _ (and_right (slots_fit stated) _ t)

pub slot_within : (table : List ℕ) (slots : ℕ) (key : List ℕ) → length_fits slots (length table) ≡ true → slot_of key slots < length table
slot_within table slots key t = rw (own_length slots (length table) t) (mod-lt _ (some_slots slots (length table) t))

-- the laws ---------------------------------------------------------------------------

pub rows-rise : RowsRise
unfolding rises_from
rows-rise table slots key = refl

-- an answer of 0 tells that no row holds
module _ (table : List ℕ) (slots : ℕ) (key : List ℕ) (done : answer_of table slots key ≡ 0) where
  length_right : length_fits slots (length table) ≡ true
  length_right = by_test (length_fits slots (length table)) (λ t. t) (λ f. absurd (let e = answer-length table slots key f in omega arith))

  key_right : length key ≤ 4096
  key_right = by_test (too_long key) (λ t. absurd (let e = answer_key table slots key length_right (ltb-true _ _ t) in omega arith)) (λ f. ltb-false _ _ f)

  owner_right : at table (slot_of key slots) ≢ 0
  owner_right e = let w = answer_nobody table slots key length_right key_right e in omega arith

pub found_is_owner : FoundIsOwner
unfolding found
found_is_owner table slots key done = (
  rw done,
  slot_within table slots key (length_right table slots key done),
  rw done,
  owner_right table slots key done,
)

pub refused_is_nothing : RefusedIsNothing
unfolding found
refused_is_nothing table slots key ne = (rw (ne_eqb _ _ ne), rw (ne_eqb _ _ ne))

-- results that tell the same reply are the same
once : (x y : Result Owner Refusal) → told x ≡ told y → x ≡ y
once = told_once told (λ f. f.answer) (λ owner. refl) (λ reason. refl) (λ a b h. ap (λ f. record { slot = f.slot; host = f.host }) h)

pub find_fixed : FindFixed
find_fixed table slots key x y a b = once x y (a ∙ sym b)

pub view_fixed : ViewFixed
view_fixed owners stated x y a b = a ∙ sym b

pub find_in_fixed : FindInFixed
find_in_fixed view key x y a b = once x y (a ∙ sym b)
