-- Laws of numbers as text: what a reader knows behind each digit, and what it answers at the end.
-- Assumes nothing.
use mathlib.Core.Path.{◌≡◌, refl, sym, ap, ◌∙◌}
use mathlib.Core.Bool.{true, false, and-false}
use mathlib.Core.List.{List}
use Prim.Native.Nat.{ℕ, ◌+◌, ◌^◌, ◌≤◌, ◌<◌}
use native.Mathlib.Nat.{pow-suc, pow-le-pow_right}
use native.Mathlib.Numerals.{add-one}
use native.Mathlib.Omega.{arith}
use borrow.Author.Tests.{leb-true}
use lib.Dec.{leb}
use lib.ListN.{length, drop, drop_of_length-le}
use lib.Seq.{drop-cons}
use Rattle.base.specs.Tables.{at}
use Rattle.base.specs.Sizes.{between}
use Rattle.base.proofs.Tests.{and_left, and_right}
use Rattle.std.specs.Prelude.{Some, None}
use Rattle.lines.specs.Numbers.{is_digit, all_digits, well_sized, is_number, with_digit, value_from, number_of}

-- what is known before place i of a text, with the value of the digits so far
pub record Reading (text : List ℕ) (value i : ℕ) : Type 0 where
  pub within : i ≤ length text
  pub digits : all_digits (drop i text) ≡ all_digits text
  pub says : value_from value (drop i text) ≡ value_from 0 text
  pub small : value < 10 ^ i

-- a digit as its two bounds
pub digit_low : (byte : ℕ) → is_digit byte ≡ true → 48 ≤ byte
digit_low byte d = leb-true _ _ (and_left (leb 48 byte) _ d)

pub digit_high : (byte : ℕ) → is_digit byte ≡ true → byte ≤ 57
digit_high byte d = leb-true _ _ (and_right (leb 48 byte) _ d)

pub sized_nine : (text : List ℕ) → well_sized text ≡ true → length text ≤ 9
unfolding well_sized
sized_nine text s = leb-true _ _ (and_right (leb 1 (length text)) _ (and_left (between 1 9 (length text)) _ s))

pub reading_start : (text : List ℕ) → Reading text 0 0
reading_start text = record { within = omega arith; digits = refl; says = refl; small = omega arith }

-- one digit more
module _ (text : List ℕ) (value i : ℕ) (r : Reading text value i) (l : i < length text) (d : is_digit (at text i) ≡ true) where
  next_digits : all_digits (drop (i + 1) text) ≡ all_digits text
  unfolding all_digits
  next_digits = sym (ap all_digits (drop-cons text i 0 l) ∙ rw (d, add-one i)) ∙ r.digits

  next_says : value_from (with_digit value (at text i)) (drop (i + 1) text) ≡ value_from 0 text
  unfolding value_from
  next_says = sym (ap (value_from value) (drop-cons text i 0 l) ∙ rw (add-one i)) ∙ r.says

  next_small : with_digit value (at text i) < 10 ^ (i + 1)
  next_small =
      let low = digit_low (at text i) d in
      let high = digit_high (at text i) d in
      let before = r.small in
      rw (add-one i, pow-suc 10 i) (omega arith)

  pub reading_next : Reading text (with_digit value (at text i)) (i + 1)
  reading_next = record { within = omega arith; digits = next_digits; says = next_says; small = next_small }

  -- behind at most eight others, which keeps a digit more within a word
  pub one_more : well_sized text ≡ true → value < 100000000
  one_more s =
      let few : i ≤ 8 = omega (arith, sized_nine text s) in
      let eight : 10 ^ i ≤ 10 ^ 8 = pow-le-pow_right (omega arith) few in
      let before = r.small in
      omega arith

-- what is answered ---------------------------------------------------------------------

pub number_unsized : (text : List ℕ) → well_sized text ≡ false → number_of text ≡ None
unfolding number_of is_number
number_unsized text s = rw s

pub number_spoilt : (text : List ℕ) (value i : ℕ) → Reading text value i → i < length text → is_digit (at text i) ≡ false → number_of text ≡ None
unfolding number_of is_number all_digits
number_spoilt text value i r l d =
    let none : all_digits text ≡ false = sym r.digits ∙ ap all_digits (drop-cons text i 0 l) ∙ rw d in
    rw (none, and-false (well_sized text))

pub number_read : (text : List ℕ) (value i : ℕ) → Reading text value i → length text ≤ i → well_sized text ≡ true → number_of text ≡ Some value
unfolding number_of is_number all_digits value_from
number_read text value i r l s =
    let all : all_digits text ≡ true = sym r.digits ∙ ap all_digits (drop_of_length-le text l) in
    let said : value_from 0 text ≡ value = sym r.says ∙ ap (value_from value) (drop_of_length-le text l) in
    rw (s, all, said)
