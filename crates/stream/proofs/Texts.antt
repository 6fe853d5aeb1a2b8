-- Laws of printed text: the answer stands first, and a number printed is read back.
-- Assumes nothing.
use mathlib.Core.Path.{◌≡◌, refl, sym, ap, ◌∙◌}
use mathlib.Core.Bool.{true, or-true}
use mathlib.Core.List.{List, [], ◌∷◌, ◌++◌, append_assoc}
use Prim.Native.Nat.{ℕ, zero, suc, ◌+◌, ◌/◌, ◌%◌, ◌^◌, ◌≤◌, ◌<◌}
use native.Mathlib.Nat.{pow-suc, mod-lt, mod-eq_of_lt, div-add-mod', div-lt_iff_lt-mul, le-div_iff_mul-le}
use native.Mathlib.Omega.{arith}
use borrow.Author.Tests.{lt-ltb, ltb-true, ltb-false, le-leb, ne_eqb}
use lib.Dec.{eqb, ltb, leb}
use lib.ListN.{length, length-append, get_or-append}
use Rattle.base.specs.Sizes.{between}
use Rattle.base.specs.Tables.{at}
use Rattle.base.proofs.Tests.{by_test, and_both}
use Rattle.lines.specs.Numbers.{is_digit, all_digits, well_sized, is_number, with_digit, value_from, number_of}
use Rattle.stream.specs.declared.Said.TheVariants.{Nothing, Moved, Owner, Wrong}
use Rattle.stream.specs.Text.{decimal_within, answer_name, moved_name, slot_name, host_name, line_name, printed_line}
use Rattle.stream.specs.Laws.{AnswerFirst, DecimalReads}

-- the answer first ----------------------------------------------------------------------------

pub answer-first : AnswerFirst
answer-first Nothing n = absurd (n refl)
answer-first (Moved answer moved) n = (printed_line moved_name moved, refl)
answer-first (Owner answer slot host) n = (printed_line slot_name slot ++ printed_line host_name host, append_assoc (printed_line answer_name answer) (printed_line slot_name slot) (printed_line host_name host))
answer-first (Wrong line) n = (printed_line line_name line, refl)

-- digits one behind another -------------------------------------------------------------------

digits_append : (a b : List ℕ) → all_digits a ≡ true → all_digits b ≡ true → all_digits (a ++ b) ≡ true
unfolding all_digits
digits_append [] b p q = q
digits_append (byte ∷ a) b p q = by_test (is_digit byte) (λ t. rw t (digits_append a b (rw t at p) q)) (λ f. rw f (rw f at p))

value_append : (v : ℕ) (a b : List ℕ) → value_from v (a ++ b) ≡ value_from (value_from v a) b
unfolding value_from
value_append v [] b = refl
value_append v (byte ∷ a) b = value_append (with_digit v byte) a b

-- decimal text --------------------------------------------------------------------------------

pub length-decimal : (m n : ℕ) → length (decimal_within m n) ≤ m + 1
unfolding decimal_within
length-decimal zero n = omega arith
length-decimal (suc m) n =
    by_test (ltb n 10)
    (λ t. rw t (omega arith))
    (λ f. rw f (let tail = length-decimal m (n / 10) in omega (arith, length-append (decimal_within m (n / 10)) ((48 + n % 10) ∷ []))))

pub tenth_below : (m n : ℕ) → n < 10 ^ suc (suc m) → n / 10 < 10 ^ suc m
tenth_below m n s = (div-lt_iff_lt-mul {k = 10} {x = n} (omega arith)).1 (rw (sym (pow-suc 10 (suc m))) s)

-- a small number needs no more digits where it may have them
within_fewer : (m k n : ℕ) → m ≤ k → n < 10 ^ suc m → decimal_within k n ≡ decimal_within m n
unfolding decimal_within
within_fewer zero zero n l s = refl
within_fewer zero (suc k) n l s = rw (lt-ltb n 10 s, mod-eq_of_lt s) refl
within_fewer (suc m) zero n l s = absurd (omega arith)
within_fewer (suc m) (suc k) n l s =
    by_test (ltb n 10)
    (λ t. rw t refl)
    (λ f. rw f (ap (λ x. x ++ (48 + n % 10) ∷ []) (within_fewer m k (n / 10) (omega arith) (tenth_below m n s))))

-- a text as a number is written
record Written (n : ℕ) (text : List ℕ) : Type 0 where
  some : 0 < length text
  digits : all_digits text ≡ true
  says : value_from 0 text ≡ n
  first : 0 < n → at text 0 ≡ 48 → ⊥

one_digit : (n : ℕ) → n < 10 → Written n ((48 + n) ∷ [])
unfolding all_digits value_from
one_digit n l = record {
  some = omega arith;
  digits = rw (le-leb 48 (48 + n) (omega arith), le-leb (48 + n) 57 (omega arith)) refl;
  says = omega arith;
  first = λ p e. omega arith;
}

digit_more : (n : ℕ) (text : List ℕ) → 10 ≤ n → Written (n / 10) text → Written n (text ++ (48 + n % 10) ∷ [])
unfolding value_from
digit_more n text l w =
    let digit = one_digit (n % 10) (mod-lt n (omega arith)) in
    let more : 0 < n / 10 = (le-div_iff_mul-le {k = 10} {y = n} (omega arith)).1 l in
    let size = w.some in
    record {
      some = omega (arith, length-append text ((48 + n % 10) ∷ []));
      digits = digits_append text ((48 + n % 10) ∷ []) w.digits digit.digits;
      says = value_append 0 text ((48 + n % 10) ∷ []) ∙ rw w.says (omega (arith, div-add-mod' n 10));
      first = λ p e. w.first more (sym (get_or-append text ((48 + n % 10) ∷ []) 0 0 size) ∙ e);
    }

written : (k n : ℕ) → n < 10 ^ suc k → Written n (decimal_within k n)
unfolding decimal_within
written zero n s = rw (mod-eq_of_lt s) (one_digit n s)
written (suc k) n s =
    by_test (ltb n 10)
    (λ t. rw t (one_digit n (ltb-true n 10 t)))
    (λ f. rw f (digit_more n (decimal_within k (n / 10)) (ltb-false n 10 f) (written k (n / 10) (tenth_below k n s))))

decimal_sized : (n : ℕ) → n < 10 ^ 9 → well_sized (decimal_within 8 n) ≡ true
unfolding well_sized decimal_within
decimal_sized n l =
    let w = written 8 n l in
    let text = decimal_within 8 n in
    and_both (between 1 9 (length text)) _
    (and_both (leb 1 (length text)) _ (le-leb 1 (length text) w.some) (le-leb (length text) 9 (length-decimal 8 n)))
    (by_test (ltb n 10)
    (λ t. rw t refl)
    (λ f. let ten : 10 ≤ n = ltb-false n 10 f in rw (ne_eqb (at text 0) 48 (w.first (omega arith))) (or-true (eqb (length text) 1))))

pub decimal-reads : DecimalReads
unfolding number_of is_number
decimal-reads n l =
    let w = written 8 n l in
    rw (within_fewer 8 19 n (omega arith) l, decimal_sized n l, w.digits, w.says) refl
