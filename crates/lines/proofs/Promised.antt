-- Laws of the line reader: what a number answers, the key, what 13 carries, long lines, and comments inside a record.
-- Assumes nothing.
use mathlib.Core.Path.{◌≡◌, refl, sym, ap, ◌∙◌}
use mathlib.Core.Bool.{Bool, true, false, cond}
use mathlib.Core.Logic.{◌≢◌}
use mathlib.Core.List.{List, [], ◌∷◌, ◌++◌}
use Rattle.std.specs.Prelude.{Option, Some, None, Result, Ok, Err}
use Prim.Native.Nat.{ℕ, suc}
use native.Mathlib.Omega.{arith}
use borrow.Author.Tests.{lt-ltb, eqb-true}
use lib.Dec.{eqb, ltb}
use lib.ListN.{length, drop}
use Rattle.base.proofs.Tests.{and_left, and_right, by_test, never}
use Rattle.lines.specs.declared.Due.{Due}
use Rattle.lines.specs.declared.Due.TheVariants.{Slots, Opening, HostAdded, RateAdded, HostDropped, HostRerated, NewRate, Key}
use Rattle.events.specs.declared.Event.TheVariants.{Add, Drop, Rate}
use Rattle.lines.specs.declared.Record.TheVariants.{Change, Find, Comment}
use Rattle.lines.specs.declared.Read.{Read}
use Rattle.lines.specs.declared.Read.TheVariants.{Count, Part, Whole}
use Rattle.lines.specs.declared.Malformed.{Malformed}
use Rattle.lines.specs.Numbers.{is_number, number_of}
use Rattle.lines.specs.Lines.{slots_name, host_name, rate_name, key_name, comment_sign, op_add, op_drop, op_rate, op_find, starts_with, is_line, field_of, key_of, after_equals, malformed, brings, with_number, opens, keyed, read_due, read_line, answer_of, line_of, records_of}
use Rattle.lines.specs.Laws.{NumberSays, KeyAfterEquals, MalformedCarries, OthersCarry, LongMalformed, CommentInside, NumberFixed, KeyFixed, ReadFixed}

-- numbers -----------------------------------------------------------------------------

pub number_says : NumberSays
unfolding number_of
number_says text = by_test (is_number text) (λ t. rw t (refl, refl)) (λ f. rw f (refl, refl))

-- the key --------------------------------------------------------------------------------

-- a word that holds no equals sign, and the sign behind it
no_equals : List ℕ → Bool
no_equals [] = true
no_equals (byte ∷ word) = cond (eqb byte 61) false (no_equals word)

named-after : (word line : List ℕ) → no_equals word ≡ true → starts_with (word ++ 61 ∷ []) line ≡ true → after_equals line ≡ drop (suc (length word)) line
unfolding starts_with after_equals no_equals
named-after [] [] n s = refl
named-after [] (byte ∷ line) n s = rw (sym (eqb-true 61 byte (and_left (eqb 61 byte) _ s)))
named-after (byte ∷ word) [] n s = refl
named-after (byte ∷ word) (other ∷ line) n s =
    let same : byte ≡ other = eqb-true byte other (and_left (eqb byte other) _ s) in
    by_test (eqb byte 61)
    (λ e. never false (rw e at n) refl)
    (λ e. rw (sym same, e) (named-after word line (rw e at n) (and_right (eqb byte other) _ s)))

pub key_after_equals : KeyAfterEquals
unfolding key_of no_equals
key_after_equals line s = rw s (sym (named-after (107 ∷ 101 ∷ 121 ∷ []) line refl s))

-- long lines, and comments inside a record -------------------------------------------------

pub long_malformed : LongMalformed
unfolding read_line
long_malformed due number line l = rw (lt-ltb _ _ l)

-- a line does not start in two ways
starts_otherwise : (a b : ℕ) (name line : List ℕ) → eqb b a ≡ false → starts_with (a ∷ []) line ≡ true → starts_with (b ∷ name) line ≡ false
unfolding starts_with
starts_otherwise a b name [] d s = refl
starts_otherwise a b name (byte ∷ line) d s = rw (sym (eqb-true a byte (and_left (eqb a byte) _ s)), d)

no_field : (a b : ℕ) (name line : List ℕ) → eqb b a ≡ false → starts_with (a ∷ []) line ≡ true → field_of (b ∷ name) line ≡ None
unfolding field_of
no_field a b name line d s = rw (starts_otherwise a b name line d s)

comment_due : (due : Due) (number : ℕ) (line : List ℕ) → (due ≡ Opening → ⊥) → starts_with (35 ∷ []) line ≡ true → read_due due number line ≡ malformed number
unfolding keyed
comment_due Slots number line o s = ap (with_number Slots number) (no_field 35 115 _ line refl s)
comment_due Opening number line o s = absurd (o refl)
comment_due HostAdded number line o s = ap (with_number HostAdded number) (no_field 35 104 _ line refl s)
comment_due (RateAdded host) number line o s = ap (with_number (RateAdded host) number) (no_field 35 114 _ line refl s)
comment_due HostDropped number line o s = ap (with_number HostDropped number) (no_field 35 104 _ line refl s)
comment_due HostRerated number line o s = ap (with_number HostRerated number) (no_field 35 104 _ line refl s)
comment_due (NewRate host) number line o s = ap (with_number (NewRate host) number) (no_field 35 114 _ line refl s)
comment_due Key number line o s = rw (starts_otherwise 35 107 (101 ∷ 121 ∷ 61 ∷ []) line refl s)

pub comment_inside : CommentInside
unfolding read_line
comment_inside due number line o s = by_test (ltb 8192 (length line)) (λ e. rw e) (λ e. rw e (comment_due due number line o s))

-- what 13 carries ------------------------------------------------------------------------

-- a read that answers 13 is malformed at this line
record Carries (number : ℕ) (r : Result Read Malformed) : Type 0 where
  is : answer_of r ≡ 13 → r ≡ malformed number

whole : {number : ℕ} (r : Result Read Malformed) → answer_of r ≡ 0 → Carries number r
whole r z = record { is = λ e. absurd (omega arith) }

spoilt : {number : ℕ} → Carries number (malformed number)
spoilt = record { is = λ e. refl }

either : {number : ℕ} {x y : Result Read Malformed} (b : Bool) → Carries number x → Carries number y → Carries number (cond b x y)
either true f g = f
either false f g = g

carries_brought : (due : Due) (number value : ℕ) → Carries number (brings due number value)
carries_brought Slots number value = whole (Ok (Count value)) refl
carries_brought Opening number value = spoilt
carries_brought HostAdded number value = whole (Ok (Part (RateAdded value))) refl
carries_brought (RateAdded host) number value = whole (Ok (Whole (Change (Add host value)))) refl
carries_brought HostDropped number value = whole (Ok (Whole (Change (Drop value)))) refl
carries_brought HostRerated number value = whole (Ok (Part (NewRate value))) refl
carries_brought (NewRate host) number value = whole (Ok (Whole (Change (Rate host value)))) refl
carries_brought Key number value = spoilt

carries-number : (due : Due) (number : ℕ) (n : Option ℕ) → Carries number (with_number due number n)
carries-number due number (Some value) = carries_brought due number value
carries-number due number None = spoilt

carries_opened : (number : ℕ) (line : List ℕ) → Carries number (opens number line)
unfolding opens
carries_opened number line =
    either (starts_with comment_sign line) (whole (Ok (Whole Comment)) refl)
    (either (is_line op_add line) (whole (Ok (Part HostAdded)) refl)
    (either (is_line op_drop line) (whole (Ok (Part HostDropped)) refl)
    (either (is_line op_rate line) (whole (Ok (Part HostRerated)) refl)
    (either (is_line op_find line) (whole (Ok (Part Key)) refl) spoilt))))

carries-keyed : (number : ℕ) (line : List ℕ) → Carries number (keyed number line)
unfolding keyed
carries-keyed number line = either (starts_with key_name line) (whole (Ok (Whole Find)) refl) spoilt

carries_due : (due : Due) (number : ℕ) (line : List ℕ) → Carries number (read_due due number line)
carries_due Slots number line = carries-number Slots number (field_of slots_name line)
carries_due Opening number line = carries_opened number line
carries_due HostAdded number line = carries-number HostAdded number (field_of host_name line)
carries_due (RateAdded host) number line = carries-number (RateAdded host) number (field_of rate_name line)
carries_due HostDropped number line = carries-number HostDropped number (field_of host_name line)
carries_due HostRerated number line = carries-number HostRerated number (field_of host_name line)
carries_due (NewRate host) number line = carries-number (NewRate host) number (field_of rate_name line)
carries_due Key number line = carries-keyed number line

carries_line : (due : Due) (number : ℕ) (line : List ℕ) → Carries number (read_line due number line)
unfolding read_line
carries_line due number line = either (ltb 8192 (length line)) spoilt (carries_due due number line)

pub malformed_carries : MalformedCarries
malformed_carries due number line e = (ap line_of ((carries_line due number line).is e), ap records_of ((carries_line due number line).is e))

-- what is not malformed, case by case
others : (read : Result Read Malformed) → answer_of read ≢ 13 → (answer_of read ≡ 0) × (line_of read ≡ 0)
others (Ok read) n = (refl, refl)
others (Err at_line) n = absurd (n refl)

pub others_carry : OthersCarry
others_carry due number line n = others (read_line due number line) n

-- one answer -------------------------------------------------------------------------------

pub number_fixed : NumberFixed
number_fixed text x y p q = p ∙ sym q

pub key_fixed : KeyFixed
key_fixed line x y p q = p ∙ sym q

pub read_fixed : ReadFixed
read_fixed due number line x y p q = p ∙ sym q
