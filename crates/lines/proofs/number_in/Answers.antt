-- `lines::number_in` meets its contract: the loop's invariant is `Reading`: the digits still to come say the rest of the number.
use native.Mathlib.Omega.{arith}
use mathlib.Core.Path.{◌≡◌, sym, ◌∙◌}
use mathlib.Core.Bool.{true}
use Prim.Native.Nat.{◌<◌}
use Rattle.base.specs.Tables.{at}
use Rattle.lines.specs.Numbers.{is_digit}
use Rattle.lines.proofs.Texts.{digit_high, reading_start, reading_next, one_more, number_unsized, number_spoilt, number_read}
use Rattle.lines.proofs.number_in.Goals as goal

pub returns-then-not-well_sized : goal.returns-then-not-well_sized
returns-then-not-well_sized c = sym (number_unsized _ (sym c.well_sized.ensures ∙ c.if-not-well_sized.true))

pub returns-then-not-is_ascii_digit : goal.returns-then-not-is_ascii_digit
returns-then-not-is_ascii_digit c = sym (number_spoilt _ _ _ c.loop-byte.invariant (omega arith) (sym c.is_ascii_digit.ensures.value ∙ c.if-not-is_ascii_digit.true))

pub overflow_mul-value : goal.overflow_mul-value
overflow_mul-value c =
    let digit : is_digit (at c.args.text.now c.loop-byte.byte-index) ≡ true = sym c.is_ascii_digit.ensures.value ∙ c.if-not-is_ascii_digit.false in
    let few : c.loop-byte.value < 100000000 = one_more _ _ _ c.loop-byte.invariant (omega arith) digit (sym c.well_sized.ensures ∙ c.if-not-well_sized.false) in
    omega arith

pub overflow_add-value : goal.overflow_add-value
overflow_add-value c =
    let digit : is_digit (at c.args.text.now c.loop-byte.byte-index) ≡ true = sym c.is_ascii_digit.ensures.value ∙ c.if-not-is_ascii_digit.false in
    let few : c.loop-byte.value < 100000000 = one_more _ _ _ c.loop-byte.invariant (omega arith) digit (sym c.well_sized.ensures ∙ c.if-not-well_sized.false) in
    let high = digit_high (at c.args.text.now c.loop-byte.byte-index) digit in
    omega arith

pub loop-byte-preserved : goal.loop-byte-preserved
loop-byte-preserved c =
    let digit : is_digit (at c.args.text.now c.loop-byte.byte-index) ≡ true = sym c.is_ascii_digit.ensures.value ∙ c.if-not-is_ascii_digit.false in
    rw c.from.ensures (reading_next _ _ _ c.loop-byte.invariant (omega arith) digit)

pub returns : goal.returns
returns c = sym (number_read _ _ _ c.loop-byte.invariant (omega arith) (sym c.well_sized.ensures ∙ c.if-not-well_sized.false))
