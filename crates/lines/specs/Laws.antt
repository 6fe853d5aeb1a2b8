-- What the line reader promises, as statements; the function `promises` holds them all.
-- Assumes nothing.
use Rattle.std.specs.Prelude.{◌≡◌, true, cond, ◌≢◌, Option, Result, List, [], ℕ, ◌<◌, length}
use Rattle.lines.specs.declared.Due.{Due}
use Rattle.lines.specs.declared.Due.TheVariants.{Opening}
use Rattle.lines.specs.declared.Read.{Read}
use Rattle.lines.specs.declared.Malformed.{Malformed}
use Rattle.lines.specs.Numbers.{is_number, value_from, number_of, answer_of as numberAnswer, value_of}
use Rattle.lines.specs.Lines.{key_name, comment_sign, starts_with, key_of, after_equals, malformed, read_line, answer_of, line_of, records_of}

-- a text that is a number answers 0 with what its digits say, any other 13 with nothing
abbrev pub NumberSays : Type 0
NumberSays =
    (text : List ℕ) → (numberAnswer (number_of text) ≡ cond (is_number text) 0 13) × (value_of (number_of text) ≡ cond (is_number text) (value_from 0 text) 0)

-- the key of a find is the part of the line after its first equals sign
abbrev pub KeyAfterEquals : Type 0
KeyAfterEquals = (line : List ℕ) → starts_with key_name line ≡ true → key_of line ≡ after_equals line

-- 13 carries the line's number and no record
abbrev pub MalformedCarries : Type 0
MalformedCarries =
    (due : Due) (number : ℕ) (line : List ℕ) → answer_of (read_line due number line) ≡ 13 →
    (line_of (read_line due number line) ≡ number) × (records_of (read_line due number line) ≡ [])

-- any other line answers 0 and carries no line's number
abbrev pub OthersCarry : Type 0
OthersCarry =
    (due : Due) (number : ℕ) (line : List ℕ) → answer_of (read_line due number line) ≢ 13 →
    (answer_of (read_line due number line) ≡ 0) × (line_of (read_line due number line) ≡ 0)

-- a line above 8,192 bytes is malformed whatever it holds
abbrev pub LongMalformed : Type 0
LongMalformed = (due : Due) (number : ℕ) (line : List ℕ) → 8192 < length line → read_line due number line ≡ malformed number

-- a comment that stands where no record may begin is malformed
abbrev pub CommentInside : Type 0
CommentInside = (due : Due) (number : ℕ) (line : List ℕ) → due ≢ Opening → starts_with comment_sign line ≡ true → read_line due number line ≡ malformed number

-- two answers that meet a contract are equal
abbrev pub NumberFixed : Type 0
NumberFixed = (text : List ℕ) (x y : Option ℕ) → x ≡ number_of text → y ≡ number_of text → x ≡ y

abbrev pub KeyFixed : Type 0
KeyFixed = (line x y : List ℕ) → x ≡ key_of line → y ≡ key_of line → x ≡ y

abbrev pub ReadFixed : Type 0
ReadFixed = (due : Due) (number : ℕ) (line : List ℕ) (x y : Result Read Malformed) → x ≡ read_line due number line → y ≡ read_line due number line → x ≡ y
