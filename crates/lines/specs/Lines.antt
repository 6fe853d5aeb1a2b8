-- The program's lines (document 01, The program's lines): what a line brings where a line is due, and the key of a find.
-- Assumes nothing.
use Rattle.std.specs.Prelude.{Bool, true, false, ◌&&◌, cond, Option, Some, None, Result, Ok, Err, List, [], ◌∷◌, ℕ, ltb, eqb, length, drop}
use Rattle.events.specs.declared.Event.TheVariants.{Add, Drop, Rate}
use Rattle.lines.specs.declared.Due.{Due}
use Rattle.lines.specs.declared.Due.TheVariants.{Slots, Opening, HostAdded, RateAdded, HostDropped, HostRerated, NewRate, Key}
use Rattle.lines.specs.declared.Record.{Record}
use Rattle.lines.specs.declared.Record.TheVariants.{Change, Find, Comment}
use Rattle.lines.specs.declared.Read.{Read}
use Rattle.lines.specs.declared.Read.TheVariants.{Count, Part, Whole}
use Rattle.lines.specs.declared.Malformed.{Malformed}
use Rattle.lines.specs.Numbers.{number_of}

-- sentences 1 to 5: the names and the ops, byte for byte ----------------------------

-- slots=
abbrev pub slots_name : List ℕ
slots_name = 115 ∷ 108 ∷ 111 ∷ 116 ∷ 115 ∷ 61 ∷ []

-- host=
abbrev pub host_name : List ℕ
host_name = 104 ∷ 111 ∷ 115 ∷ 116 ∷ 61 ∷ []

-- rate=
abbrev pub rate_name : List ℕ
rate_name = 114 ∷ 97 ∷ 116 ∷ 101 ∷ 61 ∷ []

-- key=
abbrev pub key_name : List ℕ
key_name = 107 ∷ 101 ∷ 121 ∷ 61 ∷ []

-- #
abbrev pub comment_sign : List ℕ
comment_sign = 35 ∷ []

-- op=add
abbrev pub op_add : List ℕ
op_add = 111 ∷ 112 ∷ 61 ∷ 97 ∷ 100 ∷ 100 ∷ []

-- op=drop
abbrev pub op_drop : List ℕ
op_drop = 111 ∷ 112 ∷ 61 ∷ 100 ∷ 114 ∷ 111 ∷ 112 ∷ []

-- op=rate
abbrev pub op_rate : List ℕ
op_rate = 111 ∷ 112 ∷ 61 ∷ 114 ∷ 97 ∷ 116 ∷ 101 ∷ []

-- op=find
abbrev pub op_find : List ℕ
op_find = 111 ∷ 112 ∷ 61 ∷ 102 ∷ 105 ∷ 110 ∷ 100 ∷ []

-- lines --------------------------------------------------------------------------------

-- a line starts with a name
unfoldable pub starts_with : List ℕ → List ℕ → Bool
starts_with [] line = true
starts_with (byte ∷ name) [] = false
starts_with (byte ∷ name) (other ∷ line) = eqb byte other && starts_with name line

-- a line is a text, byte for byte
unfoldable pub is_line : List ℕ → List ℕ → Bool
is_line text line = starts_with text line && eqb (length line) (length text)

-- the number that a line holds after a name and its equals sign
unfoldable pub field_of : List ℕ → List ℕ → Option ℕ
field_of name line = cond (starts_with name line) (number_of (drop (length name) line)) None

-- sentence 8: the key of a find, all that stands behind `key=`; a line that holds no key has an empty one
unfoldable pub key_of : List ℕ → List ℕ
key_of line = cond (starts_with key_name line) (drop 4 line) []

-- the part of a line after its first equals sign
unfoldable pub after_equals : List ℕ → List ℕ
after_equals [] = []
after_equals (byte ∷ line) = cond (eqb byte 61) line (after_equals line)

-- 13 with a line's number: too long, or not the line that is due
abbrev pub malformed : ℕ → Result Read Malformed
malformed number = Err (record { line = number })

-- sentence 5: what a number brings where one is due, a part of a record or its end
abbrev pub brings : Due → ℕ → ℕ → Result Read Malformed
brings Slots line value = Ok (Count value)
brings Opening line value = malformed line
brings HostAdded line value = Ok (Part (RateAdded value))
brings (RateAdded host) line value = Ok (Whole (Change (Add host value)))
brings HostDropped line value = Ok (Whole (Change (Drop value)))
brings HostRerated line value = Ok (Part (NewRate value))
brings (NewRate host) line value = Ok (Whole (Change (Rate host value)))
brings Key line value = malformed line

abbrev pub with_number : Due → ℕ → Option ℕ → Result Read Malformed
with_number due line (Some value) = brings due line value
with_number due line None = malformed line

-- sentences 5 and 6: the line with which a record begins, a comment or an op
unfoldable pub opens : ℕ → List ℕ → Result Read Malformed
opens number line =
    cond (starts_with comment_sign line) (Ok (Whole Comment))
    (cond (is_line op_add line) (Ok (Part HostAdded))
    (cond (is_line op_drop line) (Ok (Part HostDropped))
    (cond (is_line op_rate line) (Ok (Part HostRerated))
    (cond (is_line op_find line) (Ok (Part Key))
    (malformed number)))))

-- the line of a key ends a find
unfoldable pub keyed : ℕ → List ℕ → Result Read Malformed
keyed number line = cond (starts_with key_name line) (Ok (Whole Find)) (malformed number)

-- sentence 5: the lines of each record in their order; a line that is not the one due is malformed
abbrev pub read_due : Due → ℕ → List ℕ → Result Read Malformed
read_due Slots number line = with_number Slots number (field_of slots_name line)
read_due Opening number line = opens number line
read_due HostAdded number line = with_number HostAdded number (field_of host_name line)
read_due (RateAdded host) number line = with_number (RateAdded host) number (field_of rate_name line)
read_due HostDropped number line = with_number HostDropped number (field_of host_name line)
read_due HostRerated number line = with_number HostRerated number (field_of host_name line)
read_due (NewRate host) number line = with_number (NewRate host) number (field_of rate_name line)
read_due Key number line = keyed number line

-- sentence 9: a line above 8,192 bytes is malformed whatever it holds
unfoldable pub read_line : Due → ℕ → List ℕ → Result Read Malformed
read_line due number line = cond (ltb 8192 (length line)) (malformed number) (read_due due number line)

-- the paper's number and values of each case: 13 with the line's number and no record, 0 with what was read
abbrev pub answer_of : Result Read Malformed → ℕ
answer_of (Ok read) = 0
answer_of (Err at_line) = 13

abbrev pub line_of : Result Read Malformed → ℕ
line_of (Ok read) = 0
line_of (Err at_line) = at_line.line

abbrev pub records_of : Result Read Malformed → List Record
records_of (Ok (Count value)) = []
records_of (Ok (Part due)) = []
records_of (Ok (Whole whole)) = whole ∷ []
records_of (Err at_line) = []
