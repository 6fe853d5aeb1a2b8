-- The short inputs computed under the meaning.
-- Assumes nothing.
use mathlib.Core.Path.{refl}
use Rattle.lines.specs.Lines.{starts_with, is_line, field_of, opens, keyed, read_line}
use Rattle.lines.specs.Numbers.{all_digits, well_sized, is_number, value_from, number_of}
use Rattle.stream.specs.Meaning.{at_end, meaning}
use Rattle.stream.specs.Steps.{next_number, takes, owners_after}
use Rattle.stream.specs.Text.{decimal_within, printed_line}
use Rattle.stream.specs.Samples.{Empty, CountOnly, LeadingZero, NoSlots, MissingHost, LastWithout10, CommentInRecord}

pub samples : Empty × CountOnly × LeadingZero × NoSlots × MissingHost × LastWithout10 × CommentInRecord
unfolding starts_with is_line field_of opens keyed read_line all_digits well_sized is_number value_from number_of at_end meaning next_number takes owners_after decimal_within printed_line
samples = (refl, refl, refl, refl, refl, refl, refl)
