-- The numbers of document 01, Numbers answered, for what a call answers: a reply, or the reason why it is refused.
-- Assumes nothing.
use Rattle.std.specs.Prelude.{ℕ, Result, Ok, Err}
use Rattle.base.specs.declared.Refusal.{Refusal}
use Rattle.base.specs.declared.Refusal.TheVariants.{SlotCount, BrokenRoster, WrongTable, HostNumber, Rate, HostAbsent, HostPresent, RosterFull, LongKey, NoOwner, Load, ListLength}

-- the paper's number of each reason
abbrev pub number_of : Refusal → ℕ
number_of SlotCount = 1
number_of BrokenRoster = 2
number_of WrongTable = 3
number_of HostNumber = 4
number_of Rate = 5
number_of HostAbsent = 6
number_of HostPresent = 7
number_of RosterFull = 8
number_of LongKey = 9
number_of NoOwner = 10
number_of Load = 11
number_of ListLength = 12

-- the number that is answered: 0 with a reply, and else the reason's
abbrev pub answer_of : {A : Type 0} → Result A Refusal → ℕ
answer_of (Ok reply) = 0
answer_of (Err reason) = number_of reason
