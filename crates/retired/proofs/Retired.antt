-- No call answers the retired number: no row has it, and no case of an enum that is an answer.
use mathlib.Core.Path.{refl}
use mathlib.Core.Bool.{Bool, true, false, ◌&&◌, cond}
use mathlib.Core.Logic.{◌≢◌}
use mathlib.Core.List.{List}
use Prim.Native.Nat.{ℕ}
use native.Mathlib.Omega.{arith}
use lib.Dec.{eqb}
use lib.ListN.{length, take}
use Rattle.std.specs.Prelude.{Option, Some, None, Result, Ok, Err}
use Rattle.base.specs.Rows.{listed}
use Rattle.base.proofs.Answers.{not_listed}
use Rattle.roster.specs.declared.Roster.{Roster}
use Rattle.table.specs.Answers.{check_answer, layout_answer, move_answer}
use Rattle.events.specs.declared.Event.{Event}
use Rattle.events.specs.Events.{answer_of as eventAnswer}
use Rattle.events.specs.Forecasts.{forecast_answer}
use Rattle.find.specs.Reply.{found, answer_of as findAnswer}
use Rattle.load.specs.Reply.{carried, answer_of as loadAnswer}
use Rattle.report.specs.Report.{answer_of as reportAnswer}
use Rattle.lines.specs.declared.Record.{Record}
use Rattle.lines.specs.declared.Record.TheVariants.{Change, Find, Comment}
use Rattle.lines.specs.declared.Read.{Read}
use Rattle.lines.specs.declared.Read.TheVariants.{Count, Part, Whole}
use Rattle.lines.specs.declared.Malformed.{Malformed}
use Rattle.lines.specs.Numbers.{number_of, answer_of as numberAnswer}
use Rattle.lines.specs.Lines.{key_of, read_line, answer_of as lineAnswer}
use Rattle.stream.specs.declared.State.{State}
use Rattle.stream.specs.declared.Taken.{Taken}
use Rattle.stream.specs.Steps.{next_number, count_fits, answered, does, takes}
use Rattle.stream.specs.Text.{answer_of as saidAnswer}
use Rattle.stream.specs.Meaning.{may_begin, at_end}
use Rattle.retired.specs.Retired.{retired, NotUsedAgain, check, layout, rearrange, apply, forecast, find, carries, report, number_in, reading_line, take_line, end_of_input}

-- an event and a find, by their rows
event_not : (r : Roster) (S : ℕ) (e : Event) (slots : List ℕ) → eventAnswer r S e slots ≢ retired
unfolding eventAnswer listed
event_not r S e slots = not_listed _ retired (omega arith) refl

find_not : (slots : List ℕ) (S : ℕ) (key : List ℕ) → (found slots S key).answer ≢ retired
unfolding found findAnswer listed
find_not slots S key = not_listed _ retired (omega arith) refl

-- what is read, case by case
number_not : (n : Option ℕ) → numberAnswer n ≢ retired
number_not (Some value) e = omega arith
number_not None e = omega arith

line_not : (x : Result Read Malformed) → lineAnswer x ≢ retired
line_not (Ok read) e = omega arith
line_not (Err at_line) e = omega arith

-- where neither of two things answers it, the one chosen does not
chosen_not : {A : Type 0} (f : A → ℕ) (b : Bool) (x y : A) → f x ≢ retired → f y ≢ retired → f (cond b x y) ≢ retired
chosen_not f true x y p q = p
chosen_not f false x y p q = q

-- what is printed for a line taken
abbrev says : Taken → ℕ
says x = saidAnswer x.said

-- what a record says is what its event or its find answers
record_not : (s : State) (owners line : List ℕ) (x : Record) → says (answered s owners line x) ≢ retired
record_not s owners line (Change event) = event_not s.roster s.slots event (take s.slots owners)
record_not s owners line Find = find_not (take s.slots owners) s.slots (key_of line)
record_not s owners line Comment = λ e. omega arith

brought_not : (s : State) (owners line : List ℕ) (x : Result Read Malformed) → says (does s owners line x) ≢ retired
brought_not s owners line (Ok (Count slots)) =
    chosen_not says (count_fits slots (length owners)) _ _ (λ e. omega arith) (λ e. omega arith)
brought_not s owners line (Ok (Part due)) = λ e. omega arith
brought_not s owners line (Ok (Whole whole)) = record_not s owners line whole
brought_not s owners line (Err at_line) = λ e. omega arith

taken_not : (s : State) (owners line : List ℕ) → says (takes s owners line) ≢ retired
unfolding takes
taken_not s owners line =
    chosen_not says s.stopped _ _ (λ e. omega arith) (brought_not s owners line (read_line s.due (next_number s.lines) line))

end_not : (s : State) (piece : List ℕ) → saidAnswer (at_end s piece) ≢ retired
unfolding at_end
end_not s piece =
    chosen_not saidAnswer s.stopped _ _ (λ e. omega arith)
    (chosen_not saidAnswer (may_begin s.due && eqb (length piece) 0) _ _ (λ e. omega arith) (λ e. omega arith))

pub not_used_again : NotUsedAgain
unfolding check_answer layout_answer move_answer forecast_answer carried loadAnswer reportAnswer listed
not_used_again (check r S slots) = not_listed _ retired (omega arith) refl
not_used_again (layout r S slots) = not_listed _ retired (omega arith) refl
not_used_again (rearrange r S slots) = not_listed _ retired (omega arith) refl
not_used_again (apply r S e slots) = event_not r S e slots
not_used_again (forecast r S e asked) = not_listed _ retired (omega arith) refl
not_used_again (find slots S key) = find_not slots S key
not_used_again (carries r S load) = not_listed _ retired (omega arith) refl
not_used_again (report r S out) = not_listed _ retired (omega arith) refl
not_used_again (number_in text) = number_not (number_of text)
not_used_again (reading_line due number line) = line_not (read_line due number line)
not_used_again (take_line s owners line) = taken_not s owners line
not_used_again (end_of_input s piece) = end_not s piece
