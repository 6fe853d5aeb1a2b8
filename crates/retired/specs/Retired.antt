-- Document 02, request 11, last sentence: number 14 is not used again, by no call and for no line of the program's input.
use Rattle.std.specs.Prelude.{◌≢◌, List, ℕ, length}
use Rattle.roster.specs.declared.Roster.{Roster}
use Rattle.table.specs.Answers.{checked, layout_answer, move_reply}
use Rattle.events.specs.declared.Event.{Event}
use Rattle.events.specs.Events.{reply_of}
use Rattle.events.specs.Forecasts.{forecast_of}
use Rattle.find.specs.Reply.{found}
use Rattle.load.specs.Reply.{carried}
use Rattle.report.specs.declared.HostRecord.{HostRecord}
use Rattle.report.specs.Report.{answer_of as reportAnswer}
use Rattle.lines.specs.declared.Due.{Due}
use Rattle.lines.specs.Numbers.{number_of, answer_of as numberAnswer}
use Rattle.lines.specs.Lines.{read_line, answer_of as lineAnswer}
use Rattle.stream.specs.declared.State.{State}
use Rattle.stream.specs.Steps.{takes}
use Rattle.stream.specs.Text.{answer_of as saidAnswer}
use Rattle.stream.specs.Meaning.{at_end}

-- every call that answers by number, named as in the code, with all that it is handed (a find through a view answers as a find);
-- the last two are the program's: a whole line of its input, and the end of it
pub data Call : Type 0 where
  check layout rearrange : (r : Roster) (S : ℕ) (slots : List ℕ) → Call
  apply : (r : Roster) (S : ℕ) (e : Event) (slots : List ℕ) → Call
  forecast : (r : Roster) (S : ℕ) (e : Event) (asked : ℕ) → Call
  find : (slots : List ℕ) (S : ℕ) (key : List ℕ) → Call
  carries : (r : Roster) (S load : ℕ) → Call
  report : (r : Roster) (S : ℕ) (out : List HostRecord) → Call
  number_in : (text : List ℕ) → Call
  reading_line : (due : Due) (number : ℕ) (line : List ℕ) → Call
  take_line : (s : State) (owners line : List ℕ) → Call
  end_of_input : (s : State) (piece : List ℕ) → Call

-- the number that it answers, by the definition that its contract cites
abbrev pub answer : Call → ℕ
answer (check r S slots) = (checked r S slots).answer
answer (layout r S slots) = layout_answer r S slots
answer (rearrange r S slots) = (move_reply r S slots).answer
answer (apply r S e slots) = (reply_of r S e slots).answer
answer (forecast r S e asked) = (forecast_of r S e asked).answer
answer (find slots S key) = (found slots S key).answer
answer (carries r S load) = (carried r S load).answer
answer (report r S out) = reportAnswer r S (length out)
answer (number_in text) = numberAnswer (number_of text)
answer (reading_line due number line) = lineAnswer (read_line due number line)
answer (take_line s owners line) = saidAnswer (takes s owners line).said
answer (end_of_input s piece) = saidAnswer (at_end s piece)

-- whatever it is handed, no call answers the number taken away
abbrev pub retired : ℕ
retired = 14

abbrev pub NotUsedAgain : Type 0
NotUsedAgain = (c : Call) → answer c ≢ retired
