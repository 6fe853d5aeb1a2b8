-- Demand 3 of the customer, over every history: what holds after any accepted and refused events from the empty start.
-- Assumes nothing. The states are those of the definitions of the events' replies; `apply` is proved to give just these.
use Rattle.std.specs.Prelude.{◌≡◌, true, ◌⊎◌, List, Result, ℤ, ℕ, ◌+◌, ◌-◌, ◌*◌, ◌≤◌, ◌<◌, pos, ◌-ℤ◌, length, replicate}
use Rattle.base.specs.Rows.{rises_from}
use Rattle.base.specs.Sizes.{host_fits, slots_fit}
use Rattle.base.specs.Tables.{sum, at, total}
use Rattle.quota.specs.Laws.{Division}
use Rattle.roster.specs.declared.Roster.{Roster}
use Rattle.roster.specs.Roster.{hosts_of, rates_of, valid}
use Rattle.roster.specs.Changes.{none}
use Rattle.mover.specs.Mover.{held, changes}
use Rattle.table.specs.Table.{belongs}
use Rattle.base.specs.declared.Refusal.{Refusal}
use Rattle.events.specs.declared.Change.{Change}
use Rattle.events.specs.declared.Event.{Event}
use Rattle.events.specs.declared.Refused.{Refused}
use Rattle.events.specs.declared.Event.TheVariants.{Rate}
use Rattle.events.specs.Events.{named, apply_rows, answer_of, roster_after, table_after, moved_by, reply_of}
use Rattle.events.specs.Forecasts.{forecast_rows, forecast_answer, change_of, forecast_of}
use Rattle.events.specs.Told.{told, foretold}

-- the states reached: no hosts and S unowned slots, and after each event, accepted or refused, the roster and the table that it leaves
pub data Reached (S : ℕ) : Roster → List ℕ → Type 0 where
  begin : Reached S none (replicate S 0)
  next : {r : Roster} {slots : List ℕ} → Reached S r slots → (e : Event) → Reached S (roster_after r S e slots) (table_after r S e slots)

-- what is said of every reached state, for every slot count from 1 to 16,384
abbrev pub Always : ((S : ℕ) → Roster → List ℕ → Type 0) → Type 0
Always P = (S : ℕ) → slots_fit S ≡ true → (r : Roster) (slots : List ℕ) → Reached S r slots → P S r slots

-- the slots of the host at place j
abbrev pub slots_at : Roster → List ℕ → ℕ → ℕ
slots_at r slots j = held slots (at (hosts_of r) j)

-- the roster is valid, and the table has S slots and belongs to it
abbrev pub StaysRight : Type 0
StaysRight = Always (λ S r slots. (valid r ≡ true) × (length slots ≡ S) × (belongs r S slots ≡ true))

-- with a host present the hosts' slots sum to the slot count
abbrev pub SlotsSum : Type 0
SlotsSum = Always (λ S r slots. 0 < r.count → sum r.count (slots_at r slots) ≡ S)

-- no division has a smaller greatest ratio of slots to rate: each host's ratio is met or passed by some ratio of the division
abbrev pub NoSmallerRatio : Type 0
NoSmallerRatio =
    Always (λ S r slots. (other : List ℕ) → Division (rates_of r) S other → (i : ℕ) → i < r.count →
    (j : ℕ) × (j < r.count) × (slots_at r slots i * at (rates_of r) j ≤ at other j * at (rates_of r) i))

-- slots × sum of rates ≤ rate × (S + hosts − 1)
abbrev pub WithinBound : Type 0
WithinBound =
    Always (λ S r slots. (i : ℕ) → i < r.count → slots_at r slots i * total (rates_of r) ≤ at (rates_of r) i * (S + r.count - 1))

-- in an accepted event every slot that changes owner leaves or joins the host named
abbrev pub OnlyTheNamed : Type 0
OnlyTheNamed =
    Always (λ S r slots. (e : Event) → answer_of r S e slots ≡ 0 → (i : ℕ) → i < S → (at slots i ≡ at (table_after r S e slots) i → ⊥) →
    (at slots i ≡ named e) ⊎ (at (table_after r S e slots) i ≡ named e))

-- the reported count is the number of slots changed
abbrev pub CountIsTrue : Type 0
CountIsTrue = (S : ℕ) (r : Roster) (slots : List ℕ) (e : Event) → moved_by r S e slots ≡ changes slots (table_after r S e slots)

-- and no table that belongs to the new roster changes fewer
abbrev pub NoFewer : Type 0
NoFewer =
    Always (λ S r slots. (e : Event) → answer_of r S e slots ≡ 0 → (other : List ℕ) → length other ≡ S → belongs (roster_after r S e slots) S other ≡ true →
    changes slots (table_after r S e slots) ≤ changes slots other)

-- a refused event changes nothing, whatever it was handed
abbrev pub RefusedKeeps : Type 0
RefusedKeeps =
    (S : ℕ) (r : Roster) (slots : List ℕ) (e : Event) → (answer_of r S e slots ≡ 0 → ⊥) →
    (roster_after r S e slots ≡ r) × (table_after r S e slots ≡ slots) × (moved_by r S e slots ≡ 0)

-- the rate that the host at place j has, given to it again
abbrev pub rate_again : Roster → ℕ → Event
rate_again r j = Rate (at (hosts_of r) j) (at (rates_of r) j)

-- is accepted, and changes nothing
abbrev pub SameRateStays : Type 0
SameRateStays =
    Always (λ S r slots. (j : ℕ) → j < r.count →
    (answer_of r S (rate_again r j) slots ≡ 0) × (roster_after r S (rate_again r j) slots ≡ r)
    × (table_after r S (rate_again r j) slots ≡ slots) × (moved_by r S (rate_again r j) slots ≡ 0))

-- a forecast answers as the event does, and its change is the host's slots after the event less its slots before; a refused event leaves them
abbrev pub ForecastIsTrue : Type 0
ForecastIsTrue =
    Always (λ S r slots. (e : Event) (asked : ℕ) → host_fits asked ≡ true →
    (forecast_answer r S e asked ≡ answer_of r S e slots) × (change_of r S e asked ≡ pos (held (table_after r S e slots) asked) -ℤ pos (held slots asked)))

-- the rows rise in number, so that each answer is the lowest row that holds (`LowestIsFirst` of base)
abbrev pub RowsRise : Type 0
RowsRise =
    (S : ℕ) (r : Roster) (slots : List ℕ) (e : Event) (asked : ℕ) →
    (rises_from 0 (apply_rows r S e slots) ≡ true) × (rises_from 0 (forecast_rows r S e asked) ≡ true)

-- over every input, two results that meet a contract are equal, and so are the tables they leave
abbrev pub ReplyFixed : Type 0
ReplyFixed =
    (S : ℕ) (r : Roster) (slots : List ℕ) (e : Event) (x y : Result Change Refused) (t u : List ℕ) → told x ≡ reply_of r S e slots → told y ≡ reply_of r S e slots →
    t ≡ table_after r S e slots → u ≡ table_after r S e slots → (x ≡ y) × (t ≡ u)

abbrev pub ForecastFixed : Type 0
ForecastFixed =
    (S : ℕ) (r : Roster) (e : Event) (asked : ℕ) (x y : Result ℤ Refusal) → foretold x ≡ forecast_of r S e asked → foretold y ≡ forecast_of r S e asked → x ≡ y
