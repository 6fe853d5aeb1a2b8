-- The numbers of an event's rows: they rise, and 14 is none of them.
use mathlib.Core.Path.{◌≡◌, refl}
use mathlib.Core.Bool.{true}
use mathlib.Core.List.{List, ◌++◌}
use Prim.Native.Nat.{ℕ}
use native.Mathlib.Omega.{arith}
use lib.ListN.{length}
use Rattle.base.specs.Rows.{listed, rises_from}
use Rattle.base.proofs.Answers.{not_listed}
use Rattle.roster.specs.declared.Roster.{Roster}
use Rattle.table.specs.Answers.{size_rows, table_rows}
use Rattle.events.specs.Events.{apply_rows, answer_of}
use Rattle.events.specs.Demand3.{RowsRise}
use Rattle.events.specs.Laws.{NeverFourteen}

pub checks_rise : (r : Roster) (S : ℕ) (slots : List ℕ) → rises_from 0 (size_rows r S (length slots) ++ table_rows r S slots) ≡ true
unfolding rises_from
checks_rise r S slots = refl

pub rows-rise : RowsRise
unfolding rises_from
rows-rise S r slots e asked = (refl, refl)

pub never_fourteen : NeverFourteen
unfolding answer_of listed
never_fourteen S r slots e = (refl, not_listed (apply_rows r S e slots) 14 (omega arith) refl)
