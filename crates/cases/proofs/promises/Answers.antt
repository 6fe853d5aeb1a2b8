-- The checker computes every case of the list.
use mathlib.Core.Path.{refl}
use Rattle.base.specs.Tables.{sum, all, any, first, table}
use Rattle.base.specs.Rows.{lowest}
use Rattle.quota.specs.Quota.{rank, granted}
use Rattle.roster.specs.Roster.{sized, in_range, rising, zero_past, valid, is_on, place}
use Rattle.roster.specs.Changes.{may_add, may_drop, may_rerate, added, dropped, rerated}
use Rattle.mover.specs.Mover.{quota_of, runs}
use Rattle.table.specs.Table.{owners, shares, belongs}
use Rattle.events.specs.Events.{answer_of, roster_after, table_after}
use Rattle.events.specs.Forecasts.{forecast_answer, change_of}
use Rattle.find.specs.Hash.{hash_from}
use Rattle.load.specs.Load.{keeps_up, most_kept, carries_all}
use Rattle.load.specs.Reply.{answer_of as loadAnswer, carried}
use Rattle.cases.specs.Cases.{same, same_change, given, after, holds, cases, all_hold}
use Rattle.cases.proofs.promises.Goals as goal

pub returns : goal.returns
unfolding sum all any first table lowest rank granted sized in_range rising zero_past valid is_on place may_add may_drop may_rerate added dropped rerated quota_of runs owners shares belongs answer_of roster_after table_after forecast_answer change_of hash_from keeps_up most_kept carries_all loadAnswer carried same same_change given after holds cases all_hold
returns c = refl
