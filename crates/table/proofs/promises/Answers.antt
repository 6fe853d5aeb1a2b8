-- The laws that `table` promises, each by its proof.
use Rattle.table.proofs.Moves.{fresh-belongs, rearranged-belongs, no_hosts_zero, belonging_stays, fewest_moves, freed_is_lacked}
use Rattle.table.proofs.Replies.{rows-rise, check_fixed, layout_fixed, move_fixed, check_told, layout_told, move_told}
use Rattle.table.proofs.promises.Goals as goal

pub returns : goal.returns
returns c =
    record {
      belong = (fresh-belongs, rearranged-belongs, no_hosts_zero, belonging_stays);
      fewest = (fewest_moves, freed_is_lacked, rows-rise);
      fixed = (check_fixed, layout_fixed, move_fixed);
      told = (check_told, layout_told, move_told);
    }
