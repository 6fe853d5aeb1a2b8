-- `Owners::tally` meets its contract. The loop's invariant is `Tallied`.
use Rattle.table.proofs.Turns.{tally_start, tally_kept, tally_freed, tally_count, tally_left}
use Rattle.table.proofs.owning.Owners.tally.Goals as goal
use Rattle.table.proofs.owning.Owners.tally.Goals.{in-Some, in-None}

pub loop-owner-preserved : goal.loop-owner-preserved
loop-owner-preserved c =
    let rises = c.args.self.now.rises in
    elim c.match-seat.branch [
      | in-Some w ↦ rw (w.room-is, w.freed-is) (tally_kept rises c.loop-owner.invariant c.loop-owner-test.true _ w.in-Some.ensures)
      | in-None w ↦ rw (w.room-is, w.freed-is) (tally_freed rises c.loop-owner.invariant c.loop-owner-test.true w.in-None.ensures)
    ]

pub returns : goal.returns
returns c =
    let rises = c.args.self.now.rises in
    record {
      counted = tally_count rises c.loop-owner.invariant c.loop-owner-test.false;
      left = tally_left rises c.loop-owner.invariant c.loop-owner-test.false;
    }
