-- `Owners::move_slots` meets its contract: the freed slots are as many as the hosts lack, so they are handed over.
use mathlib.Core.Path.{◌≡◌, sym, ap, ◌∙◌}
use native.Mathlib.Nat.{le_of_eq}
use lib.ListN.{length}
use Rattle.base.proofs.Entries.{length-table}
use Rattle.mover.specs.Mover.{quota_of, lack, lacks, runs}
use Rattle.mover.specs.Pass.{pass, frees}
use Rattle.mover.proofs.Laws.{freed_is_frees, freed_is_lacking, moved_is_pass}
use Rattle.mover.proofs.Runs.{runs-length}
use Rattle.table.proofs.owning.Owners.move_slots.Goals as goal
use Rattle.table.proofs.owning.Owners.move_slots.Goals.{After-tally-freed}

-- what is left of the room is what the hosts lack
lacking : (c : After-tally-freed) → let args = c.args in c.tally-freed.new.room ≡ lacks args.self.now.numbers.now args.room.now args.table.now
lacking c = let args = c.args in c.tally-freed.ensures.left ∙ ap (λ q. lacks args.self.now.numbers.now q args.table.now) c.requires.fits.1

-- and what was counted is what is freed
counted : (c : After-tally-freed) → let args = c.args in c.tally-freed.result ≡ frees (quota_of args.self.now.numbers.now args.room.now) args.table.now
counted c = let args = c.args in c.tally-freed.ensures.counted ∙ ap (λ q. frees (quota_of args.self.now.numbers.now q) args.table.now) c.requires.fits.1

pub hand_over-requires : goal.hand_over-requires
hand_over-requires c =
    let args = c.args in
    let fit = c.requires.fits.0 in
    let long = length-table (length args.self.now.numbers.now) (lack args.self.now.numbers.now args.room.now args.table.now) in
    record {
      known = (fit.a_quota_each, ap length (lacking (goal.at.hand_over-requires c).After-tally-freed) ∙ long);
      enough = rw (lacking (goal.at.hand_over-requires c).After-tally-freed) (le_of_eq (freed_is_frees _ _ _ ∙ freed_is_lacking _ _ _ fit ∙ sym (runs-length _ _ long)));
    }

pub returns : goal.returns
returns c =
    let args = c.args in
    let handed = c.hand_over.ensures in
    record {
      count = counted (goal.at.returns c).After-tally-freed ∙ freed_is_frees _ _ _;
      slots = handed ∙ ap (λ n. pass (quota_of args.self.now.numbers.now args.room.now) (runs args.self.now.numbers.now n) args.table.now) (lacking (goal.at.returns c).After-tally-freed) ∙ moved_is_pass args.self.now.numbers.now args.room.now args.table.now;
    }
