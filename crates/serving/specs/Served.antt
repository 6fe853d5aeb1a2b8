-- What serving an input promises: it ends where the definition of reads ends.
-- Assumes nothing.
use Rattle.std.specs.Prelude.{◌≡◌, Bool, true, false, List, ◌⊎◌, ℕ}
use Rattle.stream.specs.declared.State.{State}
use Rattle.feed.specs.Feed.{has_line}
use Rattle.buffer.specs.Reads.{unserved, after_reads}

-- at the end: there are reads, if only none, after which the definition has this state; and, if so told, the stream has stopped or no line is left to take
pub record Faithful (s : State) (told : Bool) : Type 0 where
  pub reads : List (List ℕ × ℕ)
  pub state : s ≡ (after_reads unserved reads).state
  pub done : told ≡ true → ((after_reads unserved reads).state.stopped ≡ true) ⊎ (has_line (after_reads unserved reads).left 0 ≡ false)
