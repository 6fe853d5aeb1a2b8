-- Helper notions of the proofs, no rule of the document: what is held between two turns is what the definition of reads leads to.
-- Assumes nothing.
use Rattle.std.specs.Prelude.{◌≡◌, false, List, ◌++◌, ℕ, ◌≤◌, length, take}
use Rattle.feed.specs.Feed.{has_line}
use Rattle.buffer.specs.Reads.{unserved, after_reads}
use Rattle.serving.specs.declared.Server.{Server}

-- between two turns: after some reads the state and the owners are those of the definition, and the bytes held are what it has left and what was read since
pub record Holding (v : Server) : Type 0 where
  pub reads : List (List ℕ × ℕ)
  pub since : List ℕ
  pub state : v.state ≡ (after_reads unserved reads).state
  pub owned : v.owners ≡ (after_reads unserved reads).owners
  pub bytes : take v.held v.buf ≡ (after_reads unserved reads).left ++ since
  pub within : v.held ≤ length v.buf

-- before more is read: the same with nothing read since, and no line is left to take
pub record Waiting (v : Server) : Type 0 where
  pub reads : List (List ℕ × ℕ)
  pub state : v.state ≡ (after_reads unserved reads).state
  pub owned : v.owners ≡ (after_reads unserved reads).owners
  pub bytes : take v.held v.buf ≡ (after_reads unserved reads).left
  pub none : has_line (take v.held v.buf) 0 ≡ false

-- what is held after a read: what was held, and what came behind it
pub record Longer (before after : List ℕ) (held more : ℕ) : Type 0 where
  pub came : List ℕ
  pub bytes : take more after ≡ take held before ++ came
  pub within : more ≤ length before

-- reading changes neither the state nor the owners
pub record Unchanged (before after : Server) : Type 0 where
  pub state : after.state ≡ before.state
  pub owners : after.owners ≡ before.owners
