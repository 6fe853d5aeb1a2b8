-- A whole input, read in pieces: after each read the buffer is run, and what is left of it stands before the next piece.
-- Assumes nothing.
use Rattle.std.specs.Prelude.{List, [], ◌∷◌, ◌++◌, ℕ, drop, replicate}
use Rattle.stream.specs.declared.State.{State}
use Rattle.stream.specs.Steps.{start}
use Rattle.buffer.specs.Run.{Turn, run}

-- how far an input is served: the state, the owners, all that was printed, and the piece of a line that is left
pub record Served : Type 0 where
  pub state : State
  pub owners : List ℕ
  pub text : List ℕ
  pub left : List ℕ

-- before the first read
abbrev pub unserved : Served
unserved = record { state = start; owners = replicate 16384 0; text = []; left = [] }

-- a buffer run, printed and cut off
abbrev pub gone_on : Served → List ℕ → Turn → Served
gone_on v input t = record { state = t.state; owners = t.owners; text = v.text ++ t.text; left = drop t.next input }

-- some bytes read (or none, where an output was full) and the buffer run with an output of some size
abbrev pub served : Served → List ℕ → ℕ → Served
served v bytes size = gone_on v (v.left ++ bytes) (run v.state v.owners (v.left ++ bytes) size)

-- read after read
unfoldable pub after_reads : Served → List (List ℕ × ℕ) → Served
after_reads v [] = v
after_reads v (read ∷ reads) = after_reads (served v read.0 read.1) reads

-- all the bytes read
unfoldable pub all_read : List (List ℕ × ℕ) → List ℕ
all_read [] = []
all_read (read ∷ reads) = read.0 ++ all_read reads
