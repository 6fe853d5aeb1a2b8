-- A text put into a lent output: at its place the text, before it and behind it what stood there.
-- Assumes nothing.
use Rattle.std.specs.Prelude.{List, ◌++◌, ℕ, ◌+◌, Bool, cond, leb, length, take, drop}
use Rattle.stream.specs.declared.Said.{Said}
use Rattle.stream.specs.Text.{text_of}

unfoldable pub wrote : List ℕ → ℕ → List ℕ → List ℕ
wrote out place text = take place out ++ text ++ drop (place + length text) out

-- room for the longest text: three lines of at most 28 bytes, a name of 7, a number of 20 and byte 10
unfoldable pub room_for : ℕ → ℕ → Bool
room_for size place = leb (place + 84) size

-- what is put for what a stream says, and the place behind it; nothing without room
abbrev pub said_at : Said → List ℕ → ℕ → List ℕ
said_at said out place = cond (room_for (length out) place) (wrote out place (text_of said)) out

abbrev pub place_after : Said → ℕ → ℕ → ℕ
place_after said size place = cond (room_for size place) (place + length (text_of said)) place
