-- Laws of the next whole line: its end found byte by byte, and the meaning with the line taken.
-- Assumes nothing.
use mathlib.Core.Path.{◌≡◌, refl, sym, ap, ◌∙◌}
use mathlib.Core.Bool.{true, false, and-false}
use mathlib.Core.List.{List, [], ◌∷◌, ◌++◌, append-nil, append_assoc}
use Prim.Native.Nat.{ℕ, suc, ◌+◌, ◌≤◌, ◌<◌, min}
use native.Mathlib.Nat.{not-suc-le-zero, le_of_suc-le-suc}
use native.Mathlib.Omega.{arith, by_contra}
use borrow.Author.Tests.{le-ltb, ne_eqb, ltb-true, ltb-false}
use lib.Dec.{eqb, ltb}
use lib.ListN.{length, take, drop, length-append, length-drop, drop_of_length-le}
use lib.Seq.{drop-drop, take-length}
use Rattle.std.specs.List.{position_or_len}
use Rattle.base.proofs.Tests.{by_test, never, or_left, or_right}
use Rattle.lines.specs.Lines.{malformed}
use Rattle.lines.proofs.Promised.{long_malformed}
use Rattle.stream.specs.declared.State.{State}
use Rattle.stream.specs.declared.Said.TheVariants.{Wrong}
use Rattle.stream.specs.Steps.{next_number, halted, takes, owners_after}
use Rattle.stream.specs.Text.{text_of}
use Rattle.stream.specs.Meaning.{may_begin, at_end, meaning}
use Rattle.stream.proofs.Turns.{turn_says}
use Rattle.stream.proofs.Meanings.{stopped_takes, stopped_silent}
use Rattle.feed.specs.Feed.{before_ten, has_line, line_at, nothing, fed, owners_fed}
use Rattle.feed.specs.Laws.{NextGoes, NothingLeft, PieceLeft, LongPiece, EndPrints, FedFixed, EndFixed}

-- the end of a line ------------------------------------------------------------------------

-- as std counts up to it
pub ten_first : (bytes : List ℕ) → position_or_len (λ byte. eqb byte 10) bytes ≡ before_ten bytes
unfolding before_ten
ten_first [] = refl
ten_first (byte ∷ bytes) = by_test (eqb byte 10) (λ t. rw t) (λ f. rw f (omega (arith, ten_first bytes)))

pub ten_within : (bytes : List ℕ) → before_ten bytes ≤ length bytes
unfolding before_ten
ten_within [] = omega arith
ten_within (byte ∷ bytes) = by_test (eqb byte 10) (λ t. rw t (omega arith)) (λ f. rw f (let tail = ten_within bytes in omega arith))

-- a line to take, or none ------------------------------------------------------------------

pub none_past : (input : List ℕ) (from : ℕ) → length input ≤ from → has_line input from ≡ false
none_past input from l = let size = length-drop from input in rw (le-ltb (before_ten (drop from input)) (length (drop from input)) (omega arith), le-ltb 8192 (length (drop from input)) (omega arith))

pub piece_left : PieceLeft
piece_left input from f =
    let bytes = drop from input in
    let none = ltb-false (before_ten bytes) (length bytes) (or_left (ltb (before_ten bytes) (length bytes)) (ltb 8192 (length bytes)) f) in
    let most = ten_within bytes in
    (omega arith, ltb-false 8192 (length bytes) (or_right (ltb (before_ten bytes) (length bytes)) (ltb 8192 (length bytes)) f))

pub owners-none : (s : State) (owners input : List ℕ) (from : ℕ) → has_line input from ≡ false → owners_fed s owners input from ≡ owners
unfolding owners_fed
owners-none s owners input from f = rw f

pub fed_line : (s : State) (owners input : List ℕ) (from : ℕ) → has_line input from ≡ true →
    fed s owners input from ≡ record { state = (takes s owners (line_at input from)).state; said = (takes s owners (line_at input from)).said; next = min (from + before_ten (drop from input) + 1) (length input) }
unfolding fed
fed_line s owners input from t = rw t

pub owners_line : (s : State) (owners input : List ℕ) (from : ℕ) → has_line input from ≡ true → owners_fed s owners input from ≡ owners_after s owners (line_at input from)
unfolding owners_fed
owners_line s owners input from t = rw t

-- the meaning ------------------------------------------------------------------------------

-- with a piece already read, a whole line is taken with that piece before it
line_taken : (s : State) (owners piece bytes rest : List ℕ) → before_ten bytes < length bytes →
    meaning s owners piece (bytes ++ rest)
    ≡ text_of (takes s owners (piece ++ take (before_ten bytes) bytes)).said
    ++ meaning (takes s owners (piece ++ take (before_ten bytes) bytes)).state (owners_after s owners (piece ++ take (before_ten bytes) bytes)) [] (drop (suc (before_ten bytes)) bytes ++ rest)
unfolding before_ten meaning
line_taken s owners piece [] rest l = absurd (not-suc-le-zero l)
line_taken s owners piece (byte ∷ bytes) rest l =
    by_test (eqb byte 10)
    (λ t. rw (t, append-nil piece))
    (λ f. rw f (rw (append_assoc piece (byte ∷ []) (take (before_ten bytes) bytes)) at (line_taken s owners (piece ++ byte ∷ []) bytes rest (le_of_suc-le-suc (rw f at l)))))

-- a piece without byte 10 waits for what comes
piece_waits : (s : State) (owners piece bytes rest : List ℕ) → before_ten bytes ≡ length bytes → meaning s owners piece (bytes ++ rest) ≡ meaning s owners (piece ++ bytes) rest
unfolding before_ten meaning
piece_waits s owners piece [] rest e = rw (append-nil piece)
piece_waits s owners piece (byte ∷ bytes) rest e =
    by_test (eqb byte 10)
    (λ t. absurd (let z = rw t at e in omega arith))
    (λ f. rw f (rw (append_assoc piece (byte ∷ []) bytes) at (piece_waits s owners (piece ++ byte ∷ []) bytes rest (let z = rw f at e in omega arith))))

pub end_prints : EndPrints
unfolding meaning
end_prints s owners piece e = ap (meaning s owners []) (sym (append-nil piece)) ∙ piece_waits s owners [] piece [] e

-- a long piece is malformed whether byte 10 comes or the end
long_takes : (s : State) (owners piece : List ℕ) → s.stopped ≡ false → 8192 < length piece → takes s owners piece ≡ record { state = halted s; said = Wrong (next_number s.lines) }
long_takes s owners piece on l = turn_says s owners piece (malformed (next_number s.lines)) on (long_malformed s.due (next_number s.lines) piece l)

long_waits : (s : State) (owners piece rest : List ℕ) → s.stopped ≡ false → 8192 < length piece → meaning s owners piece rest ≡ text_of (Wrong (next_number s.lines))
unfolding meaning at_end
long_waits s owners piece [] on l = rw (on, ne_eqb (length piece) 0 (λ e. absurd (omega arith)), and-false (may_begin s.due))
long_waits s owners piece (byte ∷ rest) on l =
    by_test (eqb byte 10)
    (λ t. rw (t, long_takes s owners piece on l, stopped_silent (halted s) (owners_after s owners piece) [] rest refl) (append-nil _))
    (λ f. rw f (long_waits s owners (piece ++ byte ∷ []) rest on (omega (arith, length-append piece (byte ∷ [])))))

pub long_piece : LongPiece
long_piece s owners piece rest on none l = piece_waits s owners [] piece rest none ∙ long_waits s owners piece rest on l

-- the next line ------------------------------------------------------------------------

-- a place behind the end is the end
drop-within : (n : ℕ) (l : List ℕ) → drop (min n (length l)) l ≡ drop n l
drop-within n l =
    by_test (ltb (length l) n)
    (λ t. let past = ltb-true (length l) n t in let end : min n (length l) ≡ length l = omega arith in rw end (drop_of_length-le l {i = length l} (omega arith) ∙ sym (drop_of_length-le l {i = n} (omega arith))))
    (λ f. let here = ltb-false (length l) n f in let same : min n (length l) ≡ n = omega arith in rw same)

-- a line with which the stream stops, or behind which it has stopped, says all that is said
last_says : (s : State) (owners line bytes : List ℕ) → (takes s owners line).state.stopped ≡ true →
    text_of (takes s owners line).said ++ meaning (takes s owners line).state (owners_after s owners line) [] bytes ≡ text_of (takes s owners line).said
last_says s owners line bytes e = rw (stopped_silent (takes s owners line).state (owners_after s owners line) [] bytes e) (append-nil _)

-- a line above 8,192 bytes is taken as if its byte 10 came next
long_goes : (s : State) (owners piece rest bytes : List ℕ) → before_ten piece ≡ length piece → 8192 < length piece →
    meaning s owners [] (piece ++ rest) ≡ text_of (takes s owners piece).said ++ meaning (takes s owners piece).state (owners_after s owners piece) [] bytes
long_goes s owners piece rest bytes none l =
    by_test s.stopped
    (λ e. stopped_silent s owners [] (piece ++ rest) e ∙ sym (last_says s owners piece bytes (rw (stopped_takes s owners piece e) e) ∙ rw (stopped_takes s owners piece e)))
    (λ on. long_piece s owners piece rest on none l ∙ sym (last_says s owners piece bytes (rw (long_takes s owners piece on l)) ∙ rw (long_takes s owners piece on l)))

pub next_goes : NextGoes
unfolding fed owners_fed
next_goes s owners input from rest =
    let bytes = drop from input in
    let k = before_ten bytes in
    let line = line_at input from in
    let place : from + suc k ≡ from + k + 1 = omega arith in
    by_test (has_line input from)
    (λ t. rw t (by_test (ltb k (length bytes))
    (λ w. line_taken s owners [] bytes rest (ltb-true _ _ w)
    ∙ ap (λ d. text_of (takes s owners line).said ++ meaning (takes s owners line).state (owners_after s owners line) [] (d ++ rest)) (drop-drop (suc k) from input ∙ ap (λ n. drop n input) place ∙ sym (drop-within (from + k + 1) input)))
    (λ f. let all : k ≡ length bytes = omega (arith, ten_within bytes, ltb-false k (length bytes) f) in
    let whole : line ≡ bytes = ap (λ n. take n bytes) all ∙ take-length bytes in
    rw whole (long_goes s owners bytes rest _ all (ltb-true 8192 (length bytes) (rw f at t))))))
    (λ f. rw f)

pub nothing_left : NothingLeft
unfolding fed
nothing_left s owners input from t =
    let size = length-drop from input in
    let some : 0 < length (drop from input) = by_contra 1 (length (drop from input)) (λ z. never (has_line input from) t (none_past input from (omega arith))) in
    rw t (omega arith, omega arith)

-- one reply ------------------------------------------------------------------------

pub fed_fixed : FedFixed
fed_fixed s owners input from x y t u p q v w = (p ∙ sym q, v ∙ sym w)

pub end_fixed : EndFixed
end_fixed s piece x y p q = p ∙ sym q
