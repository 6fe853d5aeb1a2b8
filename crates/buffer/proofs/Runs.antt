-- Laws of a buffer run: line after line the meaning is kept, and no line that can be taken is left.
-- Assumes nothing.
use mathlib.Core.Path.{◌≡◌, refl, sym, ap, ◌∙◌}
use mathlib.Core.Bool.{true, false, ◌&&◌, not, and-false}
use mathlib.Core.List.{List, [], ◌∷◌, ◌++◌, append-nil, append_assoc}
use mathlib.Core.Logic.{◌⊎◌, ⊎_elim}
use Prim.Native.Nat.{ℕ, zero, suc, ◌+◌, ◌-◌, ◌≤◌, ◌<◌}
use native.Mathlib.Nat.{sub-zero, zero-add}
use native.Mathlib.Omega.{arith}
use borrow.Author.Tests.{le-leb, not-true}
use lib.ListN.{length, drop, length-append}
use Rattle.std.specs.Prelude.{Some, None}
use Rattle.base.proofs.Tests.{by_test, and_left, and_right, and_both}
use Rattle.stream.specs.declared.State.{State}
use Rattle.stream.specs.declared.Said.{Said}
use Rattle.stream.specs.Steps.{next_number}
use Rattle.stream.specs.Text.{text_of}
use Rattle.stream.specs.Meaning.{at_end, meaning, printed}
use Rattle.stream.proofs.Meanings.{stopped_silent}
use Rattle.feed.specs.declared.Fed.{Fed}
use Rattle.feed.specs.Feed.{has_line, fed, fed_next, owners_fed}
use Rattle.feed.specs.declared.Passing.{Passing}
use Rattle.feed.specs.Passing.{passes_by}
use Rattle.feed.proofs.Passes.{passed_is_fed}
use Rattle.feed.proofs.Lines.{none_past, owners-none, next_goes, nothing_left, piece_left, end_prints}
use Rattle.printing.specs.Wrote.{wrote, room_for, said_at, place_after}
use Rattle.printing.proofs.Texts.{room_is, length-text, wrote_nothing, length-wrote, wrote-behind}
use Rattle.buffer.specs.declared.Ran.{Ran}
use Rattle.buffer.specs.Run.{Turn, may_go_on, goes_on, one_more, up_to, begun, run, ran}
use Rattle.buffer.specs.Reads.{Served, served, unserved, after_reads, all_read}
use Rattle.buffer.specs.Laws.{RunGoes, RunEnds, RunWithin, AnyReads, AllPrinted, RanFixed}

module _ (input : List ℕ) (size : ℕ) where
  -- a line more ----------------------------------------------------------------------

  pub has_line_lem : (t : Turn) → goes_on input size t ≡ true → has_line input t.next ≡ true
  has_line_lem t g = and_right (not t.state.stopped && room_for size (length t.text)) (has_line input t.next) g

  pub has_room : (t : Turn) → goes_on input size t ≡ true → room_for size (length t.text) ≡ true
  has_room t g = and_right (not t.state.stopped) (room_for size (length t.text)) (and_left (not t.state.stopped && room_for size (length t.text)) (has_line input t.next) g)

  pub none_more : (t : Turn) → length input ≤ t.next → goes_on input size t ≡ false
  none_more t l = rw (none_past input t.next l) (and-false (not t.state.stopped && room_for size (length t.text)))

  further : (t : Turn) → goes_on input size t ≡ true → (t.next < (one_more input t).next) × ((one_more input t).next ≤ length input)
  further t g = nothing_left t.state t.owners input t.next (has_line_lem t g)

  pub one_more_lem : (most : ℕ) (t : Turn) → goes_on input size t ≡ true → up_to (suc most) input size t ≡ up_to most input size (one_more input t)
  unfolding up_to
  one_more_lem most t g = rw g

  pub no_more : (most : ℕ) (t : Turn) → goes_on input size t ≡ false → up_to most input size t ≡ t
  unfolding up_to
  no_more zero t g = refl
  no_more (suc most) t g = rw g

  -- with room for the longest text the next one fits
  text-fits : (t : Turn) → goes_on input size t ≡ true → length (one_more input t).text ≤ size
  text-fits t g =
      let said = (fed t.state t.owners input t.next).said in
      let room = room_is size (length t.text) (has_room t g) in
      omega (arith, length-append t.text (text_of said), length-text said)

  -- as many lines as there are bytes left are enough
  pub enough : (most other : ℕ) (t : Turn) → length input ≤ most + t.next → length input ≤ other + t.next → up_to most input size t ≡ up_to other input size t
  enough zero other t l k = no_more 0 t (none_more t (omega arith)) ∙ sym (no_more other t (none_more t (omega arith)))
  enough (suc most) zero t l k = no_more (suc most) t (none_more t (omega arith)) ∙ sym (no_more 0 t (none_more t (omega arith)))
  enough (suc most) (suc other) t l k =
      by_test (goes_on input size t)
      (λ g. let on = further t g in one_more_lem most t g ∙ enough most other (one_more input t) (omega arith) (omega arith) ∙ sym (one_more_lem other t g))
      (λ g. no_more (suc most) t g ∙ sym (no_more (suc other) t g))

  -- the meaning ----------------------------------------------------------------------

  pub up_to_goes : (most : ℕ) (t : Turn) (rest : List ℕ) →
      t.text ++ meaning t.state t.owners [] (drop t.next input ++ rest)
      ≡ (up_to most input size t).text ++ meaning (up_to most input size t).state (up_to most input size t).owners [] (drop (up_to most input size t).next input ++ rest)
  unfolding up_to
  up_to_goes zero t rest = refl
  up_to_goes (suc most) t rest =
      by_test (goes_on input size t)
      (λ g. rw g (ap (λ m. t.text ++ m) (next_goes t.state t.owners input t.next rest) ∙ sym (append_assoc t.text (text_of (fed t.state t.owners input t.next).said) _) ∙ up_to_goes most (one_more input t) rest))
      (λ g. rw g)

  up_to-ends : (most : ℕ) (t : Turn) → length input ≤ most + t.next → goes_on input size (up_to most input size t) ≡ false
  unfolding up_to
  up_to-ends zero t l = none_more t (omega arith)
  up_to-ends (suc most) t l =
      by_test (goes_on input size t)
      (λ g. rw g (let on = further t g in up_to-ends most (one_more input t) (omega arith)))
      (λ g. rw g g)

  -- a run stays within the buffer and the output
  up_to-within : (most : ℕ) (t : Turn) → t.next ≤ length input → length t.text ≤ size →
      ((up_to most input size t).next ≤ length input) × (length (up_to most input size t).text ≤ size)
  unfolding up_to
  up_to-within zero t n l = (n, l)
  up_to-within (suc most) t n l =
      by_test (goes_on input size t)
      (λ g. rw g (up_to-within most (one_more input t) (further t g).1 (text-fits t g)))
      (λ g. rw g (n, l))

  -- the place never goes back, and a line moves it
  up_to_further : (most : ℕ) (t : Turn) → t.next ≤ (up_to most input size t).next
  unfolding up_to
  up_to_further zero t = omega arith
  up_to_further (suc most) t =
      by_test (goes_on input size t)
      (λ g. rw g (let on = further t g in let rest = up_to_further most (one_more input t) in omega arith))
      (λ g. rw g (omega arith))

  takes_one : (most : ℕ) (t : Turn) → goes_on input size t ≡ true → length input ≤ most + t.next → t.next < (up_to most input size t).next
  takes_one zero t g l = absurd (let on = further t g in omega arith)
  takes_one (suc most) t g l = let on = further t g in let rest = up_to_further most (one_more input t) in rw (one_more_lem most t g) (omega arith)

pub run_goes : RunGoes
run_goes s owners input size rest = up_to_goes input size (length input) (begun s owners) rest

pub run_ends : RunEnds
run_ends s owners input size = up_to-ends input size (length input) (begun s owners) (omega arith)

pub run-within : RunWithin
run-within s owners input size = up_to-within input size (length input) (begun s owners) (omega arith) (omega arith)

roomed : (size : ℕ) → 84 ≤ size → room_for size 0 ≡ true
unfolding room_for
roomed size l = le-leb (0 + 84) size (omega arith)

-- a run that takes nothing, though it may, has no line to take
pub run_idle : (s : State) (owners input : List ℕ) (size : ℕ) → (run s owners input size).next ≡ 0 → (run s owners input size).state.stopped ≡ false → 84 ≤ size → has_line input 0 ≡ false
run_idle s owners input size still on room =
    by_test (goes_on input size (begun s owners))
    (λ g. absurd (let moved = takes_one input size (length input) (begun s owners) g (omega arith) in omega arith))
    (λ g.
    let same = no_more input size (length input) (begun s owners) g in
    let may : may_go_on s.stopped size 0 ≡ true = rw (ap (λ t. t.state.stopped) (sym same) ∙ on, roomed size room) in
    rw may at g)

-- what the end of the input prints stays within the output
pub finish_within : (said : Said) (size : ℕ) → place_after said size 0 ≤ size
finish_within said size =
    by_test (room_for size 0)
    (λ r. rw r (let room = room_is size 0 r in omega (arith, length-text said)))
    (λ r. rw r (omega arith))

-- reads ------------------------------------------------------------------------------------

-- one read more
served_goes : (v : Served) (bytes : List ℕ) (size : ℕ) (rest : List ℕ) →
    v.text ++ meaning v.state v.owners [] (v.left ++ (bytes ++ rest))
    ≡ (served v bytes size).text ++ meaning (served v bytes size).state (served v bytes size).owners [] ((served v bytes size).left ++ rest)
served_goes v bytes size rest =
    ap (λ all. v.text ++ meaning v.state v.owners [] all) (sym (append_assoc v.left bytes rest))
    ∙ ap (λ m. v.text ++ m) (run_goes v.state v.owners (v.left ++ bytes) size rest)
    ∙ sym (append_assoc v.text (run v.state v.owners (v.left ++ bytes) size).text _)

reads_go : (v : Served) (reads : List (List ℕ × ℕ)) (rest : List ℕ) →
    v.text ++ meaning v.state v.owners [] (v.left ++ (all_read reads ++ rest))
    ≡ (after_reads v reads).text ++ meaning (after_reads v reads).state (after_reads v reads).owners [] ((after_reads v reads).left ++ rest)
unfolding after_reads all_read
reads_go v [] rest = refl
reads_go v (read ∷ reads) rest =
    ap (λ all. v.text ++ meaning v.state v.owners [] (v.left ++ all)) (append_assoc read.0 (all_read reads) rest)
    ∙ served_goes v read.0 read.1 (all_read reads ++ rest)
    ∙ reads_go (served v read.0 read.1) reads rest

pub any-reads : AnyReads
any-reads reads rest = reads_go unserved reads rest

-- nothing more is said by the lines left
left_says : (s : State) (owners left : List ℕ) → (s.stopped ≡ true) ⊎ (has_line left 0 ≡ false) → meaning s owners [] left ≡ text_of (at_end s left)
unfolding at_end
left_says s owners left ends =
    ⊎_elim
    (λ e. stopped_silent s owners [] left e ∙ sym (rw e))
    (λ f. end_prints s owners left (piece_left left 0 f).0)
    ends

pub all-printed : AllPrinted
all-printed reads ends =
    let v = after_reads unserved reads in
    ap (λ m. v.text ++ m) (sym (left_says v.state v.owners v.left ends) ∙ ap (meaning v.state v.owners []) (sym (append-nil v.left)))
    ∙ sym (any-reads reads []) ∙ ap printed (append-nil (all_read reads))

pub ran_fixed : RanFixed
ran_fixed s owners input out x y t u p q a b c d e f = (a ∙ sym b, c ∙ sym d, e ∙ sym f)

-- the loop ---------------------------------------------------------------------------------

-- what the loop has done so far: the text put into the output, and a turn from which the lines left lead to the same end
pub record Kept (owners₀ input out₀ : List ℕ) (s₀ : State) (owners out : List ℕ) (s : State) (next printed : ℕ) : Type 0 where
  pub text : List ℕ
  pub lent : length owners ≡ length owners₀
  pub within : next ≤ length input
  pub fits : length text ≤ length out₀
  pub put : out ≡ wrote out₀ 0 text
  pub place : printed ≡ length text
  pub whole : up_to (length input - next) input (length out₀) (record { state = s; owners = owners; text = text; next = next }) ≡ run s₀ owners₀ input (length out₀)

pub kept_first : (owners input out : List ℕ) (s : State) → Kept owners input out s owners out s 0 0
kept_first owners input out s = record {
  text = [];
  lent = refl;
  within = omega arith;
  fits = omega arith;
  put = sym (wrote_nothing out 0);
  place = refl;
  whole = ap (λ k. up_to k input (length out) (begun s owners)) (sub-zero (length input));
}

module _ {owners₀ input out₀ : List ℕ} {s₀ : State} {owners out : List ℕ} {s : State} {next printed : ℕ} (kept : Kept owners₀ input out₀ s₀ owners out s next printed) where
  abbrev now : Turn
  now = record { state = s; owners = owners; text = kept.text; next = next }

  pub kept_size : length out ≡ length out₀
  kept_size = ap length kept.put ∙ length-wrote out₀ 0 kept.text (omega (arith, kept.fits))

  -- what the call promises of the values reached
  abbrev Promised : Ran → List ℕ → List ℕ → Type 0
  Promised r owned put =
      (r ≡ ran (run s₀ owners₀ input (length out₀))) × (owned ≡ (run s₀ owners₀ input (length out₀)).owners) × (put ≡ wrote out₀ 0 (run s₀ owners₀ input (length out₀)).text)

  -- where no line more is taken the turn reached is the whole run
  done : goes_on input (length out₀) now ≡ false → Promised record { state = s; next = next; printed = printed } owners out
  done g =
      let end : now ≡ run s₀ owners₀ input (length out₀) = sym (no_more input (length out₀) (length input - next) now g) ∙ kept.whole in
      (ap (λ p. record { state = s; next = next; printed = p }) kept.place ∙ ap ran end, ap (λ t. t.owners) end, kept.put ∙ ap (λ t. wrote out₀ 0 t.text) end)

  -- a line that is fed is there, and the place behind it is further on, within the buffer
  line_there : (f : Fed) → fed_next s owners input next ≡ Some f → (has_line input next ≡ true) × (f ≡ fed s owners input next)
  line_there f e =
      by_test (has_line input next)
      (λ t. (t, let one = rw t at e in cc))
      (λ n. absurd (let none = rw n at e in cc))

  pub kept_less : (f : Fed) → fed_next s owners input next ≡ Some f → length input - f.next < length input - next
  kept_less f e =
      let there = line_there f e in
      let on = nothing_left s owners input next there.0 in
      let here = ap (λ x. x.next) there.1 in
      omega arith

  same_room : may_go_on s.stopped (length out) printed ≡ may_go_on s.stopped (length out₀) (length kept.text)
  same_room = ap (λ n. may_go_on s.stopped n printed) kept_size ∙ ap (λ p. may_go_on s.stopped (length out₀) p) kept.place

  -- the loop ends because nothing more may be said, or because no line is left
  pub kept_full : may_go_on s.stopped (length out) printed ≡ false → Promised record { state = s; next = next; printed = printed } owners out
  kept_full m = done (ap (λ b. b && has_line input next) (sym same_room ∙ m))

  pub kept_ends : (owners' : List ℕ) → fed_next s owners input next ≡ None → owners' ≡ owners_fed s owners input next → Promised record { state = s; next = next; printed = printed } owners' out
  kept_ends owners' e o =
      let none : has_line input next ≡ false = by_test (has_line input next) (λ t. absurd (let one = rw t at e in cc)) (λ n. n) in
      let end = done (ap (λ b. may_go_on s.stopped (length out₀) (length kept.text) && b) none ∙ and-false (may_go_on s.stopped (length out₀) (length kept.text))) in
      (end.0, o ∙ owners-none s owners input next none ∙ end.1, end.2)

  -- one line more
  kept_line : may_go_on s.stopped (length out) printed ≡ true → has_line input next ≡ true → length (owners_fed s owners input next) ≡ length owners₀ →
      Kept owners₀ input out₀ s₀ (owners_fed s owners input next) (said_at (fed s owners input next).said out printed) (fed s owners input next).state (fed s owners input next).next (place_after (fed s owners input next).said (length out) printed)
  kept_line m h lent =
      let said = (fed s owners input next).said in
      let g : goes_on input (length out₀) now ≡ true = and_both (may_go_on s.stopped (length out₀) (length kept.text)) (has_line input next) (sym same_room ∙ m) h in
      let on = further input (length out₀) now g in
      let room : room_for (length out) printed ≡ true = and_right (not s.stopped) (room_for (length out) printed) m in
      let more : suc (length input - next - 1) ≡ length input - next = omega arith in
      let line = one_more_lem input (length out₀) (length input - next - 1) now g in
      record {
        text = kept.text ++ text_of said;
        lent = lent;
        within = on.1;
        fits = text-fits input (length out₀) now g;
        put = rw room (ap (λ o. wrote o printed (text_of said)) kept.put ∙ ap (λ p. wrote (wrote out₀ 0 kept.text) p (text_of said)) (kept.place ∙ sym (zero-add (length kept.text))) ∙ wrote-behind out₀ 0 kept.text (text_of said) (omega (arith, kept.fits)));
        place = rw room (ap (λ p. p + length (text_of said)) kept.place ∙ sym (length-append kept.text (text_of said)));
        whole = enough input (length out₀) (length input - (fed s owners input next).next) (length input - next - 1) (one_more input now) (omega arith) (omega arith) ∙ sym line ∙ ap (λ k. up_to k input (length out₀) now) more ∙ kept.whole;
      }

  pub kept_next : (f : Fed) (owners' out' : List ℕ) (printed' : ℕ) → may_go_on s.stopped (length out) printed ≡ true → fed_next s owners input next ≡ Some f
      → owners' ≡ owners_fed s owners input next → length owners' ≡ length owners₀ → printed' ≡ place_after f.said (length out) printed → out' ≡ said_at f.said out printed
      → Kept owners₀ input out₀ s₀ owners' out' f.state f.next printed'
  kept_next f owners' out' printed' m e o lent p q =
      let there = line_there f e in
      rw (p, q, there.1, o) (kept_line m there.0 (ap length (sym o) ∙ lent))

  -- a line passed, with no roster at hand, is a line fed
  module _ (p : Passing) (m : may_go_on s.stopped (length out) printed ≡ true) (e : passes_by s.due (next_number s.lines) s.slots owners input next ≡ Some p) where
    going : s.stopped ≡ false
    going = not-true s.stopped (and_left (not s.stopped) (room_for (length out) printed) m)

    as_fed : (fed_next s owners input next ≡ Some record { state = record s { due = p.due; lines = next_number s.lines }; said = p.said; next = p.next }) × (owners_fed s owners input next ≡ owners)
    as_fed =
        let line = passed_is_fed s owners input next p e going in
        (line.0 ∙ ap (λ b. Some record { state = record { due = p.due; slots = s.slots; roster = s.roster; lines = next_number s.lines; stopped = b }; said = p.said; next = p.next }) (sym going), line.1)

    pub passed_less : length input - p.next < length input - next
    passed_less = kept_less _ as_fed.0

    pub kept_passed : (out' : List ℕ) (printed' : ℕ) → printed' ≡ place_after p.said (length out) printed → out' ≡ said_at p.said out printed
        → Kept owners₀ input out₀ s₀ owners out' (record s { due = p.due; lines = next_number s.lines }) p.next printed'
    kept_passed out' printed' pl pr = kept_next _ owners out' printed' m as_fed.0 (sym as_fed.1) kept.lent pl pr
