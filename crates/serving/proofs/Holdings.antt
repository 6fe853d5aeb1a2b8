-- Laws of what is held between two turns: a run, what is kept, and what is read lead from one to the next.
-- Assumes nothing.
use mathlib.Core.Path.{◌≡◌, refl, sym, ap, ◌∙◌}
use mathlib.Core.Bool.{Bool, true, false}
use mathlib.Core.List.{List, [], ◌∷◌, ◌++◌, append-nil, append_assoc}
use mathlib.Core.Logic.{inl, inr}
use Prim.Native.Nat.{ℕ, ◌+◌, ◌≤◌, ◌<◌}
use native.Mathlib.Omega.{arith}
use lib.ListN.{length, take, drop, replicate, length-append}
use lib.Seq.{take_at, take-append-add, length-take-le}
use Rattle.stream.specs.declared.State.{State}
use Rattle.stream.specs.Steps.{start}
use Rattle.feed.specs.Feed.{has_line}
use Rattle.feed.proofs.Lines.{piece_left}
use Rattle.printing.specs.Wrote.{wrote}
use Rattle.buffer.specs.declared.Ran.{Ran}
use Rattle.buffer.specs.Run.{run, ran}
use Rattle.buffer.specs.Reads.{Served, unserved, gone_on, served, after_reads}
use Rattle.buffer.proofs.Runs.{run-within, run_idle}
use Rattle.serving.specs.declared.Server.{Server}
use Rattle.serving.specs.Served.{Faithful}
use Rattle.serving.specs.Turns.{Holding, Waiting, Longer, Unchanged}

-- before the first read nothing is held
pub holding_first : (v : Server) → v.state ≡ start → v.owners ≡ replicate 16384 0 → v.held ≡ 0 → Holding v
unfolding after_reads
holding_first v s o h = record { reads = []; since = []; state = s; owned = o; bytes = ap (λ n. take n v.buf) h; within = omega arith }

-- one read more, behind the others
after_one_more : (v : Served) (reads : List (List ℕ × ℕ)) (bytes : List ℕ) (size : ℕ) → after_reads v (reads ++ (bytes, size) ∷ []) ≡ served (after_reads v reads) bytes size
unfolding after_reads
after_one_more v [] bytes size = refl
after_one_more v (read ∷ reads) bytes size = after_one_more (served v read.0 read.1) reads bytes size

module _ {v : Server} (kept : Holding v) (size : ℕ) (r : Ran) (is : r ≡ ran (run v.state v.owners (take v.held v.buf) size)) where
  -- the reads with the run that was made of them
  abbrev reads : List (List ℕ × ℕ)
  reads = kept.reads ++ (kept.since, size) ∷ []

  after_run : after_reads unserved reads ≡ gone_on (after_reads unserved kept.reads) (take v.held v.buf) (run v.state v.owners (take v.held v.buf) size)
  after_run = after_one_more unserved kept.reads kept.since size ∙ sym (rw (kept.bytes, kept.state, kept.owned))

  now_state : r.state ≡ (after_reads unserved reads).state
  now_state = ap (λ x. x.state) is ∙ sym (ap (λ x. x.state) after_run)

  now_left : (after_reads unserved reads).left ≡ drop r.next (take v.held v.buf)
  now_left = ap (λ x. x.left) after_run ∙ ap (λ x. drop x.next (take v.held v.buf)) (sym is)

  now_owned : (owners : List ℕ) → owners ≡ (run v.state v.owners (take v.held v.buf) size).owners → owners ≡ (after_reads unserved reads).owners
  now_owned owners o = o ∙ sym (ap (λ x. x.owners) after_run)

  -- a write failed, or the stream has stopped
  pub over : (told : Bool) → (told ≡ true → r.state.stopped ≡ true) → Faithful r.state told
  over told stops = record { reads = reads; state = now_state; done = λ w. inl (sym (ap (λ x. x.stopped) now_state) ∙ stops w) }

  -- nothing was taken, since no line is left
  module _ (still : r.next ≡ 0) (on : r.state.stopped ≡ false) (room : 84 ≤ size) where
    none : has_line (take v.held v.buf) 0 ≡ false
    none = run_idle v.state v.owners (take v.held v.buf) size (sym (ap (λ x. x.next) is) ∙ still) (sym (ap (λ x. x.state.stopped) is) ∙ on) room

    pub waiting : (w : Server) → w.state ≡ r.state → w.owners ≡ (run v.state v.owners (take v.held v.buf) size).owners → w.buf ≡ v.buf → w.held ≡ v.held → Waiting w
    waiting w s o b h =
        let same : take w.held w.buf ≡ take v.held v.buf = rw (b, h) in
        record {
          reads = reads;
          state = s ∙ now_state;
          owned = now_owned w.owners o;
          bytes = same ∙ sym (now_left ∙ ap (λ n. drop n (take v.held v.buf)) still);
          none = ap (λ l. has_line l 0) same ∙ none;
        }

    -- and leaves room behind it
    pub room_left : 8192 < length v.buf → v.held < length v.buf
    room_left large =
        let few = (piece_left (take v.held v.buf) 0 none).1 in
        let most = length-take-le v.held v.buf kept.within in
        omega arith

  -- what is left was moved to the front
  pub shorter : (w : Server) (part : List ℕ) → w.state ≡ r.state → w.owners ≡ (run v.state v.owners (take v.held v.buf) size).owners → w.buf ≡ part ++ drop v.held v.buf →
      w.held ≡ length (drop r.next (take v.held v.buf)) → part ≡ wrote (take v.held v.buf) 0 (drop r.next (take v.held v.buf)) → Holding w
  unfolding wrote
  shorter w part s o b h put =
      let left = drop r.next (take v.held v.buf) in
      let tail = drop (0 + length left) (take v.held v.buf) in
      let all : w.buf ≡ left ++ (tail ++ drop v.held v.buf) = b ∙ ap (λ p. p ++ drop v.held v.buf) put ∙ append_assoc left tail (drop v.held v.buf) in
      record {
        reads = reads;
        since = [];
        state = s ∙ now_state;
        owned = now_owned w.owners o;
        bytes = ap (take w.held) all ∙ take_at left (tail ++ drop v.held v.buf) w.held (sym h) ∙ sym now_left ∙ sym (append-nil _);
        within = rw all (omega (arith, length-append left (tail ++ drop v.held v.buf)));
      }

module _ {v : Server} (waits : Waiting v) where
  -- the input has ended
  pub ended : (told : Bool) → Faithful v.state told
  ended told = record { reads = waits.reads; state = waits.state; done = λ w. inr (ap (λ l. has_line l 0) (sym waits.bytes) ∙ waits.none) }

  -- what came stands behind what was held
  pub longer : (w : Server) (part rest : List ℕ) → Unchanged v w → w.buf ≡ take v.held v.buf ++ (part ++ rest) → v.held ≤ length v.buf → w.held ≤ v.held + length part →
      Longer v.buf w.buf v.held w.held → Holding w
  longer w part rest same b within most l =
      let size = length-take-le v.held v.buf within in
      record {
        reads = waits.reads;
        since = l.came;
        state = same.state ∙ waits.state;
        owned = same.owners ∙ waits.owned;
        bytes = l.bytes ∙ ap (λ x. x ++ l.came) waits.bytes;
        within = rw b (omega (arith, length-append (take v.held v.buf) (part ++ rest), length-append part rest));
      }

-- a read puts what came behind the bytes held
pub read_behind : (buf tail : List ℕ) (held n : ℕ) → held + n ≤ length buf → Longer buf (take held buf ++ tail) held (held + n)
read_behind buf tail held n l = record {
  came = take n tail;
  bytes = ap (λ k. take (k + n) (take held buf ++ tail)) (sym (length-take-le held buf (omega arith))) ∙ take-append-add (take held buf) tail n;
  within = l;
}

-- what a run prints stays within the output
pub run_fits : (r : Ran) (s : State) (owners input : List ℕ) (size : ℕ) → r ≡ ran (run s owners input size) → r.printed ≤ size
run_fits r s owners input size is = let most = (run-within s owners input size).1 in let put = ap (λ x. x.printed) is in omega arith
