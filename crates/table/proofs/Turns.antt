-- One turn of the two loops over the slots: an owner that has room keeps its slot, any other slot is freed.
-- Assumes nothing.
use mathlib.Core.Path.{◌≡◌, refl, sym, ap, ◌∙◌, subst, fun_ext}
use mathlib.Core.Bool.{true, false}
use mathlib.Core.Logic.{by_cases}
use mathlib.Core.List.{List, [], ◌∷◌, ◌++◌}
use Prim.Native.Nat.{ℕ, zero, suc, ◌+◌, ◌-◌, ◌≤◌, ◌<◌, zero-le}
use native.Mathlib.Nat.{not-suc-le-zero, le_of_suc-le-suc, le_refl, le_of_lt, le_of_eq, add-zero, zero-add, suc_inj, lt_irrefl, zero-lt-suc}
use native.Mathlib.Numerals.{add-one}
use native.Mathlib.Omega.{arith, by_contra}
use native.Mathlib.Decide.{ℕ_discrete, dec_lt}
use lib.Dec.{eqb}
use lib.ListN.{length, drop, set, replicate, length-set, drop_of_length-le}
use lib.Seq.{drop-cons, drop-drop, get_or-drop, get_or-set_same, get_or-set_other, take_all}
use borrow.Author.Tests.{eq-eqb, ne_eqb}
use Rattle.std.specs.Prelude.{Option, Some, None, IsSome}
use Rattle.base.specs.Tables.{one_if, at}
use Rattle.base.proofs.Tests.{by_test}
use Rattle.base.proofs.Entries.{is_table, overlay, overlay_next, overlay_done, at_overlay}
use Rattle.roster.specs.Roster.{is_on, place, Rises}
use Rattle.roster.proofs.Search.{place_at, on_place}
use Rattle.mover.specs.Mover.{held, quota_of, lack, lacks, runs}
use Rattle.mover.specs.Pass.{lowered, pass, frees, room_after}
use Rattle.mover.proofs.Passes.{lowered-same, lowered_other, lowered-zero, length-pass, room_after_lem}
use Rattle.mover.proofs.Laws.{quota_on, quota_off, quota-host, host_on}
use Rattle.table.specs.Seat.{SeatAt, ShortAt, NextShort}

-- the room as a list ----------------------------------------------------------------------

-- one less at a host's place is one less of its room
list_lowered : (hosts room : List ℕ) → Rises hosts → length room ≡ length hosts → (p h : ℕ) → p < length hosts → at hosts p ≡ h →
    (k : ℕ) → quota_of hosts (set room p (at room p - 1)) k ≡ lowered (quota_of hosts room) h k
list_lowered hosts room rises e p h l here k =
    by_cases (ℕ_discrete k h)
    (λ (s : k ≡ h).
    let at_p : place hosts k ≡ p = place_at hosts rises k p l (here ∙ sym s) in
    let on : is_on hosts k ≡ true = subst (λ x. is_on hosts x ≡ true) (here ∙ sym s) (host_on hosts rises p l) in
    quota_on hosts (set room p (at room p - 1)) k on ∙ ap (at (set room p (at room p - 1))) at_p ∙ get_or-set_same room p _ 0 (omega arith)
    ∙ sym (lowered-same (quota_of hosts room) h k s ∙ ap (λ n. n - 1) (quota_on hosts room k on ∙ ap (at room) at_p)))
    (λ ne. by_test (is_on hosts k)
    (λ t. let on = on_place hosts rises k t in
    let other : place hosts k ≡ p → ⊥ = λ v. ne (sym on.1 ∙ ap (at hosts) v ∙ here) in
    quota_on hosts (set room p (at room p - 1)) k t ∙ get_or-set_other room p (place hosts k) _ 0 other ∙ sym (quota_on hosts room k t) ∙ sym (lowered_other (quota_of hosts room) h k ne))
    (λ f. quota_off hosts (set room p (at room p - 1)) k f ∙ sym (quota_off hosts room k f) ∙ sym (lowered_other (quota_of hosts room) h k ne)))

-- what a seat tells
module _ (hosts room : List ℕ) (rises : Rises hosts) (e : length room ≡ length hosts) (owner p : ℕ) (s : SeatAt hosts room owner p) where
  pub keeps_room : eqb (quota_of hosts room owner) 0 ≡ false
  keeps_room =
      ne_eqb (quota_of hosts room owner) 0 (λ z.
      let q : quota_of hosts room owner ≡ at room p = ap (quota_of hosts room) (sym s.there) ∙ quota-host hosts room rises p s.within in omega (arith, s.has_room))

  pub keeps_lowered : lowered (quota_of hosts room) owner ≡ quota_of hosts (set room p (at room p - 1))
  keeps_lowered = sym (fun_ext (list_lowered hosts room rises e p owner s.within s.there))

pub frees-lowered : (hosts room : List ℕ) (owner : ℕ) → quota_of hosts room owner ≡ 0 → lowered (quota_of hosts room) owner ≡ quota_of hosts room
frees-lowered hosts room owner z = fun_ext (lowered-zero (quota_of hosts room) owner z)

-- the tally ---------------------------------------------------------------------------------

pub record Tallied (hosts room₀ slots room : List ℕ) (freed i : ℕ) : Type 0 where
  pub upto : i ≤ length slots
  pub few : freed ≤ i
  pub as_long : length room ≡ length hosts
  pub counted : freed + frees (quota_of hosts room) (drop i slots) ≡ frees (quota_of hosts room₀) slots
  pub left : (k : ℕ) → room_after (quota_of hosts room) (drop i slots) k ≡ room_after (quota_of hosts room₀) slots k

pub tally_start : (hosts room slots : List ℕ) → length room ≡ length hosts → Tallied hosts room slots room 0 0
tally_start hosts room slots e = record { upto = zero-le; few = zero-le; as_long = e; counted = zero-add _; left = λ k. refl }

module _ {hosts room₀ slots room : List ℕ} {freed i : ℕ} (rises : Rises hosts) (w : Tallied hosts room₀ slots room freed i) (l : i < length slots) where
  abbrev h : ℕ
  h = at slots i

  further : drop i slots ≡ h ∷ drop (i + 1) slots
  further = drop-cons slots i 0 l ∙ ap (λ n. h ∷ drop n slots) (sym (add-one i))

  frees_here : frees (quota_of hosts room) (drop i slots) ≡ one_if (eqb (quota_of hosts room h) 0) + frees (lowered (quota_of hosts room) h) (drop (i + 1) slots)
  unfolding frees
  frees_here = ap (frees (quota_of hosts room)) further

  room_here : (k : ℕ) → room_after (quota_of hosts room) (drop i slots) k ≡ room_after (lowered (quota_of hosts room) h) (drop (i + 1) slots) k
  unfolding room_after
  room_here k = ap (λ d. room_after (quota_of hosts room) d k) further

  pub tally_kept : (p : ℕ) → SeatAt hosts room (at slots i) p → Tallied hosts room₀ slots (set room p (at room p - 1)) freed (i + 1)
  tally_kept p s =
      let none : one_if (eqb (quota_of hosts room h) 0) ≡ 0 = ap one_if (keeps_room hosts room rises w.as_long h p s) in
      let lower = keeps_lowered hosts room rises w.as_long h p s in
      record {
        upto = omega arith;
        few = omega (arith, w.few);
        as_long = length-set room p _ ∙ w.as_long;
        counted = ap (λ q. freed + frees q (drop (i + 1) slots)) (sym lower) ∙ omega (arith, w.counted, frees_here);
        left = λ x. ap (λ q. room_after q (drop (i + 1) slots) x) (sym lower) ∙ sym (room_here x) ∙ w.left x;
      }

  pub tally_freed : quota_of hosts room (at slots i) ≡ 0 → Tallied hosts room₀ slots room (freed + 1) (i + 1)
  tally_freed z =
      let one : one_if (eqb (quota_of hosts room h) 0) ≡ 1 = ap one_if (eq-eqb (quota_of hosts room h) 0 z) in
      let lower = frees-lowered hosts room h z in
      record {
        upto = omega arith;
        few = omega (arith, w.few);
        as_long = w.as_long;
        counted = ap (λ q. freed + 1 + frees q (drop (i + 1) slots)) (sym lower) ∙ omega (arith, w.counted, frees_here);
        left = λ x. ap (λ q. room_after q (drop (i + 1) slots) x) (sym lower) ∙ sym (room_here x) ∙ w.left x;
      }

module _ {hosts room₀ slots room : List ℕ} {freed i : ℕ} (rises : Rises hosts) (w : Tallied hosts room₀ slots room freed i) (done : length slots ≤ i) where
  nothing : drop i slots ≡ []
  nothing = drop_of_length-le slots done

  pub tally_count : freed ≡ frees (quota_of hosts room₀) slots
  unfolding frees
  tally_count = sym (add-zero freed) ∙ ap (λ d. freed + frees (quota_of hosts room) d) (sym nothing) ∙ w.counted

  pub tally_left : room ≡ lacks hosts room₀ slots
  unfolding room_after
  tally_left =
      is_table room (length hosts) (lack hosts room₀ slots) w.as_long
      (λ j l. sym (quota-host hosts room rises j l)
      ∙ ap (λ d. room_after (quota_of hosts room) d (at hosts j)) (sym nothing)
      ∙ w.left (at hosts j) ∙ room_after_lem (quota_of hosts room₀) slots (at hosts j)
      ∙ ap (λ q. q - held slots (at hosts j)) (quota-host hosts room₀ rises j l))

-- the next receiver ---------------------------------------------------------------------------

first_run : (n h : ℕ) (rest : List ℕ) → 0 < n → replicate n h ++ rest ≡ h ∷ replicate (n - 1) h ++ rest
first_run zero h rest some = absurd (not-suc-le-zero some)
first_run (suc n) h rest some = let e : n ≡ suc n - 1 = omega arith in ap (λ m. h ∷ replicate m h ++ rest) e

-- with zeros before place c, the runs begin with the host at c
pub runs-next : (hosts times : List ℕ) → length times ≡ length hosts → (c : ℕ) → ((j : ℕ) → j < c → at times j ≡ 0) → c < length hosts → 0 < at times c →
    runs hosts times ≡ at hosts c ∷ runs hosts (set times c (at times c - 1))
unfolding runs
runs-next [] times e c zeros l some = absurd (not-suc-le-zero l)
runs-next (h ∷ hosts) [] e c zeros l some = absurd (not-suc-le-zero some)
runs-next (h ∷ hosts) (n ∷ times) e zero zeros l some = first_run n h (runs hosts times) some
runs-next (h ∷ hosts) (n ∷ times) e (suc c) zeros l some =
    rw (zeros 0 (zero-lt-suc c)) (runs-next hosts times (suc_inj e) c (λ j k. zeros (suc j) (omega arith)) (le_of_suc-le-suc l) some)

-- with zeros everywhere there are none
pub runs_none : (hosts times : List ℕ) → ((j : ℕ) → j < length times → at times j ≡ 0) → runs hosts times ≡ []
unfolding runs
runs_none [] times zeros = refl
runs_none (h ∷ hosts) [] zeros = refl
runs_none (h ∷ hosts) (n ∷ times) zeros = rw (zeros 0 (zero-lt-suc (length times))) (runs_none hosts times (λ j l. zeros (suc j) (omega arith)))

-- handing over --------------------------------------------------------------------------------

abbrev result : List ℕ → List ℕ → List ℕ → List ℕ → List ℕ
result hosts room short slots = pass (quota_of hosts room) (runs hosts short) slots

pub record Handed (hosts room₀ short₀ slots₀ room short slots : List ℕ) (next i : ℕ) : Type 0 where
  pub upto : i ≤ length slots₀
  pub cursor : next ≤ length hosts
  pub a_room_each : length room ≡ length hosts
  pub a_lack_each : length short ≡ length hosts
  pub as_long : length slots ≡ length slots₀
  pub none-behind : (j : ℕ) → j < next → at short j ≡ 0
  pub entries : slots ≡ overlay i (result hosts room₀ short₀ slots₀) slots₀
  pub rest : result hosts room short (drop i slots₀) ≡ drop i (result hosts room₀ short₀ slots₀)
  pub enough : frees (quota_of hosts room) (drop i slots₀) ≤ length (runs hosts short)

pub hand_start : (hosts room short slots : List ℕ) → length room ≡ length hosts → length short ≡ length hosts →
    frees (quota_of hosts room) slots ≤ length (runs hosts short) → Handed hosts room short slots room short slots 0 0
hand_start hosts room short slots er es enough = record {
  upto = zero-le;
  cursor = zero-le;
  a_room_each = er;
  a_lack_each = es;
  as_long = refl;
  none-behind = λ j l. absurd (not-suc-le-zero l);
  entries = refl;
  rest = refl;
  enough = enough;
}

module _ {hosts room₀ short₀ slots₀ room short slots : List ℕ} {next i : ℕ} (rises : Rises hosts) (w : Handed hosts room₀ short₀ slots₀ room short slots next i) (l : i < length slots₀) where
  abbrev whole : List ℕ
  whole = result hosts room₀ short₀ slots₀

  abbrev q : ℕ → ℕ
  q = quota_of hosts room

  -- what is looked at in this turn has not been touched
  pub untouched : at slots i ≡ at slots₀ i
  untouched = ap (λ k. at k i) w.entries ∙ at_overlay whole slots₀ i i (rw (length-pass (quota_of hosts room₀) (runs hosts short₀) slots₀) (le_of_lt l)) (le_refl i)

  -- so a seat of its owner now is one of its owner at the start
  pub seated_from : (p : ℕ) → SeatAt hosts room (at slots i) p → SeatAt hosts room (at slots₀ i) p
  seated_from p s = subst (λ owner. SeatAt hosts room owner p) untouched s

  pub unseated_from : quota_of hosts room (at slots i) ≡ 0 → quota_of hosts room (at slots₀ i) ≡ 0
  unseated_from z = ap (quota_of hosts room) (sym untouched) ∙ z

  long : length whole ≡ length slots₀
  long = length-pass (quota_of hosts room₀) (runs hosts short₀) slots₀

  further₀ : drop i slots₀ ≡ at slots₀ i ∷ drop (i + 1) slots₀
  further₀ = drop-cons slots₀ i 0 l ∙ ap (λ n. at slots₀ i ∷ drop n slots₀) (sym (add-one i))

  -- the head and the tail of what is left to do
  head_is : (x : ℕ) (xs : List ℕ) → result hosts room short (drop i slots₀) ≡ x ∷ xs → at whole i ≡ x
  head_is x xs e = ap (at whole) (sym (add-zero i)) ∙ sym (get_or-drop i whole 0 0) ∙ ap (λ k. at k 0) (sym w.rest ∙ e)

  tail_is : (x : ℕ) (xs : List ℕ) → result hosts room short (drop i slots₀) ≡ x ∷ xs → xs ≡ drop (i + 1) whole
  tail_is x xs e = ap (drop 1) (sym e ∙ w.rest) ∙ drop-drop 1 i whole

  -- writing what the result has there
  written : (v : ℕ) → v ≡ at whole i → set slots i v ≡ overlay (i + 1) whole slots₀
  written v e = rw (w.entries, e) (overlay_next whole slots₀ i (rw long l) l)

  -- an owner that has room keeps the slot
  module _ (p : ℕ) (s : SeatAt hosts room (at slots₀ i) p) where
    step_kept : result hosts room short (drop i slots₀) ≡ at slots₀ i ∷ result hosts (set room p (at room p - 1)) short (drop (i + 1) slots₀)
    unfolding pass
    step_kept =
        ap (pass q (runs hosts short)) further₀
        ∙ rw (keeps_room hosts room rises w.a_room_each (at slots₀ i) p s)
        (ap (λ g. at slots₀ i ∷ pass g (runs hosts short) (drop (i + 1) slots₀)) (keeps_lowered hosts room rises w.a_room_each (at slots₀ i) p s))

    fewer_kept : frees q (drop i slots₀) ≡ frees (quota_of hosts (set room p (at room p - 1))) (drop (i + 1) slots₀)
    unfolding frees
    fewer_kept =
        ap (frees q) further₀
        ∙ rw (keeps_room hosts room rises w.a_room_each (at slots₀ i) p s)
        (zero-add _ ∙ ap (λ g. frees g (drop (i + 1) slots₀)) (keeps_lowered hosts room rises w.a_room_each (at slots₀ i) p s))

    pub hand_kept : Handed hosts room₀ short₀ slots₀ (set room p (at room p - 1)) short (set slots i (at slots i)) next (i + 1)
    hand_kept = record {
      upto = omega arith;
      cursor = w.cursor;
      a_room_each = length-set room p _ ∙ w.a_room_each;
      a_lack_each = w.a_lack_each;
      as_long = length-set slots i _ ∙ w.as_long;
      none-behind = w.none-behind;
      entries = ap (set slots i) untouched ∙ written (at slots₀ i) (sym (head_is _ _ step_kept));
      rest = tail_is _ _ step_kept;
      enough = rw (← fewer_kept) w.enough;
    }

  -- any other slot goes to the next host that is short
  module _ (z : quota_of hosts room (at slots₀ i) ≡ 0) where
    fewer_freed : frees q (drop i slots₀) ≡ 1 + frees q (drop (i + 1) slots₀)
    unfolding frees
    fewer_freed =
        ap (frees q) further₀
        ∙ rw (eq-eqb (q (at slots₀ i)) 0 z) (ap (λ g. 1 + frees g (drop (i + 1) slots₀)) (frees-lowered hosts room (at slots₀ i) z))

    -- so some host is short
    pub some_short : (answer : Option ℕ) → NextShort short next answer → IsSome answer
    some_short (Some c) n = refl
    some_short None none =
        let zeros = runs_none hosts short (λ j l. by_cases (dec_lt j next) (w.none-behind j) (λ v. none j (by_contra _ _ v) l)) in
        absurd (omega (arith, ap length zeros, w.enough, fewer_freed))

    module _ (c : ℕ) (n : ShortAt short next c) where
      none_before : (j : ℕ) → j < c → at short j ≡ 0
      none_before j h = by_cases (dec_lt j next) (w.none-behind j) (λ v. n.none_between j (by_contra _ _ v) h)

      on_list : c < length hosts
      on_list = omega (arith, n.within, w.a_lack_each)

      given : runs hosts short ≡ at hosts c ∷ runs hosts (set short c (at short c - 1))
      given = runs-next hosts short w.a_lack_each c none_before on_list n.short

      step_freed : result hosts room short (drop i slots₀) ≡ at hosts c ∷ result hosts room (set short c (at short c - 1)) (drop (i + 1) slots₀)
      unfolding pass
      step_freed =
          ap (λ x. pass q x (drop i slots₀)) given
          ∙ ap (pass q (at hosts c ∷ runs hosts (set short c (at short c - 1)))) further₀
          ∙ rw (eq-eqb (q (at slots₀ i)) 0 z)
          (ap (λ g. at hosts c ∷ pass g (runs hosts (set short c (at short c - 1))) (drop (i + 1) slots₀)) (frees-lowered hosts room (at slots₀ i) z))

      pub hand_freed : Handed hosts room₀ short₀ slots₀ room (set short c (at short c - 1)) (set slots i (at hosts c)) c (i + 1)
      hand_freed = record {
        upto = omega arith;
        cursor = le_of_lt on_list;
        a_room_each = w.a_room_each;
        a_lack_each = length-set short c _ ∙ w.a_lack_each;
        as_long = length-set slots i _ ∙ w.as_long;
        none-behind = λ j h. get_or-set_other short c j _ 0 (λ e. lt_irrefl c (subst (λ x. x < c) e h)) ∙ none_before j h;
        entries = written (at hosts c) (sym (head_is _ _ step_freed));
        rest = tail_is _ _ step_freed;
        enough = omega (arith, ap length given, w.enough, fewer_freed);
      }

pub hand_done : {hosts room₀ short₀ slots₀ room short slots : List ℕ} {next i : ℕ} → Handed hosts room₀ short₀ slots₀ room short slots next i → length slots₀ ≤ i →
    slots ≡ result hosts room₀ short₀ slots₀
hand_done {hosts} {room₀} {short₀} {slots₀} {i = i} w done =
    let whole = result hosts room₀ short₀ slots₀ in
    let e : i ≡ length slots₀ = omega (arith, w.upto) in
    w.entries ∙ ap (λ n. overlay n whole slots₀) e ∙ overlay_done whole slots₀ (length slots₀) refl
    ∙ take_all (length slots₀) whole (le_of_eq (length-pass (quota_of hosts room₀) (runs hosts short₀) slots₀))
