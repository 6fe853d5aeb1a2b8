-- The pass from the front does what the definition says slot by slot, for any room; and what it frees, keeps and hands out.
-- Assumes nothing.
use mathlib.Core.Path.{◌≡◌, refl, sym, ap, ap₂, ◌∙◌, fun_ext}
use mathlib.Core.Bool.{Bool, false, not, cond}
use mathlib.Core.Logic.{◌≢◌, by_cases}
use mathlib.Core.List.{List, [], ◌∷◌}
use Prim.Native.Nat.{ℕ, zero, suc, ◌+◌, ◌-◌, ◌≤◌, ◌<◌, zero-le}
use native.Mathlib.Nat.{not-suc-le-zero, le_of_suc-le-suc, zero-add, sub-zero, pos_of_ne-zero, add_comm, suc_inj}
use native.Mathlib.Numerals.{one-add}
use native.Mathlib.Omega.{arith}
use native.Mathlib.Decide.{ℕ_discrete}
use lib.Dec.{leb, eqb}
use lib.ListN.{length, drop, take, length-drop}
use lib.Seq.{get_or-drop}
use borrow.Author.Tests.{le-leb, leb-true, eq-eqb, ne_eqb, eqb-true, eqb-false}
use Rattle.base.specs.Tables.{sum, one_if, count, at}
use Rattle.base.proofs.Sums.{sum_front, sum_ext, sum_change, count_ext}
use Rattle.base.proofs.Tests.{by_test, same_test}
use Rattle.roster.specs.Roster.{is_on, place, Rises}
use Rattle.roster.proofs.Search.{on_place, place_at}
use Rattle.mover.specs.Mover.{held, held_below, changes}
use Rattle.mover.specs.Pass.{lowered, pass, frees, room_after}

-- a slot is freed where its owner's room is not above what the owner holds below it
abbrev pub freed_by : (ℕ → ℕ) → List ℕ → ℕ → Bool
freed_by room slots i = leb (room (at slots i)) (held_below slots i (at slots i))

-- one slot further -----------------------------------------------------------------

pub lowered-same : (room : ℕ → ℕ) (h k : ℕ) → k ≡ h → lowered room h k ≡ room k - 1
lowered-same room h k e = rw (eq-eqb k h e)

pub lowered_other : (room : ℕ → ℕ) (h k : ℕ) → (k ≡ h → ⊥) → lowered room h k ≡ room k
lowered_other room h k ne = rw (ne_eqb k h ne)

-- what an owner holds with one slot more in front
held_front : (h : ℕ) (slots : List ℕ) (n k : ℕ) → held_below (h ∷ slots) (suc n) k ≡ one_if (eqb h k) + held_below slots n k
held_front h slots n k = sum_front n (λ i. one_if (eqb (at (h ∷ slots) i) k))

leb_one : (a c : ℕ) → leb a (1 + c) ≡ leb (a - 1) c
leb_one a c =
    same_test (leb a (1 + c)) (leb (a - 1) c)
    (λ t. let v = leb-true a (1 + c) t in le-leb (a - 1) c (omega arith))
    (λ t. let v = leb-true (a - 1) c t in le-leb a (1 + c) (omega arith))

freed_front : (room : ℕ → ℕ) (h : ℕ) (slots : List ℕ) (i : ℕ) → freed_by room (h ∷ slots) (suc i) ≡ freed_by (lowered room h) slots i
freed_front room h slots i =
    let k = at slots i in
    ap (leb (room k)) (held_front h slots i k)
    ∙ by_cases (ℕ_discrete k h)
    (λ e. rw (lowered-same room h k e, eq-eqb h k (sym e)) (leb_one (room k) (held_below slots i k)))
    (λ ne. rw (lowered_other room h k ne, ne_eqb h k (λ e. ne (sym e))) (ap (leb (room k)) (zero-add (held_below slots i k))))

freed-first : (room : ℕ → ℕ) (h : ℕ) (slots : List ℕ) → freed_by room (h ∷ slots) 0 ≡ eqb (room h) 0
unfolding sum
freed-first room h slots =
    same_test (leb (room h) 0) (eqb (room h) 0)
    (λ t. let v = leb-true (room h) 0 t in eq-eqb (room h) 0 (omega arith))
    (λ t. let v = eqb-true (room h) 0 t in le-leb (room h) 0 (omega arith))

count-freed : (room : ℕ → ℕ) (h : ℕ) (slots : List ℕ) (n : ℕ) → count (suc n) (freed_by room (h ∷ slots)) ≡ one_if (eqb (room h) 0) + count n (freed_by (lowered room h) slots)
count-freed room h slots n =
    sum_front n (λ i. one_if (freed_by room (h ∷ slots) i))
    ∙ ap₂ ◌+◌ (ap one_if (freed-first room h slots)) (count_ext n _ _ (λ i _. freed_front room h slots i))

-- the pass, slot by slot --------------------------------------------------------------

pub length-pass : (room : ℕ → ℕ) (next slots : List ℕ) → length (pass room next slots) ≡ length slots
unfolding pass
length-pass room next [] = refl
length-pass room next (h ∷ slots) =
    by_test (eqb (room h) 0)
    (λ t. rw t (ap suc (length-pass (lowered room h) (drop 1 next) slots)))
    (λ f. rw f (ap suc (length-pass (lowered room h) next slots)))

-- what the definition says of a slot, for any room
abbrev owner_by : (ℕ → ℕ) → List ℕ → List ℕ → ℕ → ℕ
owner_by room next slots i = cond (freed_by room slots i) (at next (count i (freed_by room slots))) (at slots i)

owner_front : (room : ℕ → ℕ) (next : List ℕ) (h : ℕ) (slots : List ℕ) (i : ℕ) →
    owner_by room next (h ∷ slots) (suc i) ≡ cond (freed_by (lowered room h) slots i) (at next (one_if (eqb (room h) 0) + count i (freed_by (lowered room h) slots))) (at slots i)
owner_front room next h slots i = ap₂ (λ b n. cond b (at next n) (at slots i)) (freed_front room h slots i) (count-freed room h slots i)

owner_first : (room : ℕ → ℕ) (next : List ℕ) (h : ℕ) (slots : List ℕ) → owner_by room next (h ∷ slots) 0 ≡ cond (eqb (room h) 0) (at next 0) h
unfolding sum
owner_first room next h slots = ap (λ b. cond b (at next 0) h) (freed-first room h slots)

pub pass-at : (room : ℕ → ℕ) (next slots : List ℕ) (i : ℕ) → i < length slots → at (pass room next slots) i ≡ owner_by room next slots i
unfolding pass
pass-at room next [] i l = absurd (not-suc-le-zero l)
pass-at room next (h ∷ slots) zero l =
    by_test (eqb (room h) 0) (λ t. rw t refl) (λ f. rw f refl) ∙ sym (owner_first room next h slots)
pass-at room next (h ∷ slots) (suc i) l =
    by_test (eqb (room h) 0)
    (λ t. rw t (pass-at (lowered room h) (drop 1 next) slots i (le_of_suc-le-suc l) ∙ ap (λ x. cond (freed_by (lowered room h) slots i) x (at slots i)) (get_or-drop 1 next (count i (freed_by (lowered room h) slots)) 0)))
    (λ f. rw f (pass-at (lowered room h) next slots i (le_of_suc-le-suc l) ∙ ap (λ n. cond (freed_by (lowered room h) slots i) (at next n) (at slots i)) (sym (zero-add (count i (freed_by (lowered room h) slots))))))
    ∙ sym (owner_front room next h slots i)

pub frees-count : (room : ℕ → ℕ) (slots : List ℕ) → frees room slots ≡ count (length slots) (freed_by room slots)
unfolding frees sum
frees-count room [] = refl
frees-count room (h ∷ slots) = ap (λ n. one_if (eqb (room h) 0) + n) (frees-count (lowered room h) slots) ∙ sym (count-freed room h slots (length slots))

-- what is held ------------------------------------------------------------------------

pub held_cons : (h : ℕ) (l : List ℕ) (k : ℕ) → held (h ∷ l) k ≡ one_if (eqb h k) + held l k
held_cons h l k = held_front h l (length l) k

-- where there is no room, passing a slot takes none
pub lowered-zero : (room : ℕ → ℕ) (h : ℕ) → room h ≡ 0 → (k : ℕ) → lowered room h k ≡ room k
lowered-zero room h e k =
    by_cases (ℕ_discrete k h)
    (λ s. lowered-same room h k s ∙ (let z : room k ≡ 0 = ap room s ∙ e in omega arith))
    (λ ne. lowered_other room h k ne)

-- where there is some, it takes one
lowered_some : (room : ℕ → ℕ) (h : ℕ) → 0 < room h → (k : ℕ) → one_if (eqb h k) + lowered room h k ≡ room k
lowered_some room h some k =
    by_cases (ℕ_discrete k h)
    (λ s. rw (lowered-same room h k s, eq-eqb h k (sym s)) (let z : room k ≡ room h = ap room s in omega arith))
    (λ ne. rw (lowered_other room h k ne, ne_eqb h k (λ s. ne (sym s))) (zero-add (room k)))

no_room : (room : ℕ → ℕ) (h : ℕ) → eqb (room h) 0 ≡ false → 0 < room h
no_room room h f = pos_of_ne-zero (eqb-false (room h) 0 f)

pub room_after_lem : (room : ℕ → ℕ) (slots : List ℕ) (k : ℕ) → room_after room slots k ≡ room k - held slots k
unfolding room_after sum
room_after_lem room [] k = sym (sub-zero (room k))
room_after_lem room (h ∷ slots) k =
    let r : room_after (lowered room h) slots k ≡ lowered room h k - held slots k = room_after_lem (lowered room h) slots k in
    r ∙ (let c = held_cons h slots k in
    by_cases (ℕ_discrete k h)
    (λ s. rw (lowered-same room h k s) (let one : one_if (eqb h k) ≡ 1 = ap one_if (eq-eqb h k (sym s)) in omega arith))
    (λ ne. rw (lowered_other room h k ne) (let none : one_if (eqb h k) ≡ 0 = ap one_if (ne_eqb h k (λ s. ne (sym s))) in omega arith)))

take-first : (m : ℕ) (l : List ℕ) → 0 < length l → take (1 + m) l ≡ at l 0 ∷ take m (drop 1 l)
take-first m [] h = absurd (not-suc-le-zero h)
take-first m (x ∷ l) h = rw (one-add m) refl

-- what an owner holds after the pass, and its room that is left, are its room and what it has received
pub pass-held : (room : ℕ → ℕ) (next slots : List ℕ) (k : ℕ) → frees room slots ≤ length next →
    held (pass room next slots) k + room_after room slots k ≡ room k + held (take (frees room slots) next) k
unfolding pass frees room_after
pass-held room next [] k h = add_comm (held [] k) (room k)
pass-held room next (g ∷ slots) k h =
    by_test (eqb (room g) 0)
    (λ t. rw t
    (let n : 1 + frees (lowered room g) slots ≤ length next = rw t at h in
    let z : room g ≡ 0 = eqb-true _ _ t in
    let r = pass-held (lowered room g) (drop 1 next) slots k (rw (length-drop 1 next) (omega arith)) in
    rw (take-first (frees (lowered room g) slots) next (omega arith))
    (let a = held_cons (at next 0) (pass (lowered room g) (drop 1 next) slots) k in
    let b = held_cons (at next 0) (take (frees (lowered room g) slots) (drop 1 next)) k in
    omega (arith, lowered-zero room g z k))))
    (λ f. rw f
    (let n : 0 + frees (lowered room g) slots ≤ length next = rw f at h in
    let r = pass-held (lowered room g) next slots k (omega arith) in
    rw (zero-add (frees (lowered room g) slots))
    (let a = held_cons g (pass (lowered room g) next slots) k in
    omega (arith, lowered_some room g (no_room room g f) k))))

-- each slot takes room from a host or is freed
pub room_balance : (hosts : List ℕ) → Rises hosts → (room : ℕ → ℕ) → ((k : ℕ) → is_on hosts k ≡ false → room k ≡ 0) → (slots : List ℕ) →
    sum (length hosts) (λ j. room_after room slots (at hosts j)) + length slots ≡ sum (length hosts) (λ j. room (at hosts j)) + frees room slots
unfolding room_after frees
room_balance hosts rises room off [] = refl
room_balance hosts rises room off (g ∷ slots) =
    let n = length hosts in
    let r = room_balance hosts rises (lowered room g) off' slots in
    by_test (eqb (room g) 0)
    (λ t. let z : room g ≡ 0 = eqb-true _ _ t in
    let e : sum n (λ j. lowered room g (at hosts j)) ≡ sum n (λ j. room (at hosts j)) = sum_ext n _ _ (λ j _. lowered-zero room g z (at hosts j)) in
    rw t (omega arith))
    (λ f. let e = kept (no_room room g f) in rw f (omega arith))
  where
    off' : (k : ℕ) → is_on hosts k ≡ false → lowered room g k ≡ 0
    off' k w = let z = off k w in by_cases (ℕ_discrete k g) (λ s. lowered-same room g k s ∙ (omega arith)) (λ ne. lowered_other room g k ne ∙ z)

    kept : 0 < room g → sum (length hosts) (λ j. lowered room g (at hosts j)) + 1 ≡ sum (length hosts) (λ j. room (at hosts j))
    kept some =
        by_test (is_on hosts g)
        (λ t. let on = on_place hosts rises g t in
        let p = place hosts g in
        let others : (j : ℕ) → j < length hosts → j ≢ p → lowered room g (at hosts j) ≡ room (at hosts j) = λ j l ne. lowered_other room g (at hosts j) (λ e. ne (sym (place_at hosts rises g j l e))) in
        let c : sum (length hosts) (λ j. lowered room g (at hosts j)) + room (at hosts p) ≡ sum (length hosts) (λ j. room (at hosts j)) + lowered room g (at hosts p) =
        sum_change (length hosts) (λ j. lowered room g (at hosts j)) (λ j. room (at hosts j)) p on.0 others in
        let here : lowered room g (at hosts p) ≡ room (at hosts p) - 1 = lowered-same room g (at hosts p) on.1 in
        let full : room (at hosts p) ≡ room g = ap room on.1 in
        omega arith)
        (λ f. absurd (let z = off g f in omega arith))

-- fewest changes -----------------------------------------------------------------------

pub changes_cons : (h g : ℕ) (t u : List ℕ) → changes (h ∷ t) (g ∷ u) ≡ one_if (not (eqb h g)) + changes t u
changes_cons h g t u = sum_front (length t) (λ i. one_if (not (eqb (at (h ∷ t) i) (at (g ∷ u) i))))

frees_ext : (room room' : ℕ → ℕ) (slots : List ℕ) → ((k : ℕ) → room k ≡ room' k) → frees room slots ≡ frees room' slots
frees_ext room room' slots h = ap (λ f. frees f slots) (fun_ext h)

-- one room less frees one slot more at the most
frees-lowered : (room : ℕ → ℕ) (h : ℕ) (slots : List ℕ) → frees (lowered room h) slots ≤ suc (frees room slots)
unfolding frees
frees-lowered room h [] = zero-le
frees-lowered room h (g ∷ slots) =
    by_cases (ℕ_discrete g h)
    (λ (e : g ≡ h). rw e (own h (frees-lowered (lowered room h) h slots)))
    (λ ne. let r : frees (lowered (lowered room g) h) slots ≤ suc (frees (lowered room g) slots) = frees-lowered (lowered room g) h slots in
    let same : frees (lowered (lowered room h) g) slots ≡ frees (lowered (lowered room g) h) slots = frees_ext _ _ slots (swap g ne) in
    rw (lowered_other room h g ne) (omega arith))
  where
    swap : (g : ℕ) → (g ≡ h → ⊥) → (k : ℕ) → lowered (lowered room h) g k ≡ lowered (lowered room g) h k
    swap g ne k =
        by_cases (ℕ_discrete k g)
        (λ s. let w : k ≡ h → ⊥ = λ v. ne (sym s ∙ v) in
        lowered-same (lowered room h) g k s ∙ ap (λ n. n - 1) (lowered_other room h k w) ∙ sym (lowered_other (lowered room g) h k w ∙ lowered-same room g k s))
        (λ n. lowered_other (lowered room h) g k n ∙ by_cases (ℕ_discrete k h)
        (λ s. lowered-same room h k s ∙ ap (λ m. m - 1) (sym (lowered_other room g k n)) ∙ sym (lowered-same (lowered room g) h k s))
        (λ w. lowered_other room h k w ∙ sym (lowered_other (lowered room g) h k w ∙ lowered_other room g k n)))

    own : (g : ℕ) → frees (lowered (lowered room g) g) slots ≤ suc (frees (lowered room g) slots) →
        one_if (eqb (lowered room g g) 0) + frees (lowered (lowered room g) g) slots ≤ suc (one_if (eqb (room g) 0) + frees (lowered room g) slots)
    own g r =
        by_test (eqb (lowered room g g) 0)
        (λ t. rw t (rw (frees_ext _ _ slots (lowered-zero (lowered room g) g (eqb-true _ _ t))) (omega arith)))
        (λ f. rw f (omega arith))

-- no table in which no owner holds more than its room differs in fewer slots than the pass frees
pub frees-least : (room : ℕ → ℕ) (slots other : List ℕ) → length other ≡ length slots → ((k : ℕ) → held other k ≤ room k) → frees room slots ≤ changes slots other
unfolding frees
frees-least room [] other e fits = zero-le
frees-least room (h ∷ slots) [] e fits = absurd (omega arith)
frees-least room (h ∷ slots) (g ∷ other) e fits =
    let size : length other ≡ length slots = suc_inj e in
    let d = changes_cons h g slots other in
    let few : (k : ℕ) → held other k ≤ room k = λ k. let c = held_cons g other k in let v = fits k in omega arith in
    by_cases (ℕ_discrete g h)
    (λ (s : g ≡ h). let some : 0 < room h = let c = held_cons g other h in let v = fits h in let one : one_if (eqb g h) ≡ 1 = ap one_if (eq-eqb g h s) in omega arith in
    let r : frees (lowered room h) slots ≤ changes slots other = frees-least (lowered room h) slots other size
    (λ k. let c = held_cons g other k in let v = fits k in let w = lowered_some room h some k in let m : one_if (eqb g k) ≡ one_if (eqb h k) = ap (λ x. one_if (eqb x k)) s in omega arith) in
    rw (ne_eqb (room h) 0 (λ z. omega arith)) (omega arith))
    (λ ne. let r : frees room slots ≤ changes slots other = frees-least room slots other size few in
    let differs : one_if (not (eqb h g)) ≡ 1 = ap (λ b. one_if (not b)) (ne_eqb h g (λ v. ne (sym v))) in
    by_test (eqb (room h) 0)
    (λ t. rw t (rw (frees_ext _ _ slots (lowered-zero room h (eqb-true _ _ t))) (omega arith)))
    (λ f. rw f (let l = frees-lowered room h slots in omega arith)))
