-- Laws of lists by their places: the table of a function, an entry put in or taken out, zeros behind, and a list changed in place from the front.
-- Assumes nothing.
use mathlib.Core.Path.{◌≡◌, refl, sym, ap, ◌∙◌, subst⁻¹}
use mathlib.Core.List.{List, [], ◌∷◌, ◌++◌, append-nil}
use mathlib.Core.Logic.{◌⊎◌, inl, inr, ◌≢◌, ⊎_elim, by_cases}
use Prim.Native.Nat.{ℕ, zero, suc, ◌+◌, ◌-◌, ◌≤◌, ◌<◌}
use native.Mathlib.Nat.{not-suc-le-zero, le_of_suc-le-suc, le_of_lt, lt_trans, lt_of_lt_of_le, sub-zero, zero-sub, suc-sub-suc, mul-zero, le_of_eq, lt_irrefl, eq-or-lt_of_le}
use native.Mathlib.Omega.{arith, by_contra}
use native.Mathlib.Decide.{dec_lt, ℕ_discrete}
use native.Mathlib.Numerals.{add-one}
use borrow.Author.Tests.{lt-ltb, le-ltb}
use lib.ListN.{length, take, drop, set, replicate, length-append, length-drop, length-set, length-replicate, get_or-replicate, get_or-append, take-append-drop, drop_of_length-le, get_or-eq_default}
use lib.Seq.{ext_get_or, length-take-le, get_or-take, get_or-drop, get_or-append-add, get_or_at, take_at, drop_at, split_at, set_at, take-suc, drop-cons, append_snoc, get_or-set_same, get_or-set_other}
use Rattle.base.specs.Tables.{table, at, sum, total}
use Rattle.base.specs.Lists.{insert_at, remove_at, skip, padded}
use Rattle.base.proofs.Sums.{sum_ext, sum_change, sum_const}

-- table ------------------------------------------------------------------------

pub length-table : (n : ℕ) (f : ℕ → ℕ) → length (table n f) ≡ n
unfolding table
length-table zero f = refl
length-table (suc n) f = ap suc (length-table n (λ i. f (suc i)))

pub at_table : (n : ℕ) (f : ℕ → ℕ) (i : ℕ) → i < n → at (table n f) i ≡ f i
unfolding table
at_table zero f i l = absurd (not-suc-le-zero l)
at_table (suc n) f zero l = refl
at_table (suc n) f (suc i) l = at_table n (λ k. f (suc k)) i (le_of_suc-le-suc l)

pub total-table : (n : ℕ) (f : ℕ → ℕ) → total (table n f) ≡ sum n f
total-table n f = ap (λ k. sum k (at (table n f))) (length-table n f) ∙ sum_ext n (at (table n f)) f (at_table n f)

-- a list is the table of what stands at its places
pub is_table : (l : List ℕ) (n : ℕ) (f : ℕ → ℕ) → length l ≡ n → ((i : ℕ) → i < n → at l i ≡ f i) → l ≡ table n f
is_table l n f e h = ext_get_or 0 l (table n f) (e ∙ sym (length-table n f)) (λ i w. let v : i < n = omega arith in h i v ∙ sym (at_table n f i v))

-- one entry set ------------------------------------------------------------------

pub total-set : (l : List ℕ) (p v : ℕ) → p < length l → total (set l p v) + at l p ≡ total l + v
total-set l p v h =
    let agree : (i : ℕ) → i < length l → i ≢ p → at (set l p v) i ≡ at l i = λ i w ne. get_or-set_other l p i v 0 ne in
    let here : at (set l p v) p ≡ v = get_or-set_same l p v 0 h in
    let r : sum (length l) (at (set l p v)) + at l p ≡ sum (length l) (at l) + at (set l p v) p = sum_change (length l) (at (set l p v)) (at l) p h agree in
    rw (length-set l p v) (omega arith)

-- what holds of every entry, and of the one set, holds of all
pub every_set : (P : ℕ → Type 0) (l : List ℕ) (p v : ℕ) → P v → ((i : ℕ) → i < length l → P (at l i)) → (j : ℕ) → j < length (set l p v) → P (at (set l p v) j)
every_set P l p v new old j hj =
    let h : j < length l = rw (length-set l p v) at hj in
    by_cases (ℕ_discrete j p)
    (λ e. subst⁻¹ P (ap (at (set l p v)) e ∙ get_or-set_same l p v 0 (rw e at h)) new)
    (λ ne. subst⁻¹ P (get_or-set_other l p j v 0 ne) (old j h))

-- an entry put in or taken out -----------------------------------------------------

module _ (p v : ℕ) (l : List ℕ) (within : p ≤ length l) where
  pub length_insert : length (insert_at p v l) ≡ suc (length l)
  length_insert = simp (length-append, length-take-le p l within, length-drop) (omega arith)

  pub at_insert_here : at (insert_at p v l) p ≡ v
  at_insert_here = get_or_at (take p l) v (drop p l) 0 p (length-take-le p l within)

  at_insert_low : (i : ℕ) → i < p → at (insert_at p v l) i ≡ at l i
  at_insert_low i h = get_or-append (take p l) (v ∷ drop p l) 0 i (rw (length-take-le p l within) h) ∙ get_or-take p l i 0 h

  pub at_insert_high : (i : ℕ) → p ≤ i → at (insert_at p v l) (suc i) ≡ at l i
  at_insert_high i h =
      let e : suc i ≡ length (take p l) + suc (i - p) = rw (length-take-le p l within) (omega arith) in
      let d : p + (i - p) ≡ i = omega arith in
      rw e (get_or-append-add (take p l) (v ∷ drop p l) (suc (i - p)) 0) ∙ get_or-drop p l (i - p) 0 ∙ ap (at l) d

  -- what stood at i stands at `skip p i`
  pub at_insert_skip : (i : ℕ) → at (insert_at p v l) (skip p i) ≡ at l i
  at_insert_skip i =
      by_cases (dec_lt i p)
      (λ h. rw (lt-ltb i p h) (at_insert_low i h))
      (λ w. let h : p ≤ i = by_contra _ _ w in rw (le-ltb i p h) (at_insert_high i h))

-- putting back what was taken out
pub insert_removed : (p : ℕ) (l : List ℕ) → p < length l → insert_at p (at l p) (remove_at p l) ≡ l
insert_removed p l h =
    let e : length (take p l) ≡ p = length-take-le p l (le_of_lt h) in
    rw (take_at (take p l) (drop (suc p) l) p e, drop_at (take p l) (drop (suc p) l) p e) (sym (split_at l p 0 h))

-- and so the place is within the rest
pub length_remove : (p : ℕ) (l : List ℕ) → p < length l → suc (length (remove_at p l)) ≡ length l
length_remove p l h = simp (length-append, length-take-le p l (le_of_lt h), length-drop) (omega arith)

pub skip_rises : (p i j : ℕ) → i < j → skip p i < skip p j
skip_rises p i j h =
    by_cases (dec_lt j p)
    (λ w. rw (lt-ltb j p w, lt-ltb i p (lt_trans h w)) h)
    (λ w. let v : p ≤ j = by_contra _ _ w in rw (le-ltb j p v) (low v))
  where
    low : p ≤ j → skip p i < suc j
    low v = by_cases (dec_lt i p) (λ k. rw (lt-ltb i p k) (omega arith)) (λ k. rw (le-ltb i p (by_contra _ _ k)) (omega arith))

pub skip-before : (p i : ℕ) → skip p i < p → i < p
skip-before p i h = by_cases (dec_lt i p) (λ k. k) (λ k. let v : suc i < p = rw (le-ltb i p (by_contra _ _ k)) at h in omega arith)

pub skip-behind : (p i : ℕ) → p < skip p i → p ≤ i
skip-behind p i h = by_contra _ _ λ k. let v : p < i = rw (lt-ltb i p k) at h in omega arith

pub skip_order : (p i j : ℕ) → skip p i < skip p j → i < j
skip_order p i j h =
    by_contra _ _ λ k. ⊎_elim
    (λ (e : j ≡ i). lt_irrefl (skip p j) (rw (← e) at h))
    (λ w. lt_irrefl (skip p i) (lt_trans h (skip_rises p j i w)))
    (eq-or-lt_of_le (le_of_suc-le-suc k))

pub skip-within : (p n i : ℕ) → i < n → skip p i < suc n
skip-within p n i h = by_cases (dec_lt i p) (λ k. rw (lt-ltb i p k) (omega arith)) (λ k. rw (le-ltb i p (by_contra _ _ k)) (omega arith))

pub skip_below : (p n i : ℕ) → p ≤ n → skip p i < suc n → i < n
skip_below p n i h l =
    by_cases (dec_lt i p)
    (λ k. lt_of_lt_of_le k h)
    (λ k. let v : suc i < suc n = rw (le-ltb i p (by_contra _ _ k)) at l in omega arith)

-- every place is the one put in, or another one's
pub skip-cases : (p j : ℕ) → (j ≡ p) ⊎ ((i : ℕ) × (skip p i ≡ j))
skip-cases p zero = by_cases (ℕ_discrete 0 p) (λ e. inl e) (λ ne. inr (0, rw (lt-ltb 0 p (omega arith)) refl))
skip-cases p (suc j) =
    by_cases (ℕ_discrete (suc j) p)
    (λ e. inl e)
    (λ ne. by_cases (dec_lt (suc j) p)
    (λ k. inr (suc j, rw (lt-ltb (suc j) p k) refl))
    (λ k. let v : p ≤ suc j = by_contra _ _ k in inr (j, rw (le-ltb j p (omega arith)) refl)))

-- what holds of every entry, and of the one put in, holds of all
pub every_insert : (P : ℕ → Type 0) (p v : ℕ) (l : List ℕ) → p ≤ length l → P v → ((i : ℕ) → i < length l → P (at l i)) → (j : ℕ) → j < length (insert_at p v l) → P (at (insert_at p v l) j)
every_insert P p v l within new old j hj =
    ⊎_elim
    (λ e. subst⁻¹ P (ap (at (insert_at p v l)) e ∙ at_insert_here p v l within) new)
    (λ m. let low : m.0 < length l = skip_below p (length l) m.0 within (rw m.1 (rw (length_insert p v l within) at hj)) in
    subst⁻¹ P (ap (at (insert_at p v l)) (sym m.1) ∙ at_insert_skip p v l within m.0) (old m.0 low))
    (skip-cases p j)

-- what stood at `skip p i` stands at i once place p is taken out
pub at_remove : (p : ℕ) (l : List ℕ) → p < length l → (i : ℕ) → at (remove_at p l) i ≡ at l (skip p i)
at_remove p l h i =
    let within : p ≤ length (remove_at p l) = let e = length_remove p l h in omega arith in
    sym (at_insert_skip p (at l p) (remove_at p l) within i) ∙ ap (λ k. at k (skip p i)) (insert_removed p l h)

-- what holds of every entry holds once one is taken out
pub every_remove : (P : ℕ → Type 0) (p : ℕ) (l : List ℕ) → p < length l → ((i : ℕ) → i < length l → P (at l i)) → (j : ℕ) → j < length (remove_at p l) → P (at (remove_at p l) j)
every_remove P p l h old j hj =
    subst⁻¹ P (at_remove p l h j) (old (skip p j) (rw (← length_remove p l h) (skip-within p (length (remove_at p l)) j hj)))

-- lists alike at every place -----------------------------------------------------

-- the same entry at every place, 0 past either end
abbrev pub Alike : List ℕ → List ℕ → Type 0
Alike l m = (i : ℕ) → at l i ≡ at m i

pub alike_insert : (p v : ℕ) (l m : List ℕ) → p ≤ length l → p ≤ length m → Alike l m → Alike (insert_at p v l) (insert_at p v m)
alike_insert p v l m hl hm h j =
    ⊎_elim
    (λ (e : j ≡ p). rw e (at_insert_here p v l hl ∙ sym (at_insert_here p v m hm)))
    (λ k. rw (← k.1) (at_insert_skip p v l hl k.0 ∙ h k.0 ∙ sym (at_insert_skip p v m hm k.0)))
    (skip-cases p j)

pub alike_remove : (p : ℕ) (l m : List ℕ) → p < length l → p < length m → Alike l m → Alike (remove_at p l) (remove_at p m)
alike_remove p l m hl hm h i = at_remove p l hl i ∙ h (skip p i) ∙ sym (at_remove p m hm i)

-- zeros behind a list change no entry
pub alike_zeros : (n : ℕ) (l : List ℕ) → Alike (l ++ replicate n 0) l
alike_zeros zero [] i = refl
alike_zeros (suc n) [] zero = refl
alike_zeros (suc n) [] (suc i) = alike_zeros n [] i
alike_zeros n (x ∷ l) zero = refl
alike_zeros n (x ∷ l) (suc i) = alike_zeros n l i

pub length-padded : (n : ℕ) (l : List ℕ) → length l ≤ n → length (padded n l) ≡ n
length-padded n l h = simp (length-append, length-replicate) (omega arith)

-- n entries, alike a shorter list's, are that list and zeros
pub is_padded : (n : ℕ) (l m : List ℕ) → length l ≡ n → length m ≤ n → ((i : ℕ) → i < n → at l i ≡ at m i) → l ≡ padded n m
is_padded n l m e h same =
    ext_get_or 0 l (padded n m) (e ∙ sym (length-padded n m h)) (λ i w. same i (rw e at w) ∙ sym (alike_zeros (n - length m) m i))

-- the front of a list that has zeros behind it
pub alike_front : (n : ℕ) (l : List ℕ) → n ≤ length l → ((i : ℕ) → n ≤ i → at l i ≡ 0) → Alike l (take n l)
alike_front n l h zeros i =
    by_cases (dec_lt i n)
    (λ k. sym (get_or-take n l i 0 k))
    (λ w. let k : n ≤ i = by_contra _ _ w in zeros i k ∙ sym (get_or-eq_default (take n l) 0 (rw (length-take-le n l h) k)))

-- a list changed in place, from the front ------------------------------------------

-- the first i entries are those of the result, the others still those of the start
abbrev pub overlay : ℕ → List ℕ → List ℕ → List ℕ
overlay i result start = take i result ++ drop i start

module _ (result start : List ℕ) where
  pub overlay_from : (p : ℕ) → take p result ≡ take p start → overlay p result start ≡ start
  overlay_from p e = rw e (take-append-drop p start)

  pub overlay_next : (i : ℕ) → i < length result → i < length start → set (overlay i result start) i (at result i) ≡ overlay (i + 1) result start
  overlay_next i hr hs =
      rw (add-one i, drop-cons start i 0 hs, take-suc result i 0 hr)
      (set_at (take i result) _ (drop (suc i) start) _ i (length-take-le i result (le_of_lt hr)) ∙ sym (append_snoc (take i result) _ _))

  pub overlay_done : (n : ℕ) → length start ≡ n → overlay n result start ≡ take n result
  overlay_done n e = rw (drop_of_length-le start (le_of_eq e)) (append-nil (take n result))

  -- what has not been changed yet
  pub at_overlay : (i j : ℕ) → i ≤ length result → i ≤ j → at (overlay i result start) j ≡ at start j
  at_overlay i j hr h =
      let e : j ≡ length (take i result) + (j - i) = rw (length-take-le i result hr) (omega arith) in
      let d : i + (j - i) ≡ j = omega arith in
      ap (at (overlay i result start)) e ∙ get_or-append-add (take i result) (drop i start) (j - i) 0 ∙ get_or-drop i start (j - i) 0 ∙ ap (at start) d

-- zeros ------------------------------------------------------------------------

pub take-replicate : (n m v : ℕ) → n ≤ m → take n (replicate m v) ≡ replicate n v
take-replicate zero m v h = refl
take-replicate (suc n) zero v h = absurd (not-suc-le-zero h)
take-replicate (suc n) (suc m) v h = ap (λ l. v ∷ l) (take-replicate n m v (le_of_suc-le-suc h))

pub drop-replicate : (n m v : ℕ) → drop n (replicate m v) ≡ replicate (m - n) v
drop-replicate zero m v = ap (λ k. replicate k v) (sym (sub-zero m))
drop-replicate (suc n) zero v = ap (λ k. replicate k v) (sym (zero-sub (suc n)))
drop-replicate (suc n) (suc m) v = drop-replicate n m v ∙ ap (λ k. replicate k v) (sym (suc-sub-suc m n))

pub total_zeros : (n : ℕ) → total (replicate n 0) ≡ 0
total_zeros n =
    rw (length-replicate {A = ℕ} n 0)
    (sum_ext n (at (replicate n 0)) (λ i. 0) (λ i l. get_or-replicate {A = ℕ} n i 0 0 l) ∙ sum_const n 0 ∙ mul-zero n)
