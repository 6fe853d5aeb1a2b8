-- The arrays of a roster after a change: the changed list, and zeros behind it.
-- Assumes nothing.
use mathlib.Core.Path.{◌≡◌, sym, ◌∙◌}
use mathlib.Core.List.{List, [], ◌∷◌, ◌++◌}
use mathlib.Core.Logic.{by_cases}
use Prim.Native.Nat.{ℕ, ◌≤◌, ◌<◌}
use native.Mathlib.Numerals.{add-one}
use native.Mathlib.Omega.{arith}
use native.Mathlib.Decide.{ℕ_discrete}
use lib.ListN.{length, take, set, length-set, length-append}
use lib.Seq.{length-take-le, get_or-take, get_or-set_same, get_or-set_other}
use Rattle.base.specs.Tables.{at}
use Rattle.base.specs.Lists.{insert_at, remove_at, padded}
use Rattle.base.proofs.Entries.{Alike, alike_insert, alike_remove, alike_zeros, alike_front, is_padded, length_insert, length_remove}

-- an array of 256 with n entries and zeros behind them
module _ (l : List ℕ) (n : ℕ) (long : length l ≡ 256) (few : n ≤ 256) (zeros : (i : ℕ) → n ≤ i → at l i ≡ 0) where
  front : length (take n l) ≡ n
  front = length-take-le n l (rw long few)

  same : Alike l (take n l)
  same = alike_front n l (rw long few) zeros

  pub array_kept : l ≡ padded 256 (take n l)
  array_kept = is_padded 256 l (take n l) long (rw front few) (λ i _. same i)

  pub array_put : (p v : ℕ) → n < 256 → p ≤ n → take (length l) (insert_at p v l) ≡ padded 256 (insert_at p v (take n l))
  array_put p v room h =
      let hl : p ≤ length l = omega arith in
      let hf : p ≤ length (take n l) = rw front h in
      let grown = length_insert p v l hl in
      is_padded 256 _ (insert_at p v (take n l)) (length-take-le (length l) (insert_at p v l) (omega arith) ∙ long) (rw (length_insert p v (take n l) hf, front) room)
      (λ i w. get_or-take (length l) (insert_at p v l) i 0 (rw long w) ∙ alike_insert p v l (take n l) hl hf same i)

  pub array_taken : (p : ℕ) → p < n → remove_at p l ++ 0 ∷ [] ≡ padded 256 (remove_at p (take n l))
  array_taken p h =
      let hl : p < length l = omega arith in
      let hf : p < length (take n l) = rw front h in
      let shorter = length_remove p (take n l) hf in
      is_padded 256 _ (remove_at p (take n l))
      (length-append (remove_at p l) (0 ∷ []) ∙ add-one (length (remove_at p l)) ∙ length_remove p l hl ∙ long)
      (omega (arith, front))
      (λ i _. alike_zeros 1 (remove_at p l) i ∙ alike_remove p l (take n l) hl hf same i)

  pub array_set : (p v : ℕ) → p < n → set l p v ≡ padded 256 (set (take n l) p v)
  array_set p v h =
      is_padded 256 _ (set (take n l) p v) (length-set l p v ∙ long) (rw (length-set (take n l) p v, front) few)
      (λ i _. by_cases (ℕ_discrete i p)
      (λ e. rw e (get_or-set_same l p v 0 (omega arith) ∙ sym (get_or-set_same (take n l) p v 0 (rw front h))))
      (λ ne. get_or-set_other l p i v 0 ne ∙ same i ∙ sym (get_or-set_other (take n l) p i v 0 ne)))
