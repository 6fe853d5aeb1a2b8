-- An entry put in or taken out in place: what a part of the list copied by one place, and one store, leave.
-- Assumes nothing.
use mathlib.Core.Path.{◌≡◌, sym, ap, ◌∙◌}
use mathlib.Core.List.{List, [], ◌∷◌, ◌++◌, append_assoc}
use Prim.Native.Nat.{ℕ, suc, ◌+◌, ◌-◌, ◌<◌}
use native.Mathlib.Nat.{le_of_lt}
use native.Mathlib.Numerals.{add-one}
use native.Mathlib.Omega.{arith}
use lib.ListN.{length, take, drop, set, get_or, length-append, length-drop}
use lib.Seq.{paste, length-take-le, take_all, drop-cons, take-append-add, take-set-lt}
use Rattle.std.proofs.Math.Seq.{set-append_seam}
use Rattle.std.proofs.lemmas.List.{drop_all, set-append_left, take_more_set}
use Rattle.std.proofs.Common.{append-nil}

module _ {X : Type 0} (l : List X) (p : ℕ) (v : X) (h : p < length l) (last : ℕ) (e : last + 1 ≡ length l) where
  front : length (take p l) ≡ p
  front = length-take-le p l (le_of_lt h)

  -- up to the last place moved up by one, and the value at the place left free
  pub put-paste : set (paste l (p + 1) (drop p l) (last - p)) p v ≡ take (length l) (take p l ++ v ∷ drop p l)
  put-paste =
      let moved : List X = take (last - p) (drop p l) in
      let long : length (take (p + 1) l) ≡ p + 1 = length-take-le (p + 1) l (omega arith) in
      let none : drop (p + 1 + (last - p)) l ≡ [] = drop_all _ l (omega arith) in
      let fits : length (take p l) + suc (last - p) ≡ length l = omega (arith, front) in
      ap (λ k. set ((take (p + 1) l ++ moved) ++ k) p v) none
      ∙ ap (λ k. set k p v) (append-nil (take (p + 1) l ++ moved))
      ∙ set-append_left (take (p + 1) l) moved p v (omega (arith, long))
      ∙ ap (λ k. k ++ moved) (sym (take-set-lt (p + 1) l p v (omega arith)) ∙ take_more_set l p v h)
      ∙ append_assoc (take p l) (v ∷ []) moved
      ∙ sym (take-append-add (take p l) (v ∷ drop p l) (suc (last - p)))
      ∙ ap (λ n. take n (take p l ++ v ∷ drop p l)) fits

  -- from the next place on moved down by one, and the value at the last place
  pub taken-paste : set (paste l p (drop (p + 1) l) (length l - (p + 1))) last v ≡ (take p l ++ drop (suc p) l) ++ v ∷ []
  taken-paste =
      let kept : List X = take p l ++ drop (p + 1) l in
      let long : length kept ≡ last = omega (arith, length-append (take p l) (drop (p + 1) l), length-drop (p + 1) l, front) in
      let ends : p + (length l - (p + 1)) ≡ last = omega arith in
      let one : drop last l ≡ get_or l last v ∷ [] = drop-cons l last v (omega arith) ∙ ap (λ k. get_or l last v ∷ k) (drop_all (suc last) l (omega arith)) in
      ap (λ k. set ((take p l ++ k) ++ drop (p + (length l - (p + 1))) l) last v) (take_all (length l - (p + 1)) (drop (p + 1) l) (omega (arith, length-drop (p + 1) l)))
      ∙ ap (λ k. set (kept ++ drop k l) last v) ends
      ∙ ap (λ k. set (kept ++ k) last v) one
      ∙ ap (λ n. set (kept ++ get_or l last v ∷ []) n v) (sym long)
      ∙ set-append_seam kept (get_or l last v) [] v
      ∙ ap (λ n. (take p l ++ drop n l) ++ v ∷ []) (add-one p)
