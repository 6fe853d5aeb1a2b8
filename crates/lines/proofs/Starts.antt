-- Laws of a line's start: a name compared byte for byte, and a line compared with a text, as std compares them.
-- Assumes nothing.
use mathlib.Core.Path.{◌≡◌, refl, sym, ap, ◌∙◌}
use mathlib.Core.Bool.{Bool}
use mathlib.Core.List.{List, [], ◌∷◌}
use Prim.Native.Nat.{ℕ, suc}
use native.Mathlib.Omega.{arith}
use borrow.Author.Tests.{eq-eqb, ne_eqb, eqb-true}
use lib.Dec.{eqb}
use lib.ListN.{length, take}
use lib.Pointwise.{pointwise}
use Rattle.base.proofs.Tests.{by_test, same_test}
use Rattle.lines.specs.Lines.{starts_with, is_line}

eqb_turned : (a b : ℕ) → eqb a b ≡ eqb b a
eqb_turned a b = same_test (eqb a b) (eqb b a) (λ e. eq-eqb b a (sym (eqb-true a b e))) (λ e. eq-eqb a b (sym (eqb-true b a e)))

suc_same : (a b : ℕ) → eqb (suc a) (suc b) ≡ eqb a b
suc_same a b = same_test (eqb (suc a) (suc b)) (eqb a b) (λ e. eq-eqb a b (let same = eqb-true (suc a) (suc b) e in omega arith)) (λ e. eq-eqb (suc a) (suc b) (ap suc (eqb-true a b e)))

-- a line starts with a name, with either text first
starts_is : (name line : List ℕ) → pointwise eqb name (take (length name) line) ≡ starts_with name line
unfolding starts_with
starts_is [] line = refl
starts_is (byte ∷ name) [] = refl
starts_is (byte ∷ name) (other ∷ line) = rw (starts_is name line)

pub starts_cut : (name line : List ℕ) → pointwise eqb (take (length name) line) name ≡ starts_with name line
unfolding starts_with
starts_cut [] line = refl
starts_cut (byte ∷ name) [] = refl
starts_cut (byte ∷ name) (other ∷ line) = rw (eqb_turned other byte, starts_cut name line)

-- a line is a text
line_is : (text line : List ℕ) → pointwise eqb line text ≡ is_line text line
unfolding starts_with is_line
line_is [] [] = refl
line_is [] (byte ∷ line) = rw (ne_eqb (length (byte ∷ line)) 0 (λ e. absurd (omega arith)))
line_is (byte ∷ text) [] = refl
line_is (byte ∷ text) (other ∷ line) = by_test (eqb byte other) (λ e. rw (eqb_turned other byte, e) (line_is text line ∙ rw (suc_same (length line) (length text)))) (λ e. rw (eqb_turned other byte, e))

-- what std answers to the two tests
pub begins : (name line : List ℕ) {r : Bool} → r ≡ pointwise eqb name (take (length name) line) → r ≡ starts_with name line
begins name line e = e ∙ starts_is name line

pub equals : (text line : List ℕ) {slice : List ℕ} {r : Bool} → slice ≡ text → r ≡ pointwise eqb line slice → r ≡ is_line text line
equals text line same e = e ∙ ap (pointwise eqb line) same ∙ line_is text line
