-- Laws of a hash rule, over its word size and constants: a product by halves and what a word keeps of it, which no function needs any more, and a key from the front.
-- Assumes nothing.
use mathlib.Core.Path.{◌≡◌, refl, sym, ap, ◌∙◌}
use mathlib.Core.List.{List, [], ◌∷◌, ◌++◌}
use Prim.Native.Nat.{ℕ, ◌+◌, ◌*◌, ◌/◌, ◌%◌, ◌<◌}
use native.Mathlib.Nat.{mod-lt, div-add-mod', mod-mod_of_dvd, dvd-mul_right}
use native.Mathlib.Numerals.{add-one}
use native.Mathlib.Omega.{arith}
use lib.Arith.{digits_lt, digits_mod}
use lib.ListN.{length, drop}
use lib.Seq.{drop-cons}
use Rattle.std.specs.List.{fold}
use Rattle.base.specs.Tables.{at}
use Rattle.find.specs.Hash.{Rule, stepped, hash_from}
use Rattle.find.specs.Laws.{HashIsWord, HashGrows}

-- a product by halves ------------------------------------------------------------

-- two numbers of two halves each, the halves' products carried over
by_halves : (B a₁ a₀ b₁ b₀ u x v y t l₁ l₀ c : ℕ) →
    a₁ * b₀ ≡ u * B + x → a₀ * b₁ ≡ v * B + y → a₀ * b₀ ≡ l₁ * B + l₀ → x + y + l₁ ≡ t * B + c →
    (a₁ * B + a₀) * (b₁ * B + b₀) ≡ (a₁ * b₁ + u + v + t) * (B * B) + (c * B + l₀)
by_halves B a₁ a₀ b₁ b₀ u x v y t l₁ l₀ c e f g h =
    let e' : a₁ * b₀ * B ≡ (u * B + x) * B = ap (λ k. k * B) e in
    let f' : a₀ * b₁ * B ≡ (v * B + y) * B = ap (λ k. k * B) f in
    let h' : (x + y + l₁) * B ≡ (t * B + c) * B = ap (λ k. k * B) h in
    omega arith

-- in words of B × B numbers: the product kept to a word, with no product above a word on the way
pub product_by_halves : (B a b : ℕ) → 0 < B →
    let low = (a % B) * (b % B) in
    (((a / B) * (b % B) % B + (a % B) * (b / B) % B + low / B) % B) * B + low % B ≡ a * b % (B * B)
product_by_halves B a b p =
    let low = (a % B) * (b % B) in
    let across = (a / B) * (b % B) % B + (a % B) * (b / B) % B + low / B in
    let whole : (a / B * B + a % B) * (b / B * B + b % B) ≡ ((a / B) * (b / B) + (a / B) * (b % B) / B + (a % B) * (b / B) / B + across / B) * (B * B) + ((across % B) * B + low % B) =
    by_halves B (a / B) (a % B) (b / B) (b % B) _ _ _ _ _ _ _ _
    (sym (div-add-mod' ((a / B) * (b % B)) B)) (sym (div-add-mod' ((a % B) * (b / B)) B)) (sym (div-add-mod' low B)) (sym (div-add-mod' across B)) in
    let fits : (across % B) * B + low % B < B * B = digits_lt (mod-lt across p) (mod-lt low p) in
    sym (ap (λ k. k % (B * B)) (rw (div-add-mod' a B, div-add-mod' b B) at whole) ∙ digits_mod _ fits)

-- what a word keeps of what a word of m times as many numbers kept is what it keeps of the whole
pub kept_of_kept : (n words m : ℕ) → n % (words * m) % words ≡ n % words
kept_of_kept n words m = mod-mod_of_dvd words n (dvd-mul_right words m)

-- a key from the front -------------------------------------------------------------

-- the next byte is a step
pub hash_next : (rule : Rule) (hash : ℕ) (key : List ℕ) (i : ℕ) → i < length key → hash_from rule (stepped rule hash (at key i)) (drop (i + 1) key) ≡ hash_from rule hash (drop i key)
unfolding hash_from
hash_next rule hash key i l = rw (add-one i, drop-cons key i 0)

-- so byte after byte is a fold of steps
pub hash_fold : (rule : Rule) (hash : ℕ) (key : List ℕ) → hash_from rule hash key ≡ fold (stepped rule) hash key
unfolding hash_from
hash_fold rule hash [] = refl
hash_fold rule hash (byte ∷ key) = sym (hash_next rule hash (byte ∷ key) 0 (omega arith)) ∙ hash_fold rule (stepped rule hash byte) key

from_word : (rule : Rule) (hash : ℕ) → hash < rule.words → (key : List ℕ) → hash_from rule hash key < rule.words
unfolding hash_from stepped
from_word rule hash l [] = l
from_word rule hash l (byte ∷ key) = from_word rule (stepped rule hash byte) (mod-lt _ (omega arith)) key

pub hash_is_word : HashIsWord
hash_is_word rule l key = from_word rule rule.start l key

from_grows : (rule : Rule) (hash : ℕ) (key : List ℕ) (byte : ℕ) → hash_from rule hash (key ++ byte ∷ []) ≡ stepped rule (hash_from rule hash key) byte
unfolding hash_from
from_grows rule hash [] byte = refl
from_grows rule hash (first ∷ key) byte = from_grows rule (stepped rule hash first) key byte

pub hash_grows : HashGrows
hash_grows rule key byte = from_grows rule rule.start key byte
