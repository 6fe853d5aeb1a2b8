-- Laws of printed text: one text behind another, the library's digits as the definition's decimal, and what is put for what is said.
-- Assumes nothing.
use mathlib.Core.Path.{◌≡◌, refl, sym, ap, ◌∙◌}
use mathlib.Core.Bool.{true}
use mathlib.Core.List.{List, [], ◌∷◌, ◌++◌, append-nil, append_assoc}
use Prim.Native.Nat.{ℕ, zero, suc, ◌+◌, ◌-◌, ◌/◌, ◌%◌, ◌^◌, ◌≤◌, ◌<◌}
use native.Mathlib.Nat.{pow-suc, pow-le-pow_right, mod-eq_of_lt, le-div_iff_mul-le, one-le-pow, mod-lt}
use native.Mathlib.Omega.{arith, by_contra}
use borrow.Author.Tests.{lt-ltb, ltb-true, leb-true, le-leb, lt-leb}
use lib.Dec.{ltb, leb}
use lib.ListN.{length, take, drop, length-append, length-drop, take-append-drop}
use borrow.Rule.Slice.PartMut.{put_mid}
use lib.Seq.{paste, length-take-le, take_at, drop_at, drop-drop, take-length}
use Rattle.base.proofs.Tests.{by_test, same_test}
use Rattle.std.proofs.lemmas.Slice.{put_mid-paste}
use Rattle.io.specs.Digits.{last_digits, hex_digit_ascii, IsDigitCount}
use Rattle.stream.specs.declared.Said.{Said}
use Rattle.stream.specs.declared.Said.TheVariants.{Nothing, Moved, Owner, Wrong}
use Rattle.stream.specs.Text.{decimal_within, decimal, answer_name, moved_name, slot_name, host_name, line_name, printed_line, text_of}
use Rattle.stream.proofs.Texts.{length-decimal, tenth_below}
use Rattle.printing.specs.Wrote.{wrote, room_for}
use Rattle.printing.specs.Laws.{SaidFixed}

-- a text behind another ---------------------------------------------------------------------

pub length-wrote : (out : List ℕ) (place : ℕ) (text : List ℕ) → place + length text ≤ length out → length (wrote out place text) ≡ length out
unfolding wrote
length-wrote out place text l =
    let low = length-take-le place out (omega arith) in
    let high = length-drop (place + length text) out in
    simp length-append (omega arith)

pub wrote-behind : (out : List ℕ) (place : ℕ) (a b : List ℕ) → place + length a ≤ length out → wrote (wrote out place a) (place + length a) b ≡ wrote out place (a ++ b)
unfolding wrote
wrote-behind out place a b l =
    let low : length (take place out ++ a) ≡ place + length a = length-append (take place out) a ∙ ap (λ n. n + length a) (length-take-le place out (omega arith)) in
    let whole = take place out ++ a ++ drop (place + length a) out in
    let front : take (place + length a) whole ≡ take place out ++ a = take_at (take place out ++ a) (drop (place + length a) out) (place + length a) low in
    let tail : drop (place + length a) whole ≡ drop (place + length a) out = drop_at (take place out ++ a) (drop (place + length a) out) (place + length a) low in
    let sum : place + length a + length b ≡ place + length (a ++ b) = omega (arith, length-append a b) in
    let back : drop (place + length a + length b) whole ≡ drop (place + length (a ++ b)) out =
    sym (drop-drop (length b) (place + length a) whole) ∙ ap (drop (length b)) tail ∙ drop-drop (length b) (place + length a) out ∙ ap (λ n. drop n out) sum in
    rw (front, back) (ap (λ x. x ++ drop (place + length (a ++ b)) out) (append_assoc (take place out) a b))

-- a text pasted whole is a text put there
pub wrote_pasted : (out : List ℕ) (place : ℕ) (text : List ℕ) → paste out place text (length text) ≡ wrote out place text
unfolding wrote
wrote_pasted out place text = rw (take-length text)

-- and so is one that was copied over the part
pub wrote_copied : (out : List ℕ) (place : ℕ) (text part : List ℕ) → part ≡ text → put_mid place (place + length text - place) out part ≡ wrote out place text
wrote_copied out place text part e = put_mid-paste place (place + length text - place) out part text (length text) e (omega arith) refl ∙ wrote_pasted out place text

-- decimal -----------------------------------------------------------------------------------

-- more than one digit: ten or more
two_digits : {A : Type 0} (n k : ℕ) → n < 10 → IsDigitCount 10 1 n (suc (suc k)) → A
two_digits n k l f =
    let place : suc (suc k) - 1 ≡ suc k = omega arith in
    let big : 10 ^ suc k ≤ n = rw place at (f.2 (omega arith)) in
    let one = one-le-pow k 10 (omega arith) in
    let ten = pow-suc 10 k in
    absurd (omega arith)

-- the digits but the last are those of a tenth
tenth : (n k : ℕ) → IsDigitCount 10 1 n (suc (suc k)) → IsDigitCount 10 1 (n / 10) (suc k)
tenth n k f =
    let place : suc (suc k) - 1 ≡ suc k = omega arith in
    let above : 10 ^ suc k ≤ n = rw place at (f.2 (omega arith)) in
    let last : suc k - 1 ≡ k = omega arith in
    (omega arith, tenth_below k n f.1, λ more. rw last ((le-div_iff_mul-le {k = 10} {y = n} (omega arith)).1 (rw (pow-suc 10 k) at above)))

digit_glyph : (n : ℕ) → hex_digit_ascii (n % 10) ≡ 48 + n % 10
digit_glyph n = rw (lt-ltb (n % 10) 10 (mod-lt n (omega arith)))

pub decimal_digits : (m k n : ℕ) → k ≤ m → IsDigitCount 10 1 n (suc k) → last_digits 10 (suc k) n ≡ decimal_within m n
unfolding decimal_within
decimal_digits zero zero n l f = ap (λ x. x ∷ []) (digit_glyph n)
decimal_digits zero (suc k) n l f = absurd (omega arith)
decimal_digits (suc m) zero n l f =
    let low : n < 10 = f.1 in
    rw (lt-ltb n 10 low) (ap (λ x. x ∷ []) (digit_glyph n ∙ ap (λ x. 48 + x) (mod-eq_of_lt low)))
decimal_digits (suc m) (suc k) n l f =
    by_test (ltb n 10)
    (λ t. two_digits n k (ltb-true _ _ t) f)
    (λ t. rw t (ap (λ x. x ++ hex_digit_ascii (n % 10) ∷ []) (decimal_digits m k (n / 10) (omega arith) (tenth n k f)) ∙ ap (λ x. decimal_within m (n / 10) ++ x ∷ []) (digit_glyph n)))

-- a word's number has at most 20 digits
fewest_twenty : (n k : ℕ) → n < 2 ^ 64 → IsDigitCount 10 1 n k → k ≤ 20
fewest_twenty n k l f =
    by_contra k 20 (λ w.
    let more : 20 ≤ k - 1 = omega arith in
    let large : 10 ^ 20 ≤ 10 ^ (k - 1) = pow-le-pow_right (omega arith) more in
    let within = f.2 (omega arith) in
    omega arith)

pub decimal-text : (n k : ℕ) → n < 2 ^ 64 → IsDigitCount 10 1 n k → last_digits 10 k n ≡ decimal n
decimal-text n zero l f = absurd (let one = f.0 in omega arith)
decimal-text n (suc k) l f = decimal_digits 19 k n (let most = fewest_twenty n (suc k) l f in omega arith) f

-- a printed line ------------------------------------------------------------------------------

pub length_line : (name : List ℕ) (value : ℕ) → length (printed_line name value) ≤ length name + 21
unfolding printed_line
length_line name value = let most = length-decimal 19 value in omega (arith, length-append name (decimal value), length-append (name ++ decimal value) (10 ∷ []))

-- nothing said
pub wrote_nothing : (out : List ℕ) (place : ℕ) → wrote out place [] ≡ out
unfolding wrote
wrote_nothing out place = let none : place + 0 ≡ place = omega arith in rw (append-nil (take place out), none) (take-append-drop place out)

pub room_is : (size place : ℕ) → room_for size place ≡ true → place + 84 ≤ size
unfolding room_for
room_is size place r = leb-true _ _ r

-- the test in two steps, since a place may be near the largest number
pub room_tested : (size place : ℕ) → 84 ≤ size → leb place (size - 84) ≡ room_for size place
unfolding room_for
room_tested size place l =
    same_test (leb place (size - 84)) (leb (place + 84) size)
    (λ t. let low = leb-true place (size - 84) t in le-leb (place + 84) size (omega arith))
    (λ t. let low = leb-true (place + 84) size t in le-leb place (size - 84) (omega arith))

pub no_room : (size place : ℕ) → size < 84 → leb 84 size ≡ room_for size place
unfolding room_for
no_room size place l = lt-leb 84 size l ∙ sym (lt-leb (place + 84) size (omega arith))

-- no text is longer than the room asked for
pub length-text : (said : Said) → length (text_of said) ≤ 84
length-text Nothing = omega arith
length-text (Moved answer moved) = omega (arith, length-append (printed_line answer_name answer) (printed_line moved_name moved), length_line answer_name answer, length_line moved_name moved)
length-text (Owner answer slot host) =
    omega (arith, length-append (printed_line answer_name answer ++ printed_line slot_name slot) (printed_line host_name host), length-append (printed_line answer_name answer) (printed_line slot_name slot), length_line answer_name answer, length_line slot_name slot, length_line host_name host)
length-text (Wrong line) = omega (arith, length-append (printed_line answer_name 13) (printed_line line_name line), length_line answer_name 13, length_line line_name line)

-- one place and one output ----------------------------------------------------------------------

pub said_fixed : SaidFixed
said_fixed said out place x y t u p q v w = (p ∙ sym q, v ∙ sym w)
