-- What a find promises, as statements; the function `promises` holds them all.
-- Assumes nothing.
use Rattle.std.specs.Prelude.{◌≡◌, true, ◌≢◌, List, [], ◌∷◌, ◌++◌, ℕ, ◌<◌, Result, length}
use Rattle.std.specs.Borrow.{Bor}
use Rattle.base.specs.Tables.{at}
use Rattle.base.specs.Rows.{rises_from}
use Rattle.base.specs.declared.Refusal.{Refusal}
use Rattle.find.specs.declared.Owner.{Owner}
use Rattle.find.specs.declared.View.{View}
use Rattle.find.specs.Hash.{Rule, stepped, hash_of, slot_of}
use Rattle.find.specs.Reply.{rows, found, told, view_of, found_in}

-- by any rule a hash is a word
abbrev pub HashIsWord : Type 0
HashIsWord = (rule : Rule) → rule.start < rule.words → (key : List ℕ) → hash_of rule key < rule.words

-- by any rule one byte more at the end is one step more
abbrev pub HashGrows : Type 0
HashGrows = (rule : Rule) (key : List ℕ) (byte : ℕ) → hash_of rule (key ++ byte ∷ []) ≡ stepped rule (hash_of rule key) byte

-- the rows rise in number, so that the answer is the lowest row that holds (`LowestIsFirst` of base)
abbrev pub RowsRise : Type 0
RowsRise = (table : List ℕ) (slots : ℕ) (key : List ℕ) → rises_from 0 (rows table slots key) ≡ true

-- where a find answers 0, the slot is the hash's, it is in the table, and the host is its owner, who is not nobody
abbrev pub FoundIsOwner : Type 0
FoundIsOwner =
    (table : List ℕ) (slots : ℕ) (key : List ℕ) → (found table slots key).answer ≡ 0 →
    ((found table slots key).slot ≡ slot_of key slots) × (slot_of key slots < length table)
    × ((found table slots key).host ≡ at table (slot_of key slots)) × (at table (slot_of key slots) ≢ 0)

-- a refusal names no slot and no host
abbrev pub RefusedIsNothing : Type 0
RefusedIsNothing =
    (table : List ℕ) (slots : ℕ) (key : List ℕ) → (found table slots key).answer ≢ 0 →
    ((found table slots key).slot ≡ 0) × ((found table slots key).host ≡ 0)

-- two results that meet the contract of a find are equal
abbrev pub FindFixed : Type 0
FindFixed = (table : List ℕ) (slots : ℕ) (key : List ℕ) (x y : Result Owner Refusal) → told x ≡ found table slots key → told y ≡ found table slots key → x ≡ y

-- and so are two views of a table, and two results through one view
abbrev pub ViewFixed : Type 0
ViewFixed = (owners : Bor (List ℕ)) (stated : ℕ) (x y : View) → x ≡ view_of owners stated → y ≡ view_of owners stated → x ≡ y

abbrev pub FindInFixed : Type 0
FindInFixed = (view : View) (key : List ℕ) (x y : Result Owner Refusal) → told x ≡ found_in view key → told y ≡ found_in view key → x ≡ y
