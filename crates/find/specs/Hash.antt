-- FNV-1a as document 01, section Finding a host, tells it, over the word size and the constants, so that a rule of another width can join it.
-- Assumes nothing.
use Rattle.std.specs.Prelude.{List, [], ◌∷◌, ℕ, ◌*◌, ◌%◌}
use Rattle.std.specs.Int.Bits.{bit_xor}

-- a hash rule: how many numbers a word can hold, where the hash starts, and what it is multiplied by
pub record Rule : Type 0 where
  pub words : ℕ
  pub start : ℕ
  pub multiplier : ℕ

-- sentences 1 and 2: the rule at 32 bits
abbrev pub fnv32 : Rule
fnv32 = record { words = 4294967296; start = 2166136261; multiplier = 16777619 }

-- sentence 2: the hash is XORed with the byte and multiplied, and of the product only what a word holds is kept
unfoldable pub stepped : Rule → ℕ → ℕ → ℕ
stepped rule hash byte = bit_xor hash byte * rule.multiplier % rule.words

-- for each byte, from the front
unfoldable pub hash_from : Rule → ℕ → List ℕ → ℕ
hash_from rule hash [] = hash
hash_from rule hash (byte ∷ key) = hash_from rule (stepped rule hash byte) key

-- sentence 1: it starts at the rule's number
abbrev pub hash_of : Rule → List ℕ → ℕ
hash_of rule key = hash_from rule rule.start key

-- sentence 3: the slot is the hash modulo the table's length
abbrev pub slot_of : List ℕ → ℕ → ℕ
slot_of key slots = hash_of fnv32 key % slots
