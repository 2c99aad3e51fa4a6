-- How words represent a state, and what it means that a cipher has a key.
use Rattle.std.specs.Prelude.{◌≡◌, ℕ, List, [], ◌∷◌, ◌++◌, map, slice_index_or}
use Rattle.std.specs.Int.{w32, to_be_bytes}
use Rattle.aes_cipher.specs.Cipher.{round_keys}
use Rattle.aes_cipher.specs.declared.rounds.Columns.{Columns}
use Rattle.aes_cipher.specs.declared.Aes.{Aes}

-- the four bytes of a word, big-endian
unfoldable pub word_bytes : ℕ → List ℕ
word_bytes n = to_be_bytes w32 n

-- the first byte of a, the second of b, the third of c and the fourth of d: a column once the rows are rotated
unfoldable pub diagonal : ℕ → ℕ → ℕ → ℕ → List ℕ
diagonal a b c d =
    slice_index_or (word_bytes a) 0 0 ∷ slice_index_or (word_bytes b) 1 0 ∷ slice_index_or (word_bytes c) 2 0
    ∷ slice_index_or (word_bytes d) 3 0 ∷ []

-- the bytes of a state given as four columns
unfoldable pub state_bytes : Columns → List ℕ
state_bytes state = word_bytes state.first
    ++ (word_bytes state.second ++ (word_bytes state.third ++ word_bytes state.fourth))

-- the cipher holds the round keys of this key of sixteen bytes
unfoldable pub HasKey : Aes → List ℕ → Type 0
HasKey aes key = map state_bytes aes.keys ≡ round_keys key
