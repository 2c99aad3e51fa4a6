-- AES-128 (FIPS 197): the state by rows and columns, the rounds, and the key's words.
use Rattle.std.specs.Prelude.{ℕ, zero, suc, ◌+◌, ◌-◌, ◌*◌, ◌/◌, ◌%◌, ◌==◌, if◌then◌else◌, List, [], ◌∷◌, ◌++◌, map}
use Rattle.std.specs.Prelude.{take, drop, fold, slice_index_or, bit_xor}
use Rattle.std.specs.List.{range_with_len, flat_map}
use Rattle.aes_cipher.specs.Field.{doubled, product, substituted}

-- the byte in row r and column c of a state, which is listed column by column (3.4)
unfoldable pub entry : List ℕ → ℕ → ℕ → ℕ
entry state r c = slice_index_or state (r + 4 * c) 0

-- the state whose byte in row r and column c is f r c
unfoldable pub state_of : (ℕ → ℕ → ℕ) → List ℕ
state_of f = map (λ i. f (i % 4) (i / 4)) (range_with_len 0 16)

-- the xor of two lists of bytes, byte by byte
unfoldable pub xor_bytes : List ℕ → List ℕ → List ℕ
xor_bytes [] ys = []
xor_bytes (x ∷ xs) [] = []
xor_bytes (x ∷ xs) (y ∷ ys) = bit_xor x y ∷ xor_bytes xs ys

-- SubBytes: each byte is substituted (5.1.1)
unfoldable pub sub_bytes : List ℕ → List ℕ
sub_bytes state = map substituted state

-- ShiftRows: row r is rotated left by r places (5.1.2)
unfoldable pub shift_rows : List ℕ → List ℕ
shift_rows state = state_of (λ r c. entry state r ((c + r) % 4))

-- the matrix of MixColumns: its first row is 2 3 1 1, and each later one is the row before, rotated right by one
-- position
unfoldable pub factor : ℕ → ℕ → ℕ
factor r k = slice_index_or (2 ∷ 3 ∷ 1 ∷ 1 ∷ []) ((k + 4 - r) % 4) 0

-- a column multiplied by the matrix
unfoldable pub mix_column : List ℕ → List ℕ
mix_column column =
    map (λ r. let term = λ (k : ℕ). product (factor r k) (slice_index_or column k 0) in
    bit_xor (bit_xor (bit_xor (term 0) (term 1)) (term 2)) (term 3)) (0 ∷ 1 ∷ 2 ∷ 3 ∷ [])

-- MixColumns: each column is multiplied by the matrix (5.1.3)
unfoldable pub mix_columns : List ℕ → List ℕ
mix_columns state = flat_map (λ c. mix_column (take 4 (drop (4 * c) state))) (0 ∷ 1 ∷ 2 ∷ 3 ∷ [])

-- a round: SubBytes, ShiftRows, MixColumns, AddRoundKey (5.1)
unfoldable pub round : List ℕ → List ℕ → List ℕ
round state key = xor_bytes (mix_columns (shift_rows (sub_bytes state))) key

-- the last round, which does not mix the columns (5.1)
unfoldable pub last_round : List ℕ → List ℕ → List ℕ
last_round state key = xor_bytes (shift_rows (sub_bytes state)) key

-- a block under eleven round keys: the first is added, each next one ends a round (5.1)
unfoldable pub ciphered : List (List ℕ) → List ℕ → List ℕ
ciphered keys block =
    let start = xor_bytes block (slice_index_or keys 0 []) in
    last_round (fold round start (take 9 (drop 1 keys))) (slice_index_or keys 10 [])

-- the n-th power of x, or 02
unfoldable pub power_of_two : ℕ → ℕ
power_of_two zero = 1
power_of_two (suc n) = doubled (power_of_two n)

-- the word whose xor with word i - 4 is word i, computed from word i - 1: if 4 divides i its bytes are rotated left by
-- one byte and substituted, and the first is added to a power of 02 (5.2)
unfoldable pub key_step : ℕ → List ℕ → List ℕ
key_step i before =
    if i % 4 == 0
    then xor_bytes (sub_bytes (drop 1 before ++ take 1 before)) (power_of_two (i / 4 - 1) ∷ 0 ∷ 0 ∷ 0 ∷ [])
    else before

-- n words of the key schedule from word i on, if a b c d are the four words before it (5.2)
unfoldable pub words_from : ℕ → ℕ → List ℕ → List ℕ → List ℕ → List ℕ → List (List ℕ)
words_from zero i a b c d = []
words_from (suc n) i a b c d =
    let e = xor_bytes a (key_step i d) in
    e ∷ words_from n (i + 1) b c d e

-- the 44 words of a key's schedule: the key's four, and forty more (5.2)
unfoldable pub key_words : List ℕ → List (List ℕ)
key_words key =
    let a = take 4 key in
    let b = take 4 (drop 4 key) in
    let c = take 4 (drop 8 key) in
    let d = take 4 (drop 12 key) in
    a ∷ b ∷ c ∷ d ∷ words_from 40 4 a b c d

-- the first n round keys, four words each
unfoldable pub in_fours : ℕ → List (List ℕ) → List (List ℕ)
in_fours zero words = []
in_fours (suc n) words = flat_map (λ word. word) (take 4 words) ∷ in_fours n (drop 4 words)

-- the eleven round keys of a key
unfoldable pub round_keys : List ℕ → List (List ℕ)
round_keys key = in_fours 11 (key_words key)

-- AES-128: a block of sixteen bytes under a key of sixteen bytes
unfoldable pub aes_encipher : List ℕ → List ℕ → List ℕ
aes_encipher key block = ciphered (round_keys key) block
