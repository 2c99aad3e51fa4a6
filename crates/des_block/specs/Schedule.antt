-- The positions of a key's bits in the words of its round keys.
use Rattle.std.specs.Prelude.{ℕ, ◌-◌, ◌/◌, ◌%◌, List, [], ◌∷◌, ◌++◌, map, take, drop, slice_index, slice_index_or}
use Rattle.des_block.specs.Tables.{key_choice_left, key_choice_right}

-- by how many bits C and D are rotated left in all when each round key is selected
unfoldable pub turns : List ℕ
turns =
    1 ∷ 2 ∷ 4 ∷ 6 ∷ 8 ∷ 10 ∷ 12 ∷ 14 ∷ 15 ∷ 17 ∷ 19 ∷ 21 ∷ 23 ∷ 25 ∷ 27 ∷ 28 ∷ []

-- the numbers of the key's bits in C and D when both have been rotated left by n bits
unfoldable pub key_numbers : ℕ → List ℕ
key_numbers n =
    (drop n key_choice_left ++ take n key_choice_left) ++ (drop n key_choice_right ++ take n key_choice_right)

-- PC-2 by a round key's two words, six bits in each byte: for S1, S3, S5, S7 and for S2, S4, S6, S8; 57 where there is
-- none
unfoldable pub word_choices : List (List ℕ)
word_choices =
    (57 ∷ 57 ∷ 14 ∷ 17 ∷ 11 ∷ 24 ∷ 1 ∷ 5 ∷ 57 ∷ 57 ∷ 23 ∷ 19 ∷ 12 ∷ 4 ∷ 26 ∷ 8 ∷
    57 ∷ 57 ∷ 41 ∷ 52 ∷ 31 ∷ 37 ∷ 47 ∷ 55 ∷ 57 ∷ 57 ∷ 44 ∷ 49 ∷ 39 ∷ 56 ∷ 34 ∷ 53 ∷ []) ∷
    (57 ∷ 57 ∷ 3 ∷ 28 ∷ 15 ∷ 6 ∷ 21 ∷ 10 ∷ 57 ∷ 57 ∷ 16 ∷ 7 ∷ 27 ∷ 20 ∷ 13 ∷ 2 ∷
    57 ∷ 57 ∷ 30 ∷ 40 ∷ 51 ∷ 45 ∷ 33 ∷ 48 ∷ 57 ∷ 57 ∷ 46 ∷ 42 ∷ 50 ∷ 36 ∷ 29 ∷ 32 ∷ []) ∷ []

-- the key's bits in word i of the round keys, of which each has two; 65 where there is none
unfoldable pub key_choice : ℕ → List ℕ
key_choice i =
    map (λ entry. slice_index_or (key_numbers (slice_index turns (i / 2))) (entry - 1) 65)
    (slice_index_or word_choices (i % 2) [])
