-- The layout of the words, and what the words encode.
use Rattle.std.specs.Prelude.{ℕ, ◌+◌, ◌*◌, List, slice_index}
use Rattle.turn_book.specs.declared.layout.TheConstants.{SHARD_WORDS}

-- the index of the word with the shard's turn
abbrev pub turn_word_of : ℕ → ℕ
turn_word_of shard = SHARD_WORDS * shard

-- the index of the word with the length of the shard's log
abbrev pub count_word_of : ℕ → ℕ
count_word_of shard = SHARD_WORDS * shard + 1

-- the shard's turn in these words: 1 if it is taken, and else 0
abbrev pub turn_in : List ℕ → ℕ → ℕ
turn_in words shard = slice_index words (turn_word_of shard)

-- the length of the shard's log in these words
abbrev pub count_in : List ℕ → ℕ → ℕ
count_in words shard = slice_index words (count_word_of shard)
