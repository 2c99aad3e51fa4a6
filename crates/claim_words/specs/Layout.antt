-- The layout of the words, and what the words encode. A line is 8 words of one card, as long as a cache line. A block has
-- one line of each of the 64 cards of a group, either with the claims on the same 512 ATCs or with the top as its first
-- word. It is as long as a page of 4,096 bytes. A group has 128 blocks of claims, and then a block of tops.
use Rattle.std.specs.Prelude.{ℕ, ◌+◌, ◌-◌, ◌*◌, ◌/◌, ◌%◌, ◌^◌, List, slice_index, Option, None, Some, if◌then◌else◌}
use Rattle.std.specs.Prelude.{◌==◌}
use Rattle.std.specs.Int.{bit_at, div_ceil}
use Rattle.claim_words.specs.declared.layout.TheConstants.{WORD_CLAIMS, LINE_WORDS, LINE_CLAIMS, GROUP_CARDS, BLOCK_WORDS}
use Rattle.claim_words.specs.declared.layout.TheConstants.{CLAIM_BLOCKS, GROUP_WORDS}

-- how many words there are for so many cards: those of each begun group
unfoldable pub words_for : ℕ → ℕ
words_for cards = GROUP_WORDS * div_ceil cards GROUP_CARDS

-- the index of the first word of this card's line, in this block of its group
abbrev pub line_of : ℕ → ℕ → ℕ
line_of card block = GROUP_WORDS * (card / GROUP_CARDS) + BLOCK_WORDS * block + LINE_WORDS * (card % GROUP_CARDS)

-- the index of the word with the claim on this ATC of this card
unfoldable pub word_of : ℕ → ℕ → ℕ
word_of card counter = line_of card (counter / LINE_CLAIMS) + counter / WORD_CLAIMS % LINE_WORDS

-- the index of the card's top word, in the block of tops
unfoldable pub top_word_of : ℕ → ℕ
top_word_of card = line_of card CLAIM_BLOCKS

-- the bit of the claim on this ATC, in its word
abbrev pub mask_of : ℕ → ℕ
mask_of counter = 2 ^ (counter % WORD_CLAIMS)

-- all bits of a word of 64 except that one
abbrev pub others_of : ℕ → ℕ
others_of counter = 2 ^ 64 - 1 - mask_of counter

-- 1 if these words have the claim on this ATC of this card, and else 0
abbrev pub bit_of : List ℕ → ℕ → ℕ → ℕ
bit_of words card counter = bit_at (slice_index words (word_of card counter)) (counter % WORD_CLAIMS)

-- the card's top in these words: 0, or an ATC plus 1
abbrev pub top_of : List ℕ → ℕ → ℕ
top_of words card = slice_index words (top_word_of card)

-- the ATC that a top word encodes
abbrev pub told_by : ℕ → Option ℕ
told_by top = if top == 0 then None else Some (top - 1)
