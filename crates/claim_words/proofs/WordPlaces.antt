-- Each claim's word and each top word is one of the words, and no two of them are one.
use Rattle.std.proofs.Common.{◌≡◌, ◌≢◌, ℕ, ◌+◌, ◌*◌, ◌/◌, ◌%◌, ◌<◌, ◌≤◌, arith, sym}
use Rattle.std.proofs.Math.Nat.{div-add-mod}
use Rattle.std.proofs.lemmas.Nat.{same_from_place, mul-add-lt, mod_below, div_below}
use Rattle.std.specs.Int.{div_ceil}
use Rattle.claim_words.specs.declared.layout.TheConstants.{COUNTERS, WORD_CLAIMS, LINE_WORDS, LINE_CLAIMS, GROUP_CARDS, BLOCK_WORDS, CLAIM_BLOCKS}
use Rattle.claim_words.specs.Layout.{words_for, line_of, word_of, top_word_of}

-- the number of a card's block, of all groups' blocks, and a word's place in it
abbrev block_at : ℕ → ℕ → ℕ
block_at card block = card / GROUP_CARDS * (CLAIM_BLOCKS + 1) + block

abbrev place_at : ℕ → ℕ → ℕ
place_at card word = card % GROUP_CARDS * LINE_WORDS + word

in_blocks : (card block word : ℕ) → line_of card block + word ≡ block_at card block * BLOCK_WORDS + place_at card word
in_blocks card block word = omega arith

place-within : (card word : ℕ) → word < LINE_WORDS → place_at card word < BLOCK_WORDS
place-within card word small = omega (arith, mod_below card GROUP_CARDS (omega arith), small)

-- the index of a line's word tells the card, the block and the word
same_line : (card block word other_card other_block other_word : ℕ) → block ≤ CLAIM_BLOCKS → other_block ≤ CLAIM_BLOCKS → word < LINE_WORDS
    → other_word < LINE_WORDS → line_of card block + word ≡ line_of other_card other_block + other_word
    → (other_card ≡ card) × (other_block ≡ block) × (other_word ≡ word)
same_line card block word other_card other_block other_word blocks other_blocks words other_words same =
    let places = same_from_place (block_at card block) (place_at card word) (block_at other_card other_block) (place_at other_card other_word) BLOCK_WORDS
    (place-within card word words) (place-within other_card other_word other_words)
    (omega (arith, same, in_blocks card block word, in_blocks other_card other_block other_word)) in
    let groups = same_from_place (card / GROUP_CARDS) block (other_card / GROUP_CARDS) other_block (CLAIM_BLOCKS + 1)
    (omega (arith, blocks)) (omega (arith, other_blocks)) places.0 in
    let lines = same_from_place (card % GROUP_CARDS) word (other_card % GROUP_CARDS) other_word LINE_WORDS words other_words places.1 in
    (omega (arith, groups.0, lines.0, div-add-mod card GROUP_CARDS, div-add-mod other_card GROUP_CARDS), sym groups.1, sym lines.1)

-- a line's word of a known card is within the words
line-within : (cards card block word : ℕ) → card < cards → block ≤ CLAIM_BLOCKS → word < LINE_WORDS → line_of card block + word < words_for cards
unfolding words_for
line-within cards card block word known blocks words =
    let group : card / GROUP_CARDS < div_ceil cards GROUP_CARDS = omega (arith, known) in
    let block_within = mul-add-lt (card / GROUP_CARDS) (CLAIM_BLOCKS + 1) block (div_ceil cards GROUP_CARDS) group (omega (arith, blocks)) in
    omega (arith, in_blocks card block word, block_within, place-within card word words)

-- a claim's block is one of the blocks of claims, and its word is one of a line
claim-block : (counter : ℕ) → counter < COUNTERS → counter / LINE_CLAIMS < CLAIM_BLOCKS
claim-block counter small = div_below counter LINE_CLAIMS CLAIM_BLOCKS (omega arith) small

claim-word : (counter : ℕ) → counter / WORD_CLAIMS % LINE_WORDS < LINE_WORDS
claim-word counter = mod_below (counter / WORD_CLAIMS) LINE_WORDS (omega arith)

-- the word of a claim, and its bit there, tell the card and the ATC
pub same_claim : (card counter other_card other : ℕ) → counter < COUNTERS → other < COUNTERS → word_of card counter ≡ word_of other_card other
    → counter % WORD_CLAIMS ≡ other % WORD_CLAIMS → (other_card ≡ card) × (other ≡ counter)
unfolding word_of
same_claim card counter other_card other small also words bits =
    let line = same_line card (counter / LINE_CLAIMS) (counter / WORD_CLAIMS % LINE_WORDS) other_card (other / LINE_CLAIMS) (other / WORD_CLAIMS % LINE_WORDS)
    (omega (arith, claim-block counter small)) (omega (arith, claim-block other also)) (claim-word counter) (claim-word other) words in
    (line.0, omega arith)

-- the word of a claim isn't a top word
pub claim-top : (card counter other_card : ℕ) → counter < COUNTERS → word_of card counter ≢ top_word_of other_card
unfolding word_of top_word_of
claim-top card counter other_card small same =
    let block = claim-block counter small in
    let line = same_line card (counter / LINE_CLAIMS) (counter / WORD_CLAIMS % LINE_WORDS) other_card CLAIM_BLOCKS 0
    (omega (arith, block)) (omega arith) (claim-word counter) (omega arith) (omega (arith, same)) in
    absurd (omega (arith, block, line.1))

-- a top word tells the card
pub same_top : (card other_card : ℕ) → top_word_of card ≡ top_word_of other_card → other_card ≡ card
unfolding top_word_of
same_top card other_card same =
    (same_line card CLAIM_BLOCKS 0 other_card CLAIM_BLOCKS 0 (omega arith) (omega arith) (omega arith) (omega arith) (omega (arith, same))).0

-- the words of a known card are within the words
pub claim-within : (cards card counter : ℕ) → card < cards → counter < COUNTERS → word_of card counter < words_for cards
unfolding word_of
claim-within cards card counter known small =
    line-within cards card (counter / LINE_CLAIMS) (counter / WORD_CLAIMS % LINE_WORDS) known (omega (arith, claim-block counter small)) (claim-word counter)

pub top-within : (cards card : ℕ) → card < cards → top_word_of card < words_for cards
unfolding top_word_of
top-within cards card known = omega (arith, line-within cards card CLAIM_BLOCKS 0 known (omega arith) (omega arith))
