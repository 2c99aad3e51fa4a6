-- Each table, entry by entry, is what its definition computes, and so a table lookup is the definition.
use Rattle.std.proofs.Common.{◌≡◌, ◌<◌, ℕ, true, nat_lt, [], ◌∷◌, map, get_or, slice_index, slice_index_or, bit_xor}
use Rattle.std.proofs.Common.{refl, ap, ◌∙◌, arith}
use Rattle.std.specs.List.{range_with_len, list_all}
use Rattle.std.proofs.lemmas.Bool.{ltb-true}
use Rattle.std.proofs.lemmas.List.{get_or-map}
use Rattle.std.proofs.lemmas.List.FromFn.{get_or-map-range_with_len}
use Rattle.std.proofs.lemmas.List.Sums.{AllPass-from_list_all}
use Rattle.aes_cipher.specs.Field.{doubled, product_of_bits, product, inverse, bit_of, affine_bit, substituted}
use Rattle.aes_cipher.specs.Cipher.{factor, sub_bytes, mix_column, power_of_two}
use Rattle.aes_cipher.specs.Columns.{word_bytes}
use Rattle.aes_cipher.specs.declared.tables.TheConstants.{BOX, COLUMNS, UNMIXED, ROUND_CONSTANTS}
use Rattle.aes_cipher.proofs.RoundSteps.{column_of, column_at, mixed_is, placed_at, placed_is}

pub box_is : BOX ≡ map substituted (range_with_len 0 256)
unfolding doubled product_of_bits product inverse bit_of affine_bit substituted
box_is = refl

columns_1 : map word_bytes (slice_index_or COLUMNS 0 []) ≡ map (column_of 0) BOX
unfolding doubled product_of_bits product factor word_bytes column_of
columns_1 = refl

columns_2 : map word_bytes (slice_index_or COLUMNS 1 []) ≡ map (column_of 1) BOX
unfolding doubled product_of_bits product factor word_bytes column_of
columns_2 = refl

columns_3 : map word_bytes (slice_index_or COLUMNS 2 []) ≡ map (column_of 2) BOX
unfolding doubled product_of_bits product factor word_bytes column_of
columns_3 = refl

columns_4 : map word_bytes (slice_index_or COLUMNS 3 []) ≡ map (column_of 3) BOX
unfolding doubled product_of_bits product factor word_bytes column_of
columns_4 = refl

unmixed_1 : map word_bytes (slice_index_or UNMIXED 0 []) ≡ map (placed_at 0) BOX
unfolding word_bytes placed_at
unmixed_1 = refl

unmixed_2 : map word_bytes (slice_index_or UNMIXED 1 []) ≡ map (placed_at 1) BOX
unfolding word_bytes placed_at
unmixed_2 = refl

unmixed_3 : map word_bytes (slice_index_or UNMIXED 2 []) ≡ map (placed_at 2) BOX
unfolding word_bytes placed_at
unmixed_3 = refl

unmixed_4 : map word_bytes (slice_index_or UNMIXED 3 []) ≡ map (placed_at 3) BOX
unfolding word_bytes placed_at
unmixed_4 = refl

box_passes : list_all (λ b. nat_lt b 256) BOX ≡ true
box_passes = refl

pub box_small : (x : ℕ) → x < 256 → slice_index BOX x < 256
box_small x below = ltb-true (slice_index BOX x) 256
    (AllPass-from_list_all (λ b. nat_lt b 256) BOX box_passes x 0 below)

-- a look-up in each merged table
pub columns_are : (i0 i1 i2 i3 x0 x1 x2 x3 : ℕ) → i0 ≡ x0 → i1 ≡ x1 → i2 ≡ x2 → i3 ≡ x3
    → x0 < 256 → x1 < 256 → x2 < 256 → x3 < 256
    → word_bytes (bit_xor (bit_xor (bit_xor
    (slice_index (slice_index_or COLUMNS 3 []) i3) (slice_index (slice_index_or COLUMNS 2 []) i2))
    (slice_index (slice_index_or COLUMNS 1 []) i1)) (slice_index (slice_index_or COLUMNS 0 []) i0))
    ≡ mix_column (sub_bytes (x0 ∷ x1 ∷ x2 ∷ x3 ∷ []))
columns_are i0 i1 i2 i3 x0 x1 x2 x3 e0 e1 e2 e3 h0 h1 h2 h3 =
    mixed_is _ _ _ _ x0 x1 x2 x3
    (column_at (slice_index_or COLUMNS 0 []) BOX (column_of 0) i0 x0 box_is columns_1 e0 h0)
    (column_at (slice_index_or COLUMNS 1 []) BOX (column_of 1) i1 x1 box_is columns_2 e1 h1)
    (column_at (slice_index_or COLUMNS 2 []) BOX (column_of 2) i2 x2 box_is columns_3 e2 h2)
    (column_at (slice_index_or COLUMNS 3 []) BOX (column_of 3) i3 x3 box_is columns_4 e3 h3)

-- a look-up in each table of the last round
pub unmixed_are : (i0 i1 i2 i3 x0 x1 x2 x3 : ℕ) → i0 ≡ x0 → i1 ≡ x1 → i2 ≡ x2 → i3 ≡ x3
    → x0 < 256 → x1 < 256 → x2 < 256 → x3 < 256
    → word_bytes (bit_xor (bit_xor (bit_xor
    (slice_index (slice_index_or UNMIXED 3 []) i3) (slice_index (slice_index_or UNMIXED 2 []) i2))
    (slice_index (slice_index_or UNMIXED 1 []) i1)) (slice_index (slice_index_or UNMIXED 0 []) i0))
    ≡ sub_bytes (x0 ∷ x1 ∷ x2 ∷ x3 ∷ [])
unmixed_are i0 i1 i2 i3 x0 x1 x2 x3 e0 e1 e2 e3 h0 h1 h2 h3 =
    placed_is _ _ _ _ x0 x1 x2 x3
    (column_at (slice_index_or UNMIXED 0 []) BOX (placed_at 0) i0 x0 box_is unmixed_1 e0 h0)
    (column_at (slice_index_or UNMIXED 1 []) BOX (placed_at 1) i1 x1 box_is unmixed_2 e1 h1)
    (column_at (slice_index_or UNMIXED 2 []) BOX (placed_at 2) i2 x2 box_is unmixed_3 e2 h2)
    (column_at (slice_index_or UNMIXED 3 []) BOX (placed_at 3) i3 x3 box_is unmixed_4 e3 h3)

constants_are : map word_bytes ROUND_CONSTANTS ≡ map (λ i. power_of_two i ∷ 0 ∷ 0 ∷ 0 ∷ []) (range_with_len 0 10)
unfolding doubled power_of_two word_bytes
constants_are = refl

-- a round constant
pub constant_at : (i : ℕ) → i < 10 → word_bytes (slice_index ROUND_CONSTANTS i) ≡ power_of_two i ∷ 0 ∷ 0 ∷ 0 ∷ []
constant_at i h =
    Rattle.std.proofs.Common.sym (get_or-map word_bytes ROUND_CONSTANTS i 0 [] h)
    ∙ ap (λ u. get_or u i []) constants_are
    ∙ get_or-map-range_with_len (λ j. power_of_two j ∷ 0 ∷ 0 ∷ 0 ∷ []) 0 10 i i [] h (omega arith)
