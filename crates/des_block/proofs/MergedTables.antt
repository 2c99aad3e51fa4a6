-- Each merged table, entry by entry, is what its definition computes.
use Rattle.std.proofs.Common.{◌≡◌, [], map, slice_index_or, refl}
use Rattle.std.specs.List.{range_with_len}
use Rattle.des_block.specs.Bits.{bits, number, picked}
use Rattle.des_block.specs.Tables.{box_permutation, s1, s2, s3, s4, s5, s6, s7, s8}
use Rattle.des_block.specs.Cipher.{box_output}
use Rattle.des_block.specs.declared.boxes.TheConstants.{BOXES}
use Rattle.des_block.proofs.MixedSteps.{turned_permutation, merged, box_word}

pub boxes_1 : slice_index_or BOXES 0 [] ≡ map (box_word s1 28) (range_with_len 0 256)
unfolding bits number picked box_permutation s1 box_output turned_permutation merged box_word
boxes_1 = refl

pub boxes_2 : slice_index_or BOXES 1 [] ≡ map (box_word s2 24) (range_with_len 0 256)
unfolding bits number picked box_permutation s2 box_output turned_permutation merged box_word
boxes_2 = refl

pub boxes_3 : slice_index_or BOXES 2 [] ≡ map (box_word s3 20) (range_with_len 0 256)
unfolding bits number picked box_permutation s3 box_output turned_permutation merged box_word
boxes_3 = refl

pub boxes_4 : slice_index_or BOXES 3 [] ≡ map (box_word s4 16) (range_with_len 0 256)
unfolding bits number picked box_permutation s4 box_output turned_permutation merged box_word
boxes_4 = refl

pub boxes_5 : slice_index_or BOXES 4 [] ≡ map (box_word s5 12) (range_with_len 0 256)
unfolding bits number picked box_permutation s5 box_output turned_permutation merged box_word
boxes_5 = refl

pub boxes_6 : slice_index_or BOXES 5 [] ≡ map (box_word s6 8) (range_with_len 0 256)
unfolding bits number picked box_permutation s6 box_output turned_permutation merged box_word
boxes_6 = refl

pub boxes_7 : slice_index_or BOXES 6 [] ≡ map (box_word s7 4) (range_with_len 0 256)
unfolding bits number picked box_permutation s7 box_output turned_permutation merged box_word
boxes_7 = refl

pub boxes_8 : slice_index_or BOXES 7 [] ≡ map (box_word s8 0) (range_with_len 0 256)
unfolding bits number picked box_permutation s8 box_output turned_permutation merged box_word
boxes_8 = refl
