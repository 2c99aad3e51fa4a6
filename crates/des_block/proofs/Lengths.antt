-- How many bits the parts of the cipher have.
use Rattle.std.proofs.Common.{◌≡◌, ℕ, Bool, List, length, drop, take, arith, length-append, length-drop, length-take}
use Rattle.des_block.specs.Tables.{box_permutation, s_boxes}
use Rattle.des_block.specs.Cipher.{box_output, substituted, cipher_function, turned}
use Rattle.des_block.proofs.Digits.{length-picked, length-bits}

pub length-box_output : (box : List ℕ) (six : List Bool) → length (box_output box six) ≡ 4
unfolding box_output
length-box_output box six = length-bits 4 _

pub length-substituted : (bs : List Bool) → length (substituted s_boxes bs) ≡ 32
unfolding substituted s_boxes
length-substituted bs = simp (length-append, length-box_output)

pub length-cipher_function : (right key : List Bool) → length (cipher_function right key) ≡ 32
unfolding cipher_function box_permutation
length-cipher_function right key = length-picked box_permutation _

pub length-turned : (n : ℕ) (bs : List Bool) → length (turned n bs) ≡ length bs
unfolding turned
length-turned n bs = omega (arith, length-append (drop n bs) (take n bs), length-drop n bs, length-take n bs)
