-- Blocks as their halves after IP: IP and its inverse convert between them and their numbers, xor commutes with IP, and
-- the rounds are the cipher.
use Rattle.std.proofs.Common.{◌≡◌, ℕ, ◌^◌, ◌<◌, Bool, List, ◌++◌, length, take, drop, reverse, fold, bit_xor, refl, sym, ap, ap₂, ◌∙◌, arith, subst}
use Rattle.std.proofs.Common.{take-append-drop}
use Rattle.des_block.specs.Bits.{bits, number, picked}
use Rattle.des_block.specs.Tables.{initial_permutation, inverse_permutation}
use Rattle.des_block.specs.Cipher.{Halves, halves, turned, round, ciphered, round_keys, block_bits, word_bytes, des_encipher, des_decipher}
use Rattle.des_block.specs.Keyed.{turned_halves}
use Rattle.des_block.specs.Permuted.{permuted_word}
use Rattle.des_block.proofs.Digits.{length-bits, number-lt, number-bits, bits-number}
use Rattle.des_block.proofs.Lengths.{length-turned}
use Rattle.des_block.proofs.Linear.{picked-xor_bits, xor_bits-append, number-xor_bits}
use Rattle.des_block.proofs.MixedSteps.{turned-xor}
use Rattle.des_block.proofs.Laws.{AreHalves, exchanged, halves-exchanged, length_joined, length-inverse, initial-inverse, inverse-initial}
use Rattle.des_block.proofs.Laws.{word_enciphered, word_deciphered}

-- the bits of both halves
abbrev side : ℕ → List Bool
side word = turned 31 (bits 32 word)

length-side : (word : ℕ) → length (side word) ≡ 32
length-side word = length-turned 31 (bits 32 word) ∙ length-bits 32 word

AreHalves-words : (left right : ℕ) → AreHalves (turned_halves left right)
unfolding turned_halves
AreHalves-words left right = record { left = length-side left; right = length-side right }

pub permuted_word-lt : (left right : ℕ) → permuted_word left right < 2 ^ 64
unfolding permuted_word
permuted_word-lt left right =
    let h : Halves = turned_halves left right in
    subst (λ n. number (picked inverse_permutation (h.left ++ h.right)) < 2 ^ n) (length-inverse (h.left ++ h.right))
    (number-lt (picked inverse_permutation (h.left ++ h.right)))

-- the halves after IP hold the block
pub permuted_word-split : (block left right : ℕ) → block < 2 ^ 64 → turned_halves left right ≡ halves (picked initial_permutation (bits 64 block))
    → permuted_word left right ≡ block
unfolding permuted_word halves
permuted_word-split block left right fits e =
    ap (λ (h : Halves). number (picked inverse_permutation (h.left ++ h.right))) e
    ∙ ap (λ bs. number (picked inverse_permutation bs)) (take-append-drop 32 (picked initial_permutation (bits 64 block)))
    ∙ ap number (inverse-initial (bits 64 block) (length-bits 64 block)) ∙ number-bits 64 block ∙ omega arith

-- xor goes through both halves
pub permuted_word-xor : (left right more rest : ℕ)
    → permuted_word (bit_xor left more) (bit_xor right rest) ≡ bit_xor (permuted_word left right) (permuted_word more rest)
unfolding permuted_word turned_halves
permuted_word-xor left right more rest =
    let one : List Bool = side left ++ side right in
    let other : List Bool = side more ++ side rest in
    let length-both : (a b : ℕ) → length (side a ++ side b) ≡ 64 =
    λ a b. omega (arith, Rattle.std.proofs.Common.length-append (side a) (side b), length-side a, length-side b) in
    let same : length one ≡ length other = length-both left right ∙ sym (length-both more rest) in
    let out : length (picked inverse_permutation one) ≡ length (picked inverse_permutation other) = length-inverse one ∙ sym (length-inverse other) in
    ap₂ (λ p q. number (picked inverse_permutation (p ++ q))) (turned-xor left more) (turned-xor right rest)
    ∙ ap (λ bs. number (picked inverse_permutation bs))
    (sym (xor_bits-append (side left) (side right) (side more) (side rest) (length-side left ∙ sym (length-side more))))
    ∙ ap number (picked-xor_bits inverse_permutation one other same)
    ∙ number-xor_bits (picked inverse_permutation one) (picked inverse_permutation other) out

-- IP leads from the block back to the halves
halves_of : (left right : ℕ) → halves (picked initial_permutation (bits 64 (permuted_word left right))) ≡ turned_halves left right
unfolding permuted_word turned_halves exchanged
halves_of left right =
    let turned_over : Halves = turned_halves right left in
    let w : AreHalves turned_over = AreHalves-words right left in
    let bs : List Bool = side left ++ side right in
    let len : length bs ≡ 64 = length_joined turned_over w in
    ap (λ b. halves (picked initial_permutation b)) (bits-number 64 (picked inverse_permutation bs) (length-inverse bs))
    ∙ ap halves (initial-inverse bs len) ∙ halves-exchanged turned_over w

-- the rounds and an exchange of the halves are the cipher
ciphered_is : (keys : List (List Bool)) (left right l r : ℕ) → turned_halves l r ≡ fold round (turned_halves left right) keys
    → permuted_word r l ≡ number (ciphered keys (bits 64 (permuted_word left right)))
unfolding permuted_word turned_halves ciphered
ciphered_is keys left right l r e =
    ap (λ (h : Halves). number (picked inverse_permutation (h.right ++ h.left))) (e ∙ ap (λ h. fold round h keys) (sym (halves_of left right)))

pub permuted_enciphered : (key : List ℕ) (keys : List (List Bool)) (left right l r : ℕ) → keys ≡ round_keys (block_bits key)
    → turned_halves l r ≡ fold round (turned_halves left right) keys
    → word_bytes (permuted_word r l) ≡ des_encipher key (word_bytes (permuted_word left right))
permuted_enciphered key keys left right l r ek e =
    word_enciphered key (permuted_word left right) (permuted_word r l) (permuted_word-lt left right)
    (ciphered_is keys left right l r e ∙ ap (λ ks. number (ciphered ks (bits 64 (permuted_word left right)))) ek)

pub permuted_deciphered : (key : List ℕ) (keys : List (List Bool)) (left right l r : ℕ) → keys ≡ round_keys (block_bits key)
    → turned_halves l r ≡ fold round (turned_halves left right) (reverse keys)
    → word_bytes (permuted_word r l) ≡ des_decipher key (word_bytes (permuted_word left right))
permuted_deciphered key keys left right l r ek e =
    word_deciphered key (permuted_word left right) (permuted_word r l) (permuted_word-lt left right)
    (ciphered_is (reverse keys) left right l r e ∙ ap (λ ks. number (ciphered (reverse ks) (bits 64 (permuted_word left right)))) ek)
