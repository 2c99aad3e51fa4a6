-- Deciphering undoes enciphering, on bits and on bytes.
use Rattle.std.proofs.Common.{◌≡◌, ℕ, zero, suc, ◌+◌, ◌-◌, ◌^◌, ◌<◌, Bool, true, false, List, [], ◌∷◌, ◌++◌, length, map, take, drop, reverse, fold, get_or}
use Rattle.std.proofs.Common.{slice_index_or, refl, sym, ap, ap₂, ◌∙◌, arith, w64, length-append, length-take-le, length-drop, take_at, drop_at}
use Rattle.std.proofs.Common.{take-append-drop}
use Rattle.std.specs.Int.{from_be_bytes, to_be_bytes}
use Rattle.std.specs.List.{range_with_len}
use Rattle.std.proofs.lemmas.Nat.{be_bytes_8, from_be_bytes-to_be_bytes_8}
use Rattle.std.proofs.lemmas.List.{ext_get_or, reverse-reverse, reverse-append, map-append}
use Rattle.std.proofs.lemmas.List.FromFn.{length-map-range_with_len, get_or-map-range_with_len}
use Rattle.des_block.specs.Bits.{bits, number, picked, xor_bits}
use Rattle.des_block.specs.Tables.{initial_permutation, inverse_permutation}
use Rattle.des_block.specs.Cipher.{Halves, halves, cipher_function, round, ciphered, round_keys, word_bytes, block_bits, block_bytes, des_encipher}
use Rattle.des_block.specs.Cipher.{des_decipher, tdes_encipher, tdes_decipher}
use Rattle.des_block.proofs.Digits.{length-picked, length-bits, length-xor_bits, bits-number, number-bits, number-lt}
use Rattle.des_block.proofs.Lengths.{length-cipher_function}
use mathlib.Core.Bool.{xor}

xor_twice : (x y : Bool) → xor (xor x y) y ≡ x
unfolding mathlib.Core.Bool.xor
xor_twice true true = refl
xor_twice true false = refl
xor_twice false true = refl
xor_twice false false = refl

xor_bits_twice : (xs ys : List Bool) → length xs ≡ length ys → xor_bits (xor_bits xs ys) ys ≡ xs
unfolding xor_bits
xor_bits_twice [] ys e = refl
xor_bits_twice (x ∷ xs) [] e = absurd (omega arith)
xor_bits_twice (x ∷ xs) (y ∷ ys) e = ap₂ (λ a b. a ∷ b) (xor_twice x y) (xor_bits_twice xs ys (omega arith))

-- the table 1, 2, 3, .. picks every bit in its place
picked_all : (bs : List Bool) (n : ℕ) → length bs ≡ n → picked (range_with_len 1 n) bs ≡ bs
unfolding picked
picked_all bs n len =
    let at : (i : ℕ) → i < length (picked (range_with_len 1 n) bs) → slice_index_or (picked (range_with_len 1 n) bs) i false ≡ slice_index_or bs i false =
    λ i h. get_or-map-range_with_len (λ e. slice_index_or bs (e - 1) false) 1 n i (i + 1) false
    (omega (arith, length-map-range_with_len (λ (e : ℕ). slice_index_or bs (e - 1) false) 1 n)) (omega arith)
    ∙ ap (λ k. slice_index_or bs k false) (omega arith) in
    ext_get_or false (picked (range_with_len 1 n) bs) bs (length-map-range_with_len (λ (e : ℕ). slice_index_or bs (e - 1) false) 1 n ∙ sym len) at

pub initial-inverse : (bs : List Bool) → length bs ≡ 64 → picked initial_permutation (picked inverse_permutation bs) ≡ bs
unfolding picked initial_permutation inverse_permutation
initial-inverse bs len =
    let e : picked initial_permutation (picked inverse_permutation bs) ≡ picked (range_with_len 1 64) bs = refl in
    e ∙ picked_all bs 64 len

pub inverse-initial : (bs : List Bool) → length bs ≡ 64 → picked inverse_permutation (picked initial_permutation bs) ≡ bs
unfolding picked initial_permutation inverse_permutation
inverse-initial bs len =
    let e : picked inverse_permutation (picked initial_permutation bs) ≡ picked (range_with_len 1 64) bs = refl in
    e ∙ picked_all bs 64 len

length-initial : (bs : List Bool) → length (picked initial_permutation bs) ≡ 64
unfolding initial_permutation
length-initial bs = length-picked initial_permutation bs

pub length-inverse : (bs : List Bool) → length (picked inverse_permutation bs) ≡ 64
unfolding inverse_permutation
length-inverse bs = length-picked inverse_permutation bs

-- both halves have 32 bits
pub record AreHalves (h : Halves) : Type 0 where
  pub left : length h.left ≡ 32
  pub right : length h.right ≡ 32

AreHalves-round : (h : Halves) (key : List Bool) → AreHalves h → AreHalves (round h key)
unfolding round
AreHalves-round h key w =
    let len : length (cipher_function h.right key) ≡ 32 = length-cipher_function h.right key in
    record { left = w.right; right = length-xor_bits h.left (cipher_function h.right key) (w.left ∙ sym len) ∙ w.left }

pub AreHalves-rounds : (h : Halves) (keys : List (List Bool)) → AreHalves h → AreHalves (fold round h keys)
AreHalves-rounds h [] w = w
AreHalves-rounds h (key ∷ keys) w = AreHalves-rounds (round h key) keys (AreHalves-round h key w)

unfoldable pub exchanged : Halves → Halves
exchanged h = record { left = h.right; right = h.left }

-- a round undoes itself between two exchanges
round_back : (h : Halves) (key : List Bool) → AreHalves h → round (exchanged (round h key)) key ≡ exchanged h
unfolding round exchanged
round_back h key w =
    let back : xor_bits (xor_bits h.left (cipher_function h.right key)) (cipher_function h.right key) ≡ h.left =
    xor_bits_twice h.left (cipher_function h.right key) (w.left ∙ sym (length-cipher_function h.right key)) in
    rw back refl

fold-append : {A B : Type 0} (f : B → A → B) (a : B) (xs ys : List A) → fold f a (xs ++ ys) ≡ fold f (fold f a xs) ys
fold-append f a [] ys = refl
fold-append f a (x ∷ xs) ys = fold-append f (f a x) xs ys

-- the rounds under the keys in the opposite order take the exchanged halves back
pub rounds_back : (keys : List (List Bool)) (h : Halves) → AreHalves h → fold round (exchanged (fold round h keys)) (reverse keys) ≡ exchanged h
rounds_back [] h w = refl
rounds_back (key ∷ keys) h w =
    let order : reverse (key ∷ keys) ≡ reverse keys ++ key ∷ [] = reverse-append (key ∷ []) keys in
    ap (fold round (exchanged (fold round (round h key) keys))) order
    ∙ fold-append round (exchanged (fold round (round h key) keys)) (reverse keys) (key ∷ [])
    ∙ ap (λ s. round s key) (rounds_back keys (round h key) (AreHalves-round h key w))
    ∙ round_back h key w

pub length-ciphered : (keys : List (List Bool)) (block : List Bool) → length (ciphered keys block) ≡ 64
unfolding ciphered
length-ciphered keys block = length-inverse _

pub AreHalves-halves : (bs : List Bool) → length bs ≡ 64 → AreHalves (halves bs)
unfolding halves
AreHalves-halves bs len = record { left = length-take-le 32 bs (omega arith); right = omega (arith, length-drop 32 bs) }

pub halves-exchanged : (h : Halves) → AreHalves h → halves (h.right ++ h.left) ≡ exchanged h
unfolding halves exchanged
halves-exchanged h w = rw (take_at h.right h.left 32 w.right, drop_at h.right h.left 32 w.right) refl

pub length_joined : (h : Halves) → AreHalves h → length (h.right ++ h.left) ≡ 64
length_joined h w = omega (arith, length-append h.right h.left, w.left, w.right)

pub ciphered_back : (keys : List (List Bool)) (block : List Bool) → length block ≡ 64 → ciphered (reverse keys) (ciphered keys block) ≡ block
unfolding ciphered halves exchanged
ciphered_back keys block len =
    let mixed : List Bool = picked initial_permutation block in
    let start : Halves = halves mixed in
    let end : Halves = fold round start keys in
    let w : AreHalves start = AreHalves-halves mixed (length-initial block) in
    let v : AreHalves end = AreHalves-rounds start keys w in
    let again : picked initial_permutation (picked inverse_permutation (end.right ++ end.left)) ≡ end.right ++ end.left =
    initial-inverse (end.right ++ end.left) (length_joined end v) in
    let turn : halves (picked initial_permutation (picked inverse_permutation (end.right ++ end.left))) ≡ exchanged end =
    ap halves again ∙ halves-exchanged end v in
    let back : fold round (halves (picked initial_permutation (picked inverse_permutation (end.right ++ end.left)))) (reverse keys) ≡ exchanged start =
    ap (λ s. fold round s (reverse keys)) turn ∙ rounds_back keys start w in
    ap (λ (h : Halves). picked inverse_permutation (h.right ++ h.left)) back
    ∙ ap (picked inverse_permutation) (take-append-drop 32 mixed) ∙ inverse-initial block len

pub map-reverse : {A B : Type 0} (f : A → B) (xs : List A) → map f (reverse xs) ≡ reverse (map f xs)
map-reverse f [] = refl
map-reverse f (x ∷ xs) =
    ap (map f) (reverse-append (x ∷ []) xs) ∙ map-append f (reverse xs) (x ∷ []) ∙ ap (λ ys. ys ++ f x ∷ []) (map-reverse f xs)
    ∙ sym (reverse-append (f x ∷ []) (map f xs))

-- ---- bytes

pub length-block_bits : (bytes : List ℕ) → length (block_bits bytes) ≡ 64
unfolding block_bits
length-block_bits bytes = length-bits 64 (from_be_bytes w64 bytes)

pub block_bits-block_bytes : (bs : List Bool) → length bs ≡ 64 → block_bits (block_bytes bs) ≡ bs
unfolding word_bytes block_bits block_bytes
block_bits-block_bytes bs len =
    let fits : number bs < 2 ^ 64 = rw len at (number-lt bs) in
    ap (bits 64) (from_be_bytes-to_be_bytes_8 (number bs) fits) ∙ bits-number 64 bs len

pub from_be_bytes-lt : (bytes : List ℕ) → ((i : ℕ) → get_or bytes i 0 < 256) → from_be_bytes w64 bytes < 2 ^ 64
from_be_bytes-lt bytes small = omega (arith, small 0, small 1, small 2, small 3, small 4, small 5, small 6, small 7)

pub block_bytes-block_bits : (bytes : List ℕ) → length bytes ≡ 8 → ((i : ℕ) → get_or bytes i 0 < 256) → block_bytes (block_bits bytes) ≡ bytes
unfolding word_bytes block_bits block_bytes
block_bytes-block_bits bytes len small =
    let n : ℕ = from_be_bytes w64 bytes in
    let fits : n < 2 ^ 64 = from_be_bytes-lt bytes small in
    let whole : number (bits 64 n) ≡ n = number-bits 64 n ∙ omega arith in
    ap (to_be_bytes w64) whole ∙ be_bytes_8 bytes n len small refl

pub des_decipher-des_encipher : (key block : List ℕ) → length block ≡ 8 → ((i : ℕ) → get_or block i 0 < 256)
    → des_decipher key (des_encipher key block) ≡ block
unfolding des_encipher des_decipher
des_decipher-des_encipher key block len small =
    let keys : List (List Bool) = round_keys (block_bits key) in
    ap (λ b. block_bytes (ciphered (reverse keys) b)) (block_bits-block_bytes (ciphered keys (block_bits block)) (length-ciphered keys (block_bits block)))
    ∙ ap block_bytes (ciphered_back keys (block_bits block) (length-block_bits block))
    ∙ block_bytes-block_bits block len small

pub des_encipher-des_decipher : (key block : List ℕ) → length block ≡ 8 → ((i : ℕ) → get_or block i 0 < 256)
    → des_encipher key (des_decipher key block) ≡ block
unfolding des_encipher des_decipher
des_encipher-des_decipher key block len small =
    let keys : List (List Bool) = round_keys (block_bits key) in
    let order : reverse (reverse keys) ≡ keys = reverse-reverse keys in
    ap (λ b. block_bytes (ciphered keys b))
    (block_bits-block_bytes (ciphered (reverse keys) (block_bits block)) (length-ciphered (reverse keys) (block_bits block)))
    ∙ ap (λ ks. block_bytes (ciphered ks (ciphered (reverse keys) (block_bits block)))) (sym order)
    ∙ ap block_bytes (ciphered_back (reverse keys) (block_bits block) (length-block_bits block))
    ∙ block_bytes-block_bits block len small

pub length-des_encipher : (key block : List ℕ) → length (des_encipher key block) ≡ 8
unfolding word_bytes des_encipher block_bytes
length-des_encipher key block = refl

pub length-des_decipher : (key block : List ℕ) → length (des_decipher key block) ≡ 8
unfolding word_bytes des_decipher block_bytes
length-des_decipher key block = refl

-- each of eight bytes of a number is a byte
pub bytes_small : (n i : ℕ) → get_or (to_be_bytes w64 n) i 0 < 256
bytes_small n zero = omega arith
bytes_small n (suc zero) = omega arith
bytes_small n (suc (suc zero)) = omega arith
bytes_small n (suc (suc (suc zero))) = omega arith
bytes_small n (suc (suc (suc (suc zero)))) = omega arith
bytes_small n (suc (suc (suc (suc (suc zero))))) = omega arith
bytes_small n (suc (suc (suc (suc (suc (suc zero)))))) = omega arith
bytes_small n (suc (suc (suc (suc (suc (suc (suc zero))))))) = omega arith
bytes_small n (suc (suc (suc (suc (suc (suc (suc (suc i)))))))) = omega arith

pub des_encipher_small : (key block : List ℕ) (i : ℕ) → get_or (des_encipher key block) i 0 < 256
unfolding word_bytes des_encipher block_bytes
des_encipher_small key block i = bytes_small _ i

pub des_decipher_small : (key block : List ℕ) (i : ℕ) → get_or (des_decipher key block) i 0 < 256
unfolding word_bytes des_decipher block_bytes
des_decipher_small key block i = bytes_small _ i

pub tdes_decipher-tdes_encipher : (key block : List ℕ) → length block ≡ 8 → ((i : ℕ) → get_or block i 0 < 256)
    → tdes_decipher key (tdes_encipher key block) ≡ block
unfolding tdes_encipher tdes_decipher
tdes_decipher-tdes_encipher key block len small =
    let l : List ℕ = take 8 key in
    let r : List ℕ = drop 8 key in
    let x : List ℕ = des_encipher l block in
    let y : List ℕ = des_decipher r x in
    ap (λ b. des_decipher l (des_encipher r b)) (des_decipher-des_encipher l y (length-des_decipher r x) (des_decipher_small r x))
    ∙ ap (des_decipher l) (des_encipher-des_decipher r x (length-des_encipher l block) (des_encipher_small l block))
    ∙ des_decipher-des_encipher l block len small

pub tdes_encipher-tdes_decipher : (key block : List ℕ) → length block ≡ 8 → ((i : ℕ) → get_or block i 0 < 256)
    → tdes_encipher key (tdes_decipher key block) ≡ block
unfolding tdes_encipher tdes_decipher
tdes_encipher-tdes_decipher key block len small =
    let l : List ℕ = take 8 key in
    let r : List ℕ = drop 8 key in
    let x : List ℕ = des_decipher l block in
    let y : List ℕ = des_encipher r x in
    ap (λ b. des_encipher l (des_decipher r b)) (des_encipher-des_decipher l y (length-des_encipher r x) (des_encipher_small r x))
    ∙ ap (des_encipher l) (des_decipher-des_encipher r x (length-des_decipher l block) (des_decipher_small l block))
    ∙ des_encipher-des_decipher l block len small

-- ---- blocks as numbers

pub block_bits-word_bytes : (n : ℕ) → n < 2 ^ 64 → block_bits (word_bytes n) ≡ bits 64 n
unfolding block_bits word_bytes
block_bits-word_bytes n h = ap (bits 64) (from_be_bytes-to_be_bytes_8 n h)

pub word_bytes-from_be_bytes : (bytes : List ℕ) (n : ℕ) → length bytes ≡ 8 → ((i : ℕ) → get_or bytes i 0 < 256) → n ≡ from_be_bytes w64 bytes
    → word_bytes n ≡ bytes
unfolding word_bytes
word_bytes-from_be_bytes bytes n len small e = be_bytes_8 bytes n len small e

pub length-word_bytes : (n : ℕ) → length (word_bytes n) ≡ 8
unfolding word_bytes
length-word_bytes n = refl

pub word_bytes_small : (n i : ℕ) → get_or (word_bytes n) i 0 < 256
unfolding word_bytes
word_bytes_small n i = bytes_small n i

-- a word of the rounds is DES on its bytes
pub word_enciphered : (key : List ℕ) (block out : ℕ) → block < 2 ^ 64 → out ≡ number (ciphered (round_keys (block_bits key)) (bits 64 block))
    → word_bytes out ≡ des_encipher key (word_bytes block)
unfolding des_encipher block_bytes
word_enciphered key block out h e =
    ap word_bytes (e ∙ ap (λ b. number (ciphered (round_keys (block_bits key)) b)) (sym (block_bits-word_bytes block h)))

pub word_deciphered : (key : List ℕ) (block out : ℕ) → block < 2 ^ 64 → out ≡ number (ciphered (reverse (round_keys (block_bits key))) (bits 64 block))
    → word_bytes out ≡ des_decipher key (word_bytes block)
unfolding des_decipher block_bytes
word_deciphered key block out h e =
    ap word_bytes (e ∙ ap (λ b. number (ciphered (reverse (round_keys (block_bits key))) b)) (sym (block_bits-word_bytes block h)))

-- a function of bytes that was computed on words
pub on_bytes : (f : List ℕ → List ℕ) (block : List ℕ) (n w : ℕ) (out : List ℕ) → length block ≡ 8 → ((i : ℕ) → get_or block i 0 < 256)
    → n ≡ from_be_bytes w64 block → word_bytes w ≡ f (word_bytes n) → out ≡ to_be_bytes w64 w → out ≡ f block
unfolding word_bytes
on_bytes f block n w out len small en ew eo = eo ∙ ew ∙ ap f (word_bytes-from_be_bytes block n len small en)
