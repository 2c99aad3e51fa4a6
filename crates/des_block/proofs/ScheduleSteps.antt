-- The round keys from their words, and a word from its bits by groups of the key's bits.
use Rattle.std.proofs.Common.{◌≡◌, ℕ, ◌+◌, ◌*◌, ◌/◌, ◌%◌, ◌^◌, ◌<◌, Bool, List, [], ◌∷◌, ◌++◌, length, map, take, set, get_or, slice_index_or, bit_xor}
use Rattle.std.proofs.Common.{refl, sym, ap, ap₂, ◌∙◌, arith, mod-lt, length-set}
use Rattle.std.specs.List.{range_with_len}
use Rattle.std.proofs.lemmas.Nat.{shr-shr, pow-add}
use Rattle.std.proofs.Math.Nat.{mul_assoc}
use Rattle.std.proofs.lemmas.List.{take_all, take_more, take_more_set, map-append, length-map}
use Rattle.std.proofs.lemmas.List.FromFn.{get_or-map-range_with_len}
use lib.Bits.{xor_shifted, xor_zero_r}
use Rattle.des_block.specs.Bits.{bits, number, picked}
use Rattle.des_block.specs.Tables.{key_choice_left, key_choice_right, round_key_choice, rotations}
use Rattle.des_block.specs.Cipher.{turned, keys_from, round_keys}
use Rattle.des_block.specs.Schedule.{turns, key_numbers, word_choices, key_choice}
use Rattle.des_block.specs.Keyed.{box_places}
use Rattle.des_block.proofs.Digits.{below_two, length-picked, bits-number}
use Rattle.des_block.proofs.Linear.{Additive, at_zero, shl_additive, after_additive}

-- ---- a word from the key's bytes

module _ (g : ℕ → ℕ) (a : Additive g) (lowest : g 1 ≡ 0) where
  -- a byte gives what its high four bits and the three below them give, and its lowest bit gives nothing
  byte_joined : (y : ℕ) → bit_xor (g (y / 256 * 256)) (bit_xor (g (y % 256 / 16 * 16)) (g (y % 256 / 2 % 8 * 2))) ≡ g y
  byte_joined y =
      let middle : bit_xor (y % 256 / 16 * 2 ^ 4) (y % 256 / 2 % 8 * 2) ≡ y % 256 / 16 * 16 + y % 256 / 2 % 8 * 2 =
      xor_shifted (y % 256 / 16) 4 (y % 256 / 2 % 8 * 2) (omega arith) in
      let high : bit_xor (y / 256 * 2 ^ 8) (y % 256 / 16 * 16 + y % 256 / 2 % 8 * 2) ≡ y / 2 * 2 =
      xor_shifted (y / 256) 8 (y % 256 / 16 * 16 + y % 256 / 2 % 8 * 2) (omega arith) ∙ omega arith in
      let whole : bit_xor (y / 2 * 2 ^ 1) (y % 2) ≡ y = xor_shifted (y / 2) 1 (y % 2) (mod-lt y (omega arith)) ∙ omega arith in
      let none : g (y % 2) ≡ 0 = below_two (λ d. g d ≡ 0) (at_zero g a) lowest (y % 2) (mod-lt y (omega arith)) in
      ap (bit_xor (g (y / 256 * 256))) (sym (a.through (y % 256 / 16 * 16) (y % 256 / 2 % 8 * 2)) ∙ ap g middle)
      ∙ sym (a.through (y / 256 * 256) (y % 256 / 16 * 16 + y % 256 / 2 % 8 * 2)) ∙ ap g high
      ∙ sym (xor_zero_r (g (y / 2 * 2))) ∙ ap (bit_xor (g (y / 2 * 2))) (sym none)
      ∙ sym (a.through (y / 2 * 2) (y % 2)) ∙ ap g whole

-- the same of a byte of a word, k places from the right, behind the bytes above it
pub byte_more : (f : ℕ → ℕ) (x k before high low : ℕ) → Additive f → f (1 * 2 ^ k) ≡ 0 → before ≡ f (x / 2 ^ (8 + k) * 2 ^ (8 + k))
    → high ≡ f (x / 2 ^ k % 256 / 16 * 2 ^ (4 + k)) → low ≡ f (x / 2 ^ k % 256 / 2 % 8 * 2 ^ (1 + k))
    → bit_xor before (bit_xor high low) ≡ f (x / 2 ^ k * 2 ^ k)
byte_more f x k before high low a lowest eb eh el =
    let y : ℕ = x / 2 ^ k in
    let place : (n m : ℕ) → m * 2 ^ (n + k) ≡ m * 2 ^ n * 2 ^ k =
    λ n m. ap (λ p. m * p) (pow-add 2 n k) ∙ sym (mul_assoc m (2 ^ n) (2 ^ k)) in
    let above : x / 2 ^ (8 + k) ≡ y / 256 = ap (λ n. x / 2 ^ n) (omega arith) ∙ sym (shr-shr x k 8) in
    ap₂ bit_xor (eb ∙ ap (λ n. f (n * 2 ^ (8 + k))) above ∙ ap f (place 8 (y / 256)))
    (ap₂ bit_xor (eh ∙ ap f (place 4 (y % 256 / 16))) (el ∙ ap f (place 1 (y % 256 / 2 % 8))))
    ∙ byte_joined (λ n. f (n * 2 ^ k)) (after_additive f (λ n. n * 2 ^ k) a (shl_additive k)) lowest y

-- ---- the round keys from their words

-- the round keys, each picked from its two words
keys_picked : (bs : List Bool)
    → map (λ r. picked box_places (picked (key_choice (2 * r)) bs ++ picked (key_choice (2 * r + 1)) bs)) (range_with_len 0 16) ≡ round_keys bs
unfolding picked key_choice_left key_choice_right round_key_choice rotations turned keys_from round_keys turns key_numbers word_choices key_choice box_places
keys_picked bs = refl

length-key_choice : (i : ℕ) → length (key_choice i) ≡ 32
unfolding key_choice word_choices
length-key_choice i =
    length-map (slice_index_or word_choices (i % 2) []) _
    ∙ below_two (λ p. length (slice_index_or word_choices p []) ≡ 32) refl refl (i % 2) (mod-lt i (omega arith))

-- the round keys so far
module _ {A : Type 0} (view : A → List Bool) where
  pub record Lays (key i : ℕ) (keys : List A) : Type 0 where
    pub len : length keys ≡ 16
    pub front : map view (take i keys) ≡ take i (round_keys (bits 64 key))

  pub Lays_none : (key : ℕ) (keys : List A) → length keys ≡ 16 → Lays key 0 keys
  Lays_none key keys len = record { len = len; front = refl }

  pub Lays_more : (key i : ℕ) (keys : List A) (odd even : ℕ) (k : A) → Lays key i keys → i < 16 → odd ≡ number (picked (key_choice (2 * i)) (bits 64 key))
      → even ≡ number (picked (key_choice (2 * i + 1)) (bits 64 key)) → view k ≡ picked box_places (bits 32 odd ++ bits 32 even)
      → Lays key (i + 1) (set keys i k)
  unfolding round_keys keys_from rotations
  Lays_more key i keys odd even k done h eo ee ek =
      let bs : List Bool = bits 64 key in
      let len : length keys ≡ 16 = done.len in
      let long : length (round_keys bs) ≡ 16 = refl in
      let one : (n w : ℕ) → w ≡ number (picked (key_choice n) bs) → bits 32 w ≡ picked (key_choice n) bs =
      λ n w e. ap (bits 32) e ∙ bits-number 32 (picked (key_choice n) bs) (length-picked (key_choice n) bs ∙ length-key_choice n) in
      let at : get_or (round_keys bs) i [] ≡ picked box_places (picked (key_choice (2 * i)) bs ++ picked (key_choice (2 * i + 1)) bs) =
      ap (λ ks. get_or ks i []) (sym (keys_picked bs))
      ∙ get_or-map-range_with_len (λ r. picked box_places (picked (key_choice (2 * r)) bs ++ picked (key_choice (2 * r + 1)) bs)) 0 16 i i [] h (omega arith) in
      let next : view k ≡ get_or (round_keys bs) i [] = ek ∙ ap₂ (λ x y. picked box_places (x ++ y)) (one (2 * i) odd eo) (one (2 * i + 1) even ee) ∙ sym at in
      record {
        len = length-set keys i k ∙ len;
        front = ap (map view) (take_more_set keys i k (omega arith)) ∙ map-append view (take i keys) (k ∷ [])
            ∙ ap₂ (λ xs x. xs ++ x ∷ []) done.front next ∙ sym (take_more (round_keys bs) i [] (omega arith));
      }

  pub Lays_all : (key i : ℕ) (keys : List A) → i ≡ 16 → Lays key i keys → map view keys ≡ round_keys (bits 64 key)
  unfolding round_keys keys_from rotations
  Lays_all key i keys ei done =
      let len : length keys ≡ 16 = done.len in
      let long : length (round_keys (bits 64 key)) ≡ 16 = refl in
      ap (map view) (sym (take_all i keys (omega arith))) ∙ done.front ∙ take_all i (round_keys (bits 64 key)) (omega arith)
