-- One word for each lane, written one after another.
use Rattle.std.proofs.Common.{◌≡◌, ℕ, ◌+◌, ◌<◌, ◌≤◌, ◌≢◌, List, [], ◌∷◌, ◌++◌, set, take, drop, map}
use Rattle.std.proofs.Common.{length, get_or, sym, ap, ap₂, ◌∙◌, arith, get_or-take, get_or-set_same, get_or-set_other, length-set, below_more}
use Rattle.std.specs.List.{range_with_len}
use Rattle.std.proofs.lemmas.List.{take_more, map-append, length-take-le, length-map, get_or-map, take_at, drop_at}
use Rattle.std.proofs.lemmas.List.FromFn.{fill_by_all}
use Rattle.std.proofs.lemmas.Simd.{length-zip2, get_or-zip2}
use lib.Lanes.{zip2}
use Rattle.des_block.specs.Cipher.{word_bytes, des_encipher, des_decipher, tdes_encipher}
use Rattle.des_block.proofs.Laws.{length-word_bytes}
use Rattle.des_lanes.specs.declared.keys.LaneKeys.{LaneKeys}
use Rattle.des_lanes.specs.Lanes.{block_in, key_in}

-- the first i words have these bytes
pub record Words (f : ℕ → List ℕ) (i : ℕ) (words : List ℕ) : Type 0 where
  pub len : length words ≡ 128
  pub at : (lane : ℕ) → lane < i → word_bytes (get_or words lane 0) ≡ f lane

pub Words_none : (f : ℕ → List ℕ) (words : List ℕ) → length words ≡ 128 → Words f 0 words
Words_none f words len = record { len = len; at = λ lane h. absurd (omega arith) }

pub Words_more : (f : ℕ → List ℕ) (i word : ℕ) (words : List ℕ) → Words f i words → i < 128 → word_bytes word ≡ f i → Words f (i + 1) (set words i word)
Words_more f i word words done h e = record {
  len = length-set words i word ∙ done.len;
  at = below_more _ _
      (λ lane below. let other : lane ≢ i = omega arith in ap word_bytes (get_or-set_other words i lane word 0 other) ∙ done.at lane below)
      (ap word_bytes (get_or-set_same words i word 0 (omega (arith, done.len))) ∙ e);
}

-- the first words' bytes are those of the first lanes
pub first_is : (g : ℕ → List ℕ) (words : List ℕ) (n : ℕ) → n ≤ length words → ((lane : ℕ) → lane < n → word_bytes (get_or words lane 0) ≡ g lane)
    → map word_bytes (take n words) ≡ map g (range_with_len 0 n)
first_is g words n room is =
    let len : length (take n words) ≡ n = length-take-le n words room in
    fill_by_all g (map word_bytes (take n words)) n [] (length-map (take n words) word_bytes ∙ len)
    (λ lane h. get_or-map word_bytes (take n words) lane 0 [] (omega (arith, len)) ∙ ap word_bytes (get_or-take n words lane 0 h) ∙ is lane h)

-- the first lanes are one for each pair of a key and a block
pub paired : {K : Type 0} (f : K → List ℕ → List ℕ) (keys : List K) (blocks : List (List ℕ)) (g : ℕ → List ℕ) (none : K) → length blocks ≡ length keys
    → ((lane : ℕ) → lane < length keys → g lane ≡ f (get_or keys lane none) (get_or blocks lane []))
    → map g (range_with_len 0 (length keys)) ≡ zip2 f keys blocks
paired f keys blocks g none len is =
    sym (fill_by_all g (zip2 f keys blocks) (length keys) [] (length-zip2 f keys blocks (sym len))
    (λ lane h. get_or-zip2 f keys blocks lane none [] [] h (omega (arith, len)) ∙ sym (is lane h)))

-- one word's bytes more
pub bytes_more : (words : List ℕ) (out new : List (List ℕ)) (i : ℕ) (item : List ℕ) → i < length words → out ≡ map word_bytes (take i words)
    → item ≡ word_bytes (get_or words i 0) → new ≡ out ++ item ∷ [] → new ≡ map word_bytes (take (i + 1) words)
bytes_more words out new i item h so_far e is =
    is ∙ ap₂ (λ o b. o ++ b ∷ []) so_far e
    ∙ sym (ap (map word_bytes) (take_more words i 0 h) ∙ map-append word_bytes (take i words) (get_or words i 0 ∷ []))

-- triple DES under halves that are a key's
pub tripled_is : (key left right block text : List ℕ) → left ≡ take 8 key → right ≡ drop 8 key → block ≡ text
    → des_encipher left (des_decipher right (des_encipher left block)) ≡ tdes_encipher key text
unfolding tdes_encipher
tripled_is key left right block text el er eb =
    ap₂ des_encipher el (ap₂ des_decipher er (ap₂ des_encipher el eb))

-- the halves of a lane's key
pub left_of : (lane : ℕ) (keys : LaneKeys) → block_in lane keys.left ≡ take 8 (key_in lane keys)
unfolding key_in block_in
left_of lane keys = sym (take_at (block_in lane keys.left) (block_in lane keys.right) 8 (length-word_bytes _))

pub right_of : (lane : ℕ) (keys : LaneKeys) → block_in lane keys.right ≡ drop 8 (key_in lane keys)
unfolding key_in block_in
right_of lane keys = sym (drop_at (block_in lane keys.left) (block_in lane keys.right) 8 (length-word_bytes _))
