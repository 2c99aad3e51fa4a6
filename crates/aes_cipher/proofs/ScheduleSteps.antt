-- The key's words, four at a time, are the round keys.
use Rattle.std.proofs.Common.{◌≡◌, ℕ, zero, suc, ◌+◌, ◌-◌, ◌*◌, ◌/◌, ◌%◌, ◌^◌, ◌<◌, ◌==◌, true, false, List, [], ◌∷◌}
use Rattle.std.proofs.Common.{◌++◌, length, map, take, drop, set, slice_index}
use Rattle.std.proofs.Common.{refl, sym, ap, ◌∙◌, arith, append-nil, append_assoc}
use Rattle.std.specs.Int.{w32, from_be_bytes}
use Rattle.std.proofs.lemmas.List.{take_more_set, take_all, map-append}
use Rattle.std.proofs.Math.ListN.{length-set}
use Rattle.aes_cipher.specs.Cipher.{xor_bytes, sub_bytes, power_of_two, key_step, words_from, key_words, in_fours}
use Rattle.aes_cipher.specs.Cipher.{round_keys}
use Rattle.aes_cipher.specs.Columns.{word_bytes, state_bytes}
use Rattle.aes_cipher.specs.declared.rounds.Columns.{Columns}
use Rattle.aes_cipher.specs.declared.tables.TheConstants.{BOX, ROUND_CONSTANTS}
use Rattle.aes_cipher.proofs.RoundSteps.{box_at, substituted_is}
use Rattle.aes_cipher.proofs.MergedTables.{box_is, box_small, constant_at}

-- four look-ups of a word's bytes, rotated by one place
pub rotated_is : (word w : ℕ) (r : List ℕ) → r ≡ word_bytes word
    → w ≡ from_be_bytes w32 (slice_index BOX (slice_index r 1) ∷ slice_index BOX (slice_index r 2)
    ∷ slice_index BOX (slice_index r 3)
    ∷ slice_index BOX (slice_index r 0) ∷ [])
    → word_bytes w ≡ sub_bytes (drop 1 (word_bytes word) ++ take 1 (word_bytes word))
unfolding word_bytes
rotated_is word w r er e =
    let a : ℕ = word / 2 ^ 24 % 2 ^ 8 in
    let b : ℕ = word / 2 ^ 16 % 2 ^ 8 in
    let c : ℕ = word / 2 ^ 8 % 2 ^ 8 in
    let d : ℕ = word % 2 ^ 8 in
    let same : w ≡ from_be_bytes w32
    (slice_index BOX b ∷ slice_index BOX c ∷ slice_index BOX d ∷ slice_index BOX a ∷ []) =
    e ∙ ap (λ (l : List ℕ). from_be_bytes w32
    (slice_index BOX (slice_index l 1) ∷ slice_index BOX (slice_index l 2) ∷ slice_index BOX (slice_index l 3)
    ∷ slice_index BOX (slice_index l 0) ∷ [])) er in
    substituted_is (slice_index BOX b) (slice_index BOX c) (slice_index BOX d) (slice_index BOX a) b c d a w
    (box_small b (omega arith)) (box_small c (omega arith)) (box_small d (omega arith)) (box_small a (omega arith))
    (box_at BOX b b box_is refl (omega arith)) (box_at BOX c c box_is refl (omega arith))
    (box_at BOX d d box_is refl (omega arith))
    (box_at BOX a a box_is refl (omega arith)) same

-- the round keys from round j on, n of them, where a b c d are the words of the round key before
unfoldable pub keys_from : ℕ → ℕ → List ℕ → List ℕ → List ℕ → List ℕ → List (List ℕ)
keys_from zero j a b c d = []
keys_from (suc n) j a b c d =
    let e = xor_bytes a (key_step (4 * j) d) in
    let f = xor_bytes b e in
    let g = xor_bytes c f in
    let h = xor_bytes d g in
    (e ++ (f ++ (g ++ (h ++ [])))) ∷ keys_from n (j + 1) e f g h

-- a word whose number 4 does not divide
copied : (i r : ℕ) (w : List ℕ) → i % 4 ≡ r → (r == 0) ≡ false → key_step i w ≡ w
unfolding key_step
copied i r w e other =
    let test : (i % 4 == 0) ≡ false = ap (λ k. k == 0) e ∙ other in
    rw test refl

-- four words more
four_words : (n i : ℕ) (a b c d : List ℕ) → i % 4 ≡ 0 →
    let e = xor_bytes a (key_step i d) in
    let f = xor_bytes b e in
    let g = xor_bytes c f in
    let h = xor_bytes d g in
    words_from (4 * suc n) i a b c d ≡ e ∷ f ∷ g ∷ h ∷ words_from (4 * n) (i + 1 + 1 + 1 + 1) e f g h
unfolding words_from
four_words n i a b c d first =
    let e : List ℕ = xor_bytes a (key_step i d) in
    let f : List ℕ = xor_bytes b e in
    let g : List ℕ = xor_bytes c f in
    let count : 4 * suc n ≡ suc (suc (suc (suc (4 * n)))) = omega arith in
    let one : (x : List ℕ) → key_step (i + 1) x ≡ x = λ x. copied (i + 1) 1 x (omega arith) refl in
    let two : (x : List ℕ) → key_step (i + 1 + 1) x ≡ x = λ x. copied (i + 1 + 1) 2 x (omega arith) refl in
    let three : (x : List ℕ) → key_step (i + 1 + 1 + 1) x ≡ x = λ x. copied (i + 1 + 1 + 1) 3 x (omega arith) refl in
    ap (λ k. words_from k i a b c d) count
    ∙ ap (λ x. e ∷ xor_bytes b x ∷ words_from (suc (suc (4 * n))) (i + 1 + 1) c d e (xor_bytes b x)) (one e)
    ∙ ap (λ x. e ∷ f ∷ xor_bytes c x ∷ words_from (suc (4 * n)) (i + 1 + 1 + 1) d e f (xor_bytes c x)) (two f)
    ∙ ap (λ x. e ∷ f ∷ g ∷ xor_bytes d x ∷ words_from (4 * n) (i + 1 + 1 + 1 + 1) e f g (xor_bytes d x)) (three g)

pub fours_more : (n : ℕ) (a b c d : List ℕ) (rest : List (List ℕ))
    → in_fours (suc n) (a ∷ b ∷ c ∷ d ∷ rest) ≡ (a ++ (b ++ (c ++ (d ++ [])))) ∷ in_fours n rest
unfolding in_fours
fours_more n a b c d rest = refl

fours_none : (words : List (List ℕ)) → in_fours 0 words ≡ []
unfolding in_fours
fours_none words = refl

pub fours_from : (n j : ℕ) (a b c d : List ℕ) → in_fours n (words_from (4 * n) (4 * j) a b c d) ≡ keys_from n j a b c d
unfolding keys_from
fours_from zero j a b c d = fours_none (words_from (4 * 0) (4 * j) a b c d)
fours_from (suc n) j a b c d =
    let e : List ℕ = xor_bytes a (key_step (4 * j) d) in
    let f : List ℕ = xor_bytes b e in
    let g : List ℕ = xor_bytes c f in
    let h : List ℕ = xor_bytes d g in
    ap (in_fours (suc n)) (four_words n (4 * j) a b c d (omega arith))
    ∙ fours_more n e f g h (words_from (4 * n) (4 * j + 1 + 1 + 1 + 1) e f g h)
    ∙ ap (λ r. (e ++ (f ++ (g ++ (h ++ [])))) ∷ r)
    (ap (λ i. in_fours n (words_from (4 * n) i e f g h)) (omega arith) ∙ fours_from n (j + 1) e f g h)

-- the round keys of a key, the first of which is the key
round_keys_are : (k : Columns) → round_keys (state_bytes k)
    ≡ state_bytes k ∷ keys_from 10 1 (word_bytes k.first) (word_bytes k.second) (word_bytes k.third)
    (word_bytes k.fourth)
unfolding round_keys key_words state_bytes word_bytes
round_keys_are k =
    let a : List ℕ = word_bytes k.first in
    let b : List ℕ = word_bytes k.second in
    let c : List ℕ = word_bytes k.third in
    let d : List ℕ = word_bytes k.fourth in
    fours_more 10 a b c d (words_from 40 4 a b c d) ∙ ap (λ r. (a ++ (b ++ (c ++ d))) ∷ r) (fours_from 10 1 a b c d)

abbrev keys_after : ℕ → ℕ → Columns → List (List ℕ)
keys_after n j k = keys_from n j (word_bytes k.first) (word_bytes k.second) (word_bytes k.third) (word_bytes k.fourth)

-- the round keys so far, the last of them, and those that are left
pub record Scheduled (key : Columns) (keys : List Columns) (last : Columns) (i : ℕ) : Type 0 where
  pub len : length keys ≡ 11
  pub joined : map state_bytes (take (i + 1) keys)
      ++ keys_from (10 - i) (i + 1) (word_bytes last.first) (word_bytes last.second) (word_bytes last.third)
      (word_bytes last.fourth)
      ≡ round_keys (state_bytes key)

pub Scheduled_none : (key : Columns) (keys : List Columns) → length keys ≡ 11
    → map state_bytes (take (0 + 1) keys) ≡ state_bytes key ∷ []
    → Scheduled key keys key 0
Scheduled_none key keys len first =
    record { len = len; joined = ap (λ front. front ++ keys_after 10 1 key) first ∙ sym (round_keys_are key) }

-- the word that is added where 4 divides the number
step_at : (i : ℕ) (w : List ℕ)
    → key_step (4 * (i + 1)) w ≡ xor_bytes (sub_bytes (drop 1 w ++ take 1 w)) (power_of_two i ∷ 0 ∷ 0 ∷ 0 ∷ [])
unfolding key_step
step_at i w =
    let whole : 4 * (i + 1) % 4 ≡ 0 = omega arith in
    let test : (4 * (i + 1) % 4 == 0) ≡ true = ap (λ k. k == 0) whole in
    let round : 4 * (i + 1) / 4 - 1 ≡ i = omega arith in
    rw (test, round) refl

next_key_is : (n j : ℕ) (last next : Columns)
    → xor_bytes (word_bytes last.first) (key_step (4 * j) (word_bytes last.fourth)) ≡ word_bytes next.first
    → word_bytes next.second ≡ xor_bytes (word_bytes last.second) (word_bytes next.first)
    → word_bytes next.third ≡ xor_bytes (word_bytes last.third) (word_bytes next.second)
    → word_bytes next.fourth ≡ xor_bytes (word_bytes last.fourth) (word_bytes next.third)
    → keys_after (suc n) j last ≡ state_bytes next ∷ keys_after n (j + 1) next
unfolding keys_from state_bytes
next_key_is n j last next e1 e2 e3 e4 =
    let tail : (x y z u : List ℕ) → List (List ℕ) =
    λ x y z u. (x ++ (y ++ (z ++ (u ++ [])))) ∷ keys_from n (j + 1) x y z u in
    let b : List ℕ = word_bytes last.second in
    let c : List ℕ = word_bytes last.third in
    let d : List ℕ = word_bytes last.fourth in
    ap (λ x. tail x (xor_bytes b x) (xor_bytes c (xor_bytes b x)) (xor_bytes d (xor_bytes c (xor_bytes b x)))) e1
    ∙ ap (λ y. tail (word_bytes next.first) y (xor_bytes c y) (xor_bytes d (xor_bytes c y))) (sym e2)
    ∙ ap (λ z. tail (word_bytes next.first) (word_bytes next.second) z (xor_bytes d z)) (sym e3)
    ∙ ap (λ u. tail (word_bytes next.first) (word_bytes next.second) (word_bytes next.third) u) (sym e4)
    ∙ ap (λ u. (word_bytes next.first ++ (word_bytes next.second ++ (word_bytes next.third ++ u)))
    ∷ keys_after n (j + 1) next)
    (append-nil (word_bytes next.fourth))

pub Scheduled_more : (key : Columns) (keys : List Columns) (last next : Columns) (i constant : ℕ)
    → Scheduled key keys last i → i < 10
    → constant ≡ slice_index ROUND_CONSTANTS i
    → word_bytes next.first ≡ xor_bytes (word_bytes last.first)
    (xor_bytes (sub_bytes (drop 1 (word_bytes last.fourth) ++ take 1 (word_bytes last.fourth))) (word_bytes constant))
    → word_bytes next.second ≡ xor_bytes (word_bytes last.second) (word_bytes next.first)
    → word_bytes next.third ≡ xor_bytes (word_bytes last.third) (word_bytes next.second)
    → word_bytes next.fourth ≡ xor_bytes (word_bytes last.fourth) (word_bytes next.third)
    → Scheduled key (set keys (i + 1) next) next (i + 1)
Scheduled_more key keys last next i constant done h ec e1 e2 e3 e4 =
    let len : length keys ≡ 11 = done.len in
    let count : 10 - i ≡ suc (10 - (i + 1)) = omega arith in
    let front : map state_bytes (take (i + 1 + 1) (set keys (i + 1) next))
    ≡ map state_bytes (take (i + 1) keys) ++ state_bytes next ∷ [] =
    ap (map state_bytes) (take_more_set keys (i + 1) next (omega arith))
    ∙ map-append state_bytes (take (i + 1) keys) (next ∷ []) in
    let step : key_step (4 * (i + 1)) (word_bytes last.fourth)
    ≡ xor_bytes (sub_bytes (drop 1 (word_bytes last.fourth) ++ take 1 (word_bytes last.fourth))) (word_bytes constant) =
    step_at i (word_bytes last.fourth)
    ∙ ap (xor_bytes (sub_bytes (drop 1 (word_bytes last.fourth) ++ take 1 (word_bytes last.fourth))))
    (sym (ap word_bytes ec ∙ constant_at i h)) in
    let first : xor_bytes (word_bytes last.first) (key_step (4 * (i + 1)) (word_bytes last.fourth))
    ≡ word_bytes next.first =
    ap (xor_bytes (word_bytes last.first)) step ∙ sym e1 in
    let rest : keys_after (10 - i) (i + 1) last ≡ state_bytes next ∷ keys_after (10 - (i + 1)) (i + 1 + 1) next =
    ap (λ n. keys_after n (i + 1) last) count ∙ next_key_is (10 - (i + 1)) (i + 1) last next first e2 e3 e4 in
    record {
      len = length-set keys (i + 1) next ∙ len;
      joined = ap (λ f. f ++ keys_after (10 - (i + 1)) (i + 1 + 1) next) front
          ∙ append_assoc (map state_bytes (take (i + 1) keys)) (state_bytes next ∷ [])
          (keys_after (10 - (i + 1)) (i + 1 + 1) next)
          ∙ ap (λ r. map state_bytes (take (i + 1) keys) ++ r) (sym rest) ∙ done.joined;
    }

pub Scheduled_all : (key : Columns) (keys : List Columns) (last : Columns) (i : ℕ) → Scheduled key keys last i → i ≡ 10
    → map state_bytes keys ≡ round_keys (state_bytes key)
unfolding keys_from
Scheduled_all key keys last i done h =
    let len : length keys ≡ 11 = done.len in
    let ended : 10 - i ≡ 0 = omega arith in
    let none : keys_after (10 - i) (i + 1) last ≡ [] = ap (λ n. keys_after n (i + 1) last) ended in
    ap (map state_bytes) (sym (take_all (i + 1) keys (omega arith)))
    ∙ sym (append-nil (map state_bytes (take (i + 1) keys)))
    ∙ ap (λ r. map state_bytes (take (i + 1) keys) ++ r) (sym none) ∙ done.joined
