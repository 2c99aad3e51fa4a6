-- A block that is enciphered, and a CMAC, have sixteen bytes.
use Rattle.std.proofs.Common.{◌≡◌, ℕ, zero, suc, ◌+◌, ◌-◌, ◌*◌, ◌/◌, ◌%◌, ◌<◌, ◌==◌, if◌then◌else◌, true, false, List}
use Rattle.std.proofs.Common.{[], ◌∷◌, ◌++◌, length, take, drop, get_or}
use Rattle.std.proofs.Common.{refl, sym, ap, ◌∙◌, arith, length-append, length-take, length-drop}
use Rattle.std.proofs.lemmas.List.{length-map}
use Rattle.aes_cipher.specs.Field.{substituted}
use Rattle.aes_cipher.specs.Cipher.{xor_bytes, sub_bytes, shift_rows, state_of, last_round, ciphered, power_of_two}
use Rattle.aes_cipher.specs.Cipher.{key_step, words_from, key_words}
use Rattle.aes_cipher.specs.Cipher.{round_keys, aes_encipher}
use Rattle.aes_cipher.specs.Mac.{chained, cmac}
use Rattle.aes_cipher.proofs.ScheduleSteps.{keys_from, fours_more, fours_from}

pub length-xor_bytes : (xs ys : List ℕ) → length xs ≡ length ys → length (xor_bytes xs ys) ≡ length xs
unfolding xor_bytes
length-xor_bytes [] ys e = refl
length-xor_bytes (x ∷ xs) [] e = absurd (omega arith)
length-xor_bytes (x ∷ xs) (y ∷ ys) e = ap suc (length-xor_bytes xs ys (omega arith))

both_four : (xs ys : List ℕ) → length xs ≡ 4 → length ys ≡ 4 → length (xor_bytes xs ys) ≡ 4
both_four xs ys e f = length-xor_bytes xs ys (e ∙ sym f) ∙ e

length-shift_rows : (state : List ℕ) → length (shift_rows state) ≡ 16
unfolding shift_rows state_of
length-shift_rows state = refl

length-last_round : (state key : List ℕ) → length key ≡ 16 → length (last_round state key) ≡ 16
unfolding last_round
length-last_round state key e =
    let rows : length (shift_rows (sub_bytes state)) ≡ 16 = length-shift_rows (sub_bytes state) in
    length-xor_bytes (shift_rows (sub_bytes state)) key (rows ∙ sym e) ∙ rows

length-rotated : (w : List ℕ) → length w ≡ 4 → length (sub_bytes (drop 1 w ++ take 1 w)) ≡ 4
unfolding sub_bytes
length-rotated w e =
    length-map (drop 1 w ++ take 1 w) substituted
    ∙ omega (arith, length-append (drop 1 w) (take 1 w), length-drop 1 w, length-take 1 w)

length-key_step : (i : ℕ) (w : List ℕ) → length w ≡ 4 → length (key_step i w) ≡ 4
unfolding key_step
length-key_step i w e =
    let constant : List ℕ = power_of_two (i / 4 - 1) ∷ 0 ∷ 0 ∷ 0 ∷ [] in
    let added : List ℕ = xor_bytes (sub_bytes (drop 1 w ++ take 1 w)) constant in
    elim (i % 4 == 0) as (λ t. length (if t then added else w) ≡ 4)
    [ true ↦ both_four (sub_bytes (drop 1 w ++ take 1 w)) constant (length-rotated w e) refl | false ↦ e ]

length-keys_from : (n j i : ℕ) (a b c d : List ℕ) → i < n → length a ≡ 4 → length b ≡ 4 → length c ≡ 4 → length d ≡ 4
    → length (get_or (keys_from n j a b c d) i []) ≡ 16
unfolding keys_from
length-keys_from zero j i a b c d h la lb lc ld = absurd (omega arith)
length-keys_from (suc n) j zero a b c d h la lb lc ld =
    let e : List ℕ = xor_bytes a (key_step (4 * j) d) in
    let f : List ℕ = xor_bytes b e in
    let g : List ℕ = xor_bytes c f in
    let k : List ℕ = xor_bytes d g in
    let le : length e ≡ 4 = both_four a (key_step (4 * j) d) la (length-key_step (4 * j) d ld) in
    let lf : length f ≡ 4 = both_four b e lb le in
    let lg : length g ≡ 4 = both_four c f lc lf in
    let lk : length k ≡ 4 = both_four d g ld lg in
    omega (
      arith,
      length-append e (f ++ (g ++ (k ++ []))),
      length-append f (g ++ (k ++ [])),
      length-append g (k ++ []),
      length-append {A = ℕ} k [],
      le,
      lf,
      lg,
      lk,
    )
length-keys_from (suc n) j (suc i) a b c d h la lb lc ld =
    let e : List ℕ = xor_bytes a (key_step (4 * j) d) in
    let f : List ℕ = xor_bytes b e in
    let g : List ℕ = xor_bytes c f in
    let k : List ℕ = xor_bytes d g in
    let le : length e ≡ 4 = both_four a (key_step (4 * j) d) la (length-key_step (4 * j) d ld) in
    let lf : length f ≡ 4 = both_four b e lb le in
    let lg : length g ≡ 4 = both_four c f lc lf in
    let lk : length k ≡ 4 = both_four d g ld lg in
    length-keys_from n (j + 1) i e f g k (omega arith) le lf lg lk

last_key : (key : List ℕ) → length key ≡ 16 → length (get_or (round_keys key) 10 []) ≡ 16
unfolding round_keys key_words
last_key key e =
    let a : List ℕ = take 4 key in
    let b : List ℕ = take 4 (drop 4 key) in
    let c : List ℕ = take 4 (drop 8 key) in
    let d : List ℕ = take 4 (drop 12 key) in
    let part : (n : ℕ) → n < 13 → length (take 4 (drop n key)) ≡ 4 =
    λ n h. omega (arith, length-take 4 (drop n key), length-drop n key) in
    ap (λ ks. length (get_or ks 10 [])) (fours_more 10 a b c d (words_from 40 4 a b c d)
    ∙ ap (λ r. (a ++ (b ++ (c ++ (d ++ [])))) ∷ r) (fours_from 10 1 a b c d))
    ∙ length-keys_from 10 1 9 a b c d (omega arith) (omega (arith, length-take 4 key)) (part 4 (omega arith))
    (part 8 (omega arith)) (part 12 (omega arith))

pub length-aes_encipher : (key block : List ℕ) → length key ≡ 16 → length (aes_encipher key block) ≡ 16
unfolding aes_encipher ciphered
length-aes_encipher key block e = length-last_round _ (get_or (round_keys key) 10 []) (last_key key e)

pub length-cmac : (key text : List ℕ) → length key ≡ 16 → length (cmac key text) ≡ 16
unfolding cmac chained
length-cmac key text e = length-aes_encipher key _ e
