-- The steps of the reference implementation.
use Rattle.std.proofs.Common.{ap₂, set, length-set, append_assoc, append-nil, drop-drop, ◌≡◌, ℕ, ◌+◌, ◌-◌, ◌*◌, ◌/◌, ◌%◌}
use Rattle.std.proofs.Common.{◌^◌, ◌<◌, ◌≤◌, Bool, true, false, List, [], ◌∷◌, ◌++◌, length, map, take, drop, slice_index, slice_index_or, bit_xor, bit_or}
use Rattle.std.proofs.Common.{bit_and, refl, sym, ap, ◌∙◌, arith, pow_pos, pow_mono, mod-lt, length-take-le, fold, get_or}
use Rattle.std.proofs.lemmas.Nat.{mod-pow-add, shr_high, or_shifted, and_mask, pow-add, xor_lt, shl_below}
use Rattle.std.proofs.lemmas.List.{take_all, take_more_set, map-append, drop_all, map_more, drop_more}
use Rattle.des_block.specs.Bits.{bits, digit, number, picked, xor_bits}
use Rattle.des_block.specs.Tables.{key_choice_left, key_choice_right, round_key_choice, rotations, expansion, box_permutation, initial_permutation}
use Rattle.des_block.specs.Tables.{inverse_permutation, s_boxes}
use Rattle.des_block.specs.Cipher.{Halves, halves, box_output, substituted, cipher_function, round, ciphered, turned, keys_from, round_keys}
use Rattle.des_block.proofs.Digits.{digit_of, digit_at, number-lt, number-bits, number-append, length-picked, length-bits, bits-number, take-bits}
use Rattle.des_block.proofs.Digits.{drop-bits, bits-xor, bits_mod, agree_below, bits-append}
use Rattle.des_block.proofs.Lengths.{length-box_output, length-substituted, length-cipher_function, length-turned}

number_push : (xs : List Bool) (b : Bool) → number (xs ++ b ∷ []) ≡ number xs * 2 + digit b
unfolding number
number_push xs b = rw (number-append xs (b ∷ [])) (omega arith)

digit-lt : (b : Bool) → digit b < 2
digit-lt true = omega arith
digit-lt false = omega arith

pub picked_more : (table : List ℕ) (i width word out : ℕ) → i < length table → length table ≤ 64
    → 0 < slice_index table i → slice_index table i ≤ width → out ≡ number (picked (take i table) (bits width word))
    → bit_or (out * 2 % 2 ^ 64) (bit_and (word / 2 ^ (width - slice_index table i)) 1) ≡ number (picked (take (i + 1) table) (bits width word))
unfolding picked
picked_more table i width word out h short low high e =
    let entry : ℕ = slice_index table i in
    let b : Bool = slice_index_or (bits width word) (entry - 1) false in
    let more : picked (take (i + 1) table) (bits width word) ≡ picked (take i table) (bits width word) ++ b ∷ [] =
    map_more (λ e. slice_index_or (bits width word) (e - 1) false) table i 0 h in
    let place : width - 1 - (entry - 1) ≡ width - entry = omega arith in
    let bit : digit b ≡ word / 2 ^ (width - entry) % 2 =
    ap digit (digit_at width word (entry - 1) (omega arith)) ∙ digit_of (word / 2 ^ (width - 1 - (entry - 1))) ∙ ap (λ k. word / 2 ^ k % 2) place in
    let len : length (picked (take i table) (bits width word)) ≡ i = length-picked (take i table) (bits width word) ∙ length-take-le i table (omega arith) in
    let fits : number (picked (take i table) (bits width word)) < 2 ^ i = rw len at (number-lt (picked (take i table) (bits width word))) in
    let small : out < 2 ^ 63 = omega (arith, fits, pow_mono {i = i} {j = 63} (omega arith)) in
    let last : bit_and (word / 2 ^ (width - entry)) 1 ≡ digit b = and_mask (word / 2 ^ (width - entry)) 1 ∙ sym bit in
    let whole : out * 2 % 2 ^ 64 ≡ out * 2 = omega arith in
    rw (more, number_push (picked (take i table) (bits width word)) b, last, whole, ← e) (or_shifted out 1 (digit b) (digit-lt b))

turned_parts : (half n m : ℕ) → n + m ≡ 28
    → bit_or (bit_and (bit_and half 268435455 * 2 ^ n % 2 ^ 64) 268435455) (bit_and half 268435455 / 2 ^ m) ≡ number (turned n (bits (n + m) half))
unfolding turned
turned_parts half n m width =
    let back : m + n ≡ 28 = omega arith in
    let hi : ℕ = half / 2 ^ m % 2 ^ n in
    let lo : ℕ = half % 2 ^ m in
    let masked : bit_and half 268435455 ≡ half % 2 ^ 28 = and_mask half 28 in
    let parts : half % 2 ^ 28 ≡ hi * 2 ^ m + lo = ap (λ k. half % 2 ^ k) (sym width) ∙ mod-pow-add half n m in
    let lo_fits : lo < 2 ^ m = mod-lt half (pow_pos m) in
    let hi_fits : hi < 2 ^ n = mod-lt (half / 2 ^ m) (pow_pos n) in
    let product : 2 ^ (m + n) ≡ 2 ^ 28 = ap (λ k. 2 ^ k) back in
    let shifted : lo * 2 ^ n < 2 ^ 28 = omega (arith, shl_below lo m n lo_fits) in
    let whole : (hi * 2 ^ m + lo) * 2 ^ n ≡ hi * 2 ^ 28 + lo * 2 ^ n = omega (arith, ap (λ k. hi * k) (sym (pow-add 2 m n) ∙ product)) in
    let left : bit_and ((half % 2 ^ 28) * 2 ^ n % 2 ^ 64) 268435455 ≡ lo * 2 ^ n =
    ap (λ k. bit_and (k * 2 ^ n % 2 ^ 64) 268435455) parts ∙ ap (λ k. bit_and (k % 2 ^ 64) 268435455) whole
    ∙ and_mask ((hi * 2 ^ 28 + lo * 2 ^ n) % 2 ^ 64) 28 ∙ omega arith in
    let right : (half % 2 ^ 28) / 2 ^ m ≡ hi = ap (λ k. k / 2 ^ m) parts ∙ shr_high hi m lo lo_fits in
    rw (
      masked,
      left,
      right,
      drop-bits n m half,
      take-bits n m half,
      number-append (bits m half) (bits n (half / 2 ^ m)),
      number-bits m half,
      number-bits n
          (half / 2 ^ m),
      length-bits n (half / 2 ^ m),
    )
    (or_shifted lo n hi hi_fits)

pub turned_is : (half n : ℕ) → n < 28
    → bit_or (bit_and (bit_and half 268435455 * 2 ^ n % 2 ^ 64) 268435455) (bit_and half 268435455 / 2 ^ (28 - n)) ≡ number (turned n (bits 28 half))
turned_is half n h =
    let width : n + (28 - n) ≡ 28 = omega arith in
    turned_parts half n (28 - n) width ∙ ap (λ k. number (turned n (bits k half))) width

-- the same in a word of 32 bits, for short turns
pub turned_short : (half n : ℕ) → n < 5
    → bit_or (bit_and (bit_and half 268435455 * 2 ^ n % 2 ^ 32) 268435455) (bit_and half 268435455 / 2 ^ (28 - n)) ≡ number (turned n (bits 28 half))
turned_short half n h =
    let small : bit_and half 268435455 < 2 ^ 28 = omega (arith, and_mask half 28) in
    let fits : bit_and half 268435455 * 2 ^ n < 2 ^ (28 + n) = shl_below (bit_and half 268435455) 28 n small in
    let narrow : bit_and half 268435455 * 2 ^ n < 2 ^ 32 = omega (arith, fits, pow_mono {i = 28 + n} {j = 32} (omega arith)) in
    let same : bit_and half 268435455 * 2 ^ n % 2 ^ 32 ≡ bit_and half 268435455 * 2 ^ n % 2 ^ 64 = omega arith in
    ap (λ x. bit_or (bit_and x 268435455) (bit_and half 268435455 / 2 ^ (28 - n))) same ∙ turned_is half n (omega arith)

abbrev row_and_column : ℕ → ℕ
row_and_column six = 16 * bit_or (bit_and (six / 16) 2) (bit_and six 1) + bit_and (six / 2) 15

pub place_below : (six : ℕ) → six < 64 → row_and_column six < 64
place_below six h =
    let e : row_and_column six ≡ row_and_column six % 64 = agree_below row_and_column (λ x. row_and_column x % 64) 64 refl six h in
    omega arith

pub box_output_is : (box : List ℕ) (six : ℕ) → six < 64 → bit_and (slice_index box (row_and_column six)) 15 ≡ number (box_output box (bits 6 six))
unfolding box_output picked number bits
box_output_is box six h =
    let place : row_and_column six ≡ 16 * number (picked (1 ∷ 6 ∷ []) (bits 6 six)) + number (picked (2 ∷ 3 ∷ 4 ∷ 5 ∷ []) (bits 6 six)) =
    agree_below row_and_column (λ x. 16 * number (picked (1 ∷ 6 ∷ []) (bits 6 x)) + number (picked (2 ∷ 3 ∷ 4 ∷ 5 ∷ []) (bits 6 x))) 64 refl six h in
    and_mask (slice_index box (row_and_column six)) 4 ∙ sym (number-bits 4 (slice_index box (row_and_column six)))
    ∙ ap (λ p. number (bits 4 (slice_index box p))) place

-- what the loop over the S boxes has done and has left to do
pub record Substitutes (boxes : List (List ℕ)) (word i out : ℕ) : Type 0 where
  pub fits : out < 2 ^ (4 * i)
  pub joined : bits (4 * i) out ++ substituted (drop i boxes) (drop (6 * i) (bits 48 word)) ≡ substituted boxes (bits 48 word)

pub Substitutes_none : (boxes : List (List ℕ)) (word : ℕ) → Substitutes boxes word 0 0
unfolding bits
Substitutes_none boxes word = record { fits = omega arith; joined = refl }

pub Substitutes_more : (boxes : List (List ℕ)) (word i out o : ℕ) (box : List ℕ) → Substitutes boxes word i out → i < 8 → length boxes ≡ 8
    → box ≡ get_or boxes i []
    → o ≡ number (box_output box (bits 6 (bit_and (word / 2 ^ (42 - 6 * i)) 63)))
    → Substitutes boxes word (i + 1) (bit_or (out * 16 % 2 ^ 64) o)
unfolding substituted
Substitutes_more boxes word i out o box done h len eb eo =
    let place : ℕ = 42 - 6 * i in
    let six : ℕ = bit_and (word / 2 ^ place) 63 in
    let boxed : List Bool = box_output box (bits 6 six) in
    let o_fits : o < 2 ^ 4 = omega (arith, rw (length-box_output box (bits 6 six)) at (number-lt boxed)) in
    let small : out < 2 ^ 28 = omega (arith, done.fits, pow_mono {i = 4 * i} {j = 28} (omega arith)) in
    let next : bit_or (out * 16 % 2 ^ 64) o ≡ out * 2 ^ 4 + o = ap (λ k. bit_or k o) (omega arith) ∙ or_shifted out 4 o o_fits in
    let width : 4 * (i + 1) ≡ 4 * i + 4 = omega arith in
    let same : bits 4 o ≡ boxed = ap (bits 4) eo ∙ bits-number 4 boxed (length-box_output box (bits 6 six)) in
    let masked : bits 6 six ≡ bits 6 (word / 2 ^ place) =
    ap (bits 6) (and_mask (word / 2 ^ place) 6) ∙ bits_mod 6 (word / 2 ^ place) in
    let ahead : take 6 (drop (6 * i) (bits 48 word)) ≡ bits 6 (word / 2 ^ place) =
    ap (λ k. take 6 (drop (6 * i) (bits k word))) (omega arith) ∙ ap (take 6) (drop-bits (6 * i) (6 + place) word) ∙ take-bits 6 place word in
    let after : drop 6 (drop (6 * i) (bits 48 word)) ≡ drop (6 * (i + 1)) (bits 48 word) =
    drop-drop 6 (6 * i) (bits 48 word) ∙ ap (λ k. drop k (bits 48 word)) (omega arith) in
    let head : drop i boxes ≡ box ∷ drop (i + 1) boxes = drop_more boxes i [] (omega arith) ∙ ap (λ b. b ∷ drop (i + 1) boxes) (sym eb) in
    let step : substituted (drop i boxes) (drop (6 * i) (bits 48 word)) ≡ boxed ++ substituted (drop (i + 1) boxes) (drop (6 * (i + 1)) (bits 48 word)) =
    rw (head, ahead, after, masked) refl in
    let power : 2 ^ (4 * i + 4) ≡ 2 ^ (4 * i) * 2 ^ 4 = pow-add 2 (4 * i) 4 in
    record {
      fits = rw (next, width, power) (omega (arith, done.fits, o_fits));
      joined = rw (next, width, bits-append (4 * i) 4 out o o_fits, same)
          (append_assoc (bits (4 * i) out) boxed _ ∙ ap (λ r. bits (4 * i) out ++ r) (sym step) ∙ done.joined);
    }

pub Substitutes_all : (boxes : List (List ℕ)) (word out : ℕ) → Substitutes boxes word 8 out → length boxes ≡ 8
    → out ≡ number (substituted boxes (bits 48 word))
unfolding substituted
Substitutes_all boxes word out done len =
    let end : bits 32 out ≡ substituted boxes (bits 48 word) =
    sym (append-nil (bits 32 out)) ∙ ap (λ b. bits 32 out ++ substituted b (drop 48 (bits 48 word))) (sym (drop_all 8 boxes (omega arith))) ∙ done.joined in
    let whole : out % 2 ^ 32 ≡ out = omega (arith, done.fits) in
    sym whole ∙ sym (number-bits 32 out) ∙ ap number end

length-expansion : length expansion ≡ 48
unfolding expansion
length-expansion = refl

-- the word of a half and a round key
pub mixed_bits : (right key : ℕ) (e : List ℕ) → length e ≡ 48
    → bits 48 (bit_xor (number (picked e (bits 32 right))) key) ≡ xor_bits (picked e (bits 32 right)) (bits 48 key)
mixed_bits right key e len =
    bits-xor 48 (number (picked e (bits 32 right))) key
    ∙ ap (λ b. xor_bits b (bits 48 key)) (bits-number 48 (picked e (bits 32 right)) (length-picked e (bits 32 right) ∙ len))

-- the halves as words
pub halves_of : ℕ → ℕ → Halves
halves_of left right = record { left = bits 32 left; right = bits 32 right }

pub record Ciphers (keys : List ℕ) (left right i l r : ℕ) : Type 0 where
  pub left_fits : l < 2 ^ 32
  pub right_fits : r < 2 ^ 32
  pub joined : fold round (halves_of l r) (map (bits 48) (drop i keys)) ≡ fold round (halves_of left right) (map (bits 48) keys)

pub Ciphers_more : (keys : List ℕ) (left right i l r f key : ℕ) → Ciphers keys left right i l r → i < length keys → key ≡ slice_index keys i
    → f ≡ number (cipher_function (bits 32 r) (bits 48 key)) → Ciphers keys left right (i + 1) r (bit_xor l f)
unfolding halves_of round cipher_function
Ciphers_more keys left right i l r f key done h ek ef =
    let out : List Bool = cipher_function (bits 32 r) (bits 48 key) in
    let len : length out ≡ 32 = length-cipher_function (bits 32 r) (bits 48 key) in
    let f_fits : f < 2 ^ 32 = omega (arith, rw len at (number-lt out)) in
    let mixed : bits 32 (bit_xor l f) ≡ xor_bits (bits 32 l) out =
    bits-xor 32 l f ∙ ap (xor_bits (bits 32 l)) (ap (bits 32) ef ∙ bits-number 32 out len) in
    let head : drop i keys ≡ key ∷ drop (i + 1) keys = drop_more keys i 0 (omega arith) ∙ ap (λ k. k ∷ drop (i + 1) keys) (sym ek) in
    let before : fold round (halves_of l r) (map (bits 48) (drop i keys)) ≡ fold round (halves_of r (bit_xor l f)) (map (bits 48) (drop (i + 1) keys)) =
    rw (head, mixed) refl in
    record { left_fits = done.right_fits; right_fits = xor_lt 32 l f done.left_fits f_fits; joined = sym before ∙ done.joined }

-- f(R, K) from the three steps of the plain body
pub cipher_function_is : (right key expanded boxed out : ℕ) → expanded ≡ number (picked expansion (bits 32 right))
    → boxed ≡ number (substituted s_boxes (bits 48 (bit_xor expanded key))) → out ≡ number (picked box_permutation (bits 32 boxed))
    → out ≡ number (cipher_function (bits 32 right) (bits 48 key))
unfolding cipher_function
cipher_function_is right key expanded boxed out e1 e2 e3 =
    let inner : List Bool = substituted s_boxes (xor_bits (picked expansion (bits 32 right)) (bits 48 key)) in
    let mixed : bits 48 (bit_xor expanded key) ≡ xor_bits (picked expansion (bits 32 right)) (bits 48 key) =
    ap (λ e. bits 48 (bit_xor e key)) e1 ∙ mixed_bits right key expansion length-expansion in
    let boxes : bits 32 boxed ≡ inner =
    ap (bits 32) (e2 ∙ ap (λ b. number (substituted s_boxes b)) mixed) ∙ bits-number 32 inner (length-substituted _) in
    e3 ∙ ap (λ b. number (picked box_permutation b)) boxes

-- the halves of the block after IP
pub start_of : (mixed : ℕ) (table : List ℕ) (bs : List Bool) → length table ≡ 64 → mixed ≡ number (picked table bs)
    → halves_of (mixed / 2 ^ 32) (bit_and mixed 4294967295) ≡ halves (picked table bs)
unfolding halves_of halves
start_of mixed table bs len e =
    let out : List Bool = picked table bs in
    let whole : bits 64 mixed ≡ out = ap (bits 64) e ∙ bits-number 64 out (length-picked table bs ∙ len) in
    let left : bits 32 (mixed / 2 ^ 32) ≡ take 32 out = sym (take-bits 32 32 mixed) ∙ ap (take 32) whole in
    let right : bits 32 (bit_and mixed 4294967295) ≡ drop 32 out =
    ap (bits 32) (and_mask mixed 32) ∙ bits_mod 32 mixed ∙ sym (drop-bits 32 32 mixed) ∙ ap (drop 32) whole in
    rw (left, right) refl

-- the halves joined the other way round
pub joined_of : (l r : ℕ) → l < 2 ^ 32 → r < 2 ^ 32 → bits 64 (bit_or (r * 2 ^ 32 % 2 ^ 64) l) ≡ (halves_of l r).right ++ (halves_of l r).left
unfolding halves_of
joined_of l r hl hr =
    let whole : r * 2 ^ 32 % 2 ^ 64 ≡ r * 2 ^ 32 = omega arith in
    ap (λ k. bits 64 (bit_or k l)) whole ∙ ap (bits 64) (or_shifted r 32 l hl) ∙ bits-append 32 32 r l hl

pub Ciphers_all : (keys : List ℕ) (block mixed l r out i : ℕ) → length keys ≡ 16 → i ≡ 16 → mixed ≡ number (picked initial_permutation (bits 64 block))
    → Ciphers keys (mixed / 2 ^ 32) (bit_and mixed 4294967295) i l r
    → out ≡ number (picked inverse_permutation (bits 64 (bit_or (r * 2 ^ 32 % 2 ^ 64) l)))
    → out ≡ number (ciphered (map (bits 48) keys) (bits 64 block))
unfolding ciphered halves initial_permutation
Ciphers_all keys block mixed l r out i len ei em done eo =
    let start = start_of mixed initial_permutation (bits 64 block) refl em in
    let none : drop i keys ≡ [] = drop_all i keys (omega arith) in
    let end : halves_of l r ≡ fold round (halves (picked initial_permutation (bits 64 block))) (map (bits 48) keys) =
    ap (λ ks. fold round (halves_of l r) (map (bits 48) ks)) (sym none) ∙ done.joined ∙ ap (λ h. fold round h (map (bits 48) keys)) start in
    eo ∙ ap (λ b. number (picked inverse_permutation b)) (joined_of l r done.left_fits done.right_fits)
    ∙ ap (λ (h : Halves). number (picked inverse_permutation (h.right ++ h.left))) end

-- the loop over the rotations: the keys so far, and the keys that C and D still give
pub record MakesKeys (key i left right : ℕ) (keys : List ℕ) : Type 0 where
  pub len : length keys ≡ 16
  pub joined : map (bits 48) (take i keys) ++ keys_from (bits 28 left) (bits 28 right) (drop i rotations) ≡ round_keys (bits 64 key)

pub MakesKeys_none : (key left right : ℕ) (keys : List ℕ) → length keys ≡ 16 → left ≡ number (picked key_choice_left (bits 64 key))
    → right ≡ number (picked key_choice_right (bits 64 key)) → MakesKeys key 0 left right keys
unfolding round_keys key_choice_left key_choice_right
MakesKeys_none key left right keys len el er =
    let l : bits 28 left ≡ picked key_choice_left (bits 64 key) = ap (bits 28) el ∙ bits-number 28 _ (length-picked key_choice_left (bits 64 key)) in
    let r : bits 28 right ≡ picked key_choice_right (bits 64 key) = ap (bits 28) er ∙ bits-number 28 _ (length-picked key_choice_right (bits 64 key)) in
    record { len = len; joined = ap₂ (λ c d. keys_from c d rotations) l r }

pub length-rotations : length rotations ≡ 16
unfolding rotations
length-rotations = refl

pub length-round_key_choice : length round_key_choice ≡ 48
unfolding round_key_choice
length-round_key_choice = refl

pub MakesKeys_more : (key i left right : ℕ) (keys : List ℕ) (n l r k : ℕ) → MakesKeys key i left right keys → i < 16
    → n ≡ slice_index rotations i → l ≡ number (turned n (bits 28 left)) → r ≡ number (turned n (bits 28 right))
    → k ≡ number (picked round_key_choice (bits 56 (bit_or (l * 2 ^ 28 % 2 ^ 64) r)))
    → MakesKeys key (i + 1) l r (set keys i k)
unfolding keys_from
MakesKeys_more key i left right keys n l r k done h en el er ek =
    let c : List Bool = turned n (bits 28 left) in
    let d : List Bool = turned n (bits 28 right) in
    let len_c : length c ≡ 28 = length-turned n (bits 28 left) ∙ length-bits 28 left in
    let len_d : length d ≡ 28 = length-turned n (bits 28 right) ∙ length-bits 28 right in
    let is_c : bits 28 l ≡ c = ap (bits 28) el ∙ bits-number 28 c len_c in
    let is_d : bits 28 r ≡ d = ap (bits 28) er ∙ bits-number 28 d len_d in
    let l_fits : l < 2 ^ 28 = omega (arith, el, rw len_c at (number-lt c)) in
    let r_fits : r < 2 ^ 28 = omega (arith, er, rw len_d at (number-lt d)) in
    let whole : l * 2 ^ 28 % 2 ^ 64 ≡ l * 2 ^ 28 = omega arith in
    let both : bits 56 (bit_or (l * 2 ^ 28 % 2 ^ 64) r) ≡ c ++ d =
    ap (λ x. bits 56 (bit_or x r)) whole ∙ ap (bits 56) (or_shifted l 28 r r_fits) ∙ bits-append 28 28 l r r_fits ∙ ap₂ (λ x y. x ++ y) is_c is_d in
    let round_key : bits 48 k ≡ picked round_key_choice (c ++ d) =
    ap (bits 48) (ek ∙ ap (λ b. number (picked round_key_choice b)) both)
    ∙ bits-number 48 _ (length-picked round_key_choice (c ++ d) ∙ length-round_key_choice) in
    let len : length keys ≡ 16 = done.len in
    let front : map (bits 48) (take (i + 1) (set keys i k)) ≡ map (bits 48) (take i keys) ++ bits 48 k ∷ [] =
    ap (map (bits 48)) (take_more_set keys i k (omega arith)) ∙ map-append (bits 48) (take i keys) (k ∷ []) in
    let head : drop i rotations ≡ n ∷ drop (i + 1) rotations =
    drop_more rotations i 0 (omega (arith, length-rotations)) ∙ ap (λ x. x ∷ drop (i + 1) rotations) (sym en) in
    let rest : keys_from (bits 28 left) (bits 28 right) (drop i rotations) ≡ bits 48 k ∷ keys_from (bits 28 l) (bits 28 r) (drop (i + 1) rotations) =
    rw (head, round_key, is_c, is_d) refl in
    record {
      len = length-set keys i k ∙ len;
      joined = rw front (append_assoc (map (bits 48) (take i keys)) (bits 48 k ∷ []) _ ∙ ap (λ x. map (bits 48) (take i keys) ++ x) (sym rest) ∙ done.joined);
    }

pub MakesKeys_all : (key left right : ℕ) (keys : List ℕ) → MakesKeys key 16 left right keys → map (bits 48) keys ≡ round_keys (bits 64 key)
unfolding keys_from
MakesKeys_all key left right keys done =
    let len : length keys ≡ 16 = done.len in
    let none : drop 16 rotations ≡ [] = drop_all 16 rotations (omega (arith, length-rotations)) in
    let all : take 16 keys ≡ keys = take_all 16 keys (omega arith) in
    sym (append-nil (map (bits 48) keys)) ∙ ap₂ (λ x y. map (bits 48) x ++ keys_from (bits 28 left) (bits 28 right) y) (sym all) (sym none) ∙ done.joined
