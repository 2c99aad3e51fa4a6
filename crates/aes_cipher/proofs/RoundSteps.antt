-- Table lookups are the substitution of bytes, also if the columns are mixed.
use Rattle.std.proofs.Common.{◌≡◌, ℕ, zero, suc, ◌+◌, ◌/◌, ◌%◌, ◌^◌, ◌<◌, ◌≤◌, List, [], ◌∷◌, ◌++◌, length, map, take}
use Rattle.std.proofs.Common.{drop, get_or, slice_index, bit_xor}
use Rattle.std.proofs.Common.{◌-◌, ◌==◌, if◌then◌else◌, fold, refl, sym, ap, ap₂, ◌∙◌, arith, drop-drop, take-add}
use Rattle.std.specs.List.{range_with_len}
use Rattle.std.specs.Int.{w32, from_be_bytes}
use Rattle.std.specs.Int.Bits.{xor_assoc, xor_zero_l, xor_zero_r}
use Rattle.std.proofs.lemmas.Nat.{xor_comm, xor_shr, xor_mod, be_bytes_4}
use Rattle.std.proofs.lemmas.List.{get_or-map, length-map, drop_more}
use Rattle.std.proofs.lemmas.List.FromFn.{get_or-map-range_with_len}
use Rattle.aes_cipher.specs.Field.{product, substituted}
use Rattle.aes_cipher.specs.Cipher.{xor_bytes, sub_bytes, factor, mix_column, mix_columns, shift_rows, state_of}
use Rattle.aes_cipher.specs.Cipher.{entry, round, last_round, ciphered}
use Rattle.aes_cipher.specs.Columns.{word_bytes, diagonal, state_bytes}
use Rattle.aes_cipher.specs.declared.rounds.Columns.{Columns}

-- what a byte in row k gives to its column
unfoldable pub column_of : ℕ → ℕ → List ℕ
column_of k s = map (λ r. product (factor r k) s) (0 ∷ 1 ∷ 2 ∷ 3 ∷ [])

-- the words of two columns
pub xor-word_bytes : (a b : ℕ) → word_bytes (bit_xor a b) ≡ xor_bytes (word_bytes a) (word_bytes b)
unfolding word_bytes xor_bytes
xor-word_bytes a b =
    let byte : (k : ℕ) → bit_xor a b / 2 ^ k % 2 ^ 8 ≡ bit_xor (a / 2 ^ k % 2 ^ 8) (b / 2 ^ k % 2 ^ 8) =
    λ k. ap (λ x. x % 2 ^ 8) (xor_shr a b k) ∙ xor_mod (a / 2 ^ k) (b / 2 ^ k) 8 in
    ap₂ (λ x r. x ∷ r) (byte 24) (ap₂ (λ x r. x ∷ r) (byte 16)
    (ap₂ (λ x r. x ∷ r) (byte 8) (ap (λ x. x ∷ []) (xor_mod a b 8))))

-- an entry of the box
pub box_at : (box : List ℕ) (x y : ℕ) → box ≡ map substituted (range_with_len 0 256) → x ≡ y → y < 256
    → slice_index box x ≡ substituted y
box_at box x y e same below =
    ap₂ (λ u i. slice_index u i) e same ∙ get_or-map-range_with_len substituted 0 256 y y 0 below (omega arith)

-- an entry of a merged table
pub column_at : (table box : List ℕ) (column : ℕ → List ℕ) (x y : ℕ) → box ≡ map substituted (range_with_len 0 256)
    → map word_bytes table ≡ map column box → x ≡ y → y < 256
    → word_bytes (slice_index table x) ≡ column (substituted y)
column_at table box column x y eb e same below =
    let box_len : length box ≡ 256 = ap length eb ∙ length-map (range_with_len 0 256) substituted in
    let len : length table ≡ 256 = sym (length-map table word_bytes) ∙ ap length e ∙ length-map box column ∙ box_len in
    ap (λ i. word_bytes (slice_index table i)) same ∙ sym (get_or-map word_bytes table y 0 [] (omega arith))
    ∙ ap (λ u. get_or u y []) e ∙ get_or-map column box y 0 [] (omega arith) ∙ ap column (box_at box y y eb refl below)

-- four words that are joined by xor from the last on
word_of_four : (a b c d : ℕ) → word_bytes (bit_xor (bit_xor (bit_xor d c) b) a)
    ≡ xor_bytes (xor_bytes (xor_bytes (word_bytes a) (word_bytes b)) (word_bytes c)) (word_bytes d)
word_of_four a b c d =
    let swapped : bit_xor (bit_xor (bit_xor d c) b) a ≡ bit_xor (bit_xor (bit_xor a b) c) d =
    xor_comm (bit_xor (bit_xor d c) b) a ∙ ap (bit_xor a) (xor_comm (bit_xor d c) b ∙ ap (bit_xor b) (xor_comm d c))
    ∙ sym (xor_assoc (bit_xor a b) c d ∙ xor_assoc a b (bit_xor c d)) in
    ap word_bytes swapped ∙ xor-word_bytes (bit_xor (bit_xor a b) c) d
    ∙ ap (λ bytes. xor_bytes bytes (word_bytes d)) (xor-word_bytes (bit_xor a b) c
    ∙ ap (λ bytes. xor_bytes bytes (word_bytes c)) (xor-word_bytes a b))

-- four bytes of a column that are joined by xor
pub mixed_is : (t0 t1 t2 t3 x0 x1 x2 x3 : ℕ) → word_bytes t0 ≡ column_of 0 (substituted x0)
    → word_bytes t1 ≡ column_of 1 (substituted x1)
    → word_bytes t2 ≡ column_of 2 (substituted x2) → word_bytes t3 ≡ column_of 3 (substituted x3)
    → word_bytes (bit_xor (bit_xor (bit_xor t3 t2) t1) t0) ≡ mix_column (sub_bytes (x0 ∷ x1 ∷ x2 ∷ x3 ∷ []))
unfolding column_of mix_column factor sub_bytes xor_bytes
mixed_is t0 t1 t2 t3 x0 x1 x2 x3 e0 e1 e2 e3 =
    word_of_four t0 t1 t2 t3 ∙ ap₂ xor_bytes (ap₂ xor_bytes (ap₂ xor_bytes e0 e1) e2) e3

pub four_small : (s0 s1 s2 s3 : ℕ) → s0 < 256 → s1 < 256 → s2 < 256 → s3 < 256 → (i : ℕ)
    → get_or (s0 ∷ s1 ∷ s2 ∷ s3 ∷ []) i 0 < 256
four_small s0 s1 s2 s3 h0 h1 h2 h3 zero = h0
four_small s0 s1 s2 s3 h0 h1 h2 h3 (suc zero) = h1
four_small s0 s1 s2 s3 h0 h1 h2 h3 (suc (suc zero)) = h2
four_small s0 s1 s2 s3 h0 h1 h2 h3 (suc (suc (suc zero))) = h3
four_small s0 s1 s2 s3 h0 h1 h2 h3 (suc (suc (suc (suc i)))) = omega arith

-- four entries of the box as a word
pub substituted_is : (s0 s1 s2 s3 x0 x1 x2 x3 w : ℕ) → s0 < 256 → s1 < 256 → s2 < 256 → s3 < 256
    → s0 ≡ substituted x0 → s1 ≡ substituted x1 → s2 ≡ substituted x2 → s3 ≡ substituted x3
    → w ≡ from_be_bytes w32 (s0 ∷ s1 ∷ s2 ∷ s3 ∷ []) → word_bytes w ≡ sub_bytes (x0 ∷ x1 ∷ x2 ∷ x3 ∷ [])
unfolding word_bytes sub_bytes
substituted_is s0 s1 s2 s3 x0 x1 x2 x3 w h0 h1 h2 h3 e0 e1 e2 e3 e =
    let small : (i : ℕ) → get_or (s0 ∷ s1 ∷ s2 ∷ s3 ∷ []) i 0 < 256 = four_small s0 s1 s2 s3 h0 h1 h2 h3 in
    be_bytes_4 (s0 ∷ s1 ∷ s2 ∷ s3 ∷ []) w refl small e
    ∙ ap₂ (λ x r. x ∷ r) e0 (ap₂ (λ x r. x ∷ r) e1 (ap₂ (λ x r. x ∷ r) e2 (ap (λ x. x ∷ []) e3)))

-- a byte in row k of a column, and zeros in its other rows
unfoldable pub placed_at : ℕ → ℕ → List ℕ
placed_at k s = map (λ r. if r == k then s else 0) (0 ∷ 1 ∷ 2 ∷ 3 ∷ [])

four_alone : (a b c d : ℕ) → xor_bytes (xor_bytes (xor_bytes (placed_at 0 a) (placed_at 1 b)) (placed_at 2 c))
    (placed_at 3 d)
    ≡ a ∷ b ∷ c ∷ d ∷ []
unfolding placed_at xor_bytes
four_alone a b c d =
    let zero_before : (x : ℕ) → bit_xor 0 x ≡ x = xor_zero_l in
    let zero_after : (x : ℕ) → bit_xor x 0 ≡ x = xor_zero_r in
    ap₂ (λ x r. x ∷ r) (zero_after _ ∙ zero_after _ ∙ zero_after a)
    (ap₂ (λ x r. x ∷ r) (zero_after _ ∙ zero_after _ ∙ zero_before b)
    (ap₂ (λ x r. x ∷ r) (zero_after _ ∙ zero_before c)
    (ap (λ x. x ∷ []) (zero_before d))))

-- four bytes in a row each are joined by xor
pub placed_is : (t0 t1 t2 t3 x0 x1 x2 x3 : ℕ) → word_bytes t0 ≡ placed_at 0 (substituted x0)
    → word_bytes t1 ≡ placed_at 1 (substituted x1) → word_bytes t2 ≡ placed_at 2 (substituted x2)
    → word_bytes t3 ≡ placed_at 3 (substituted x3)
    → word_bytes (bit_xor (bit_xor (bit_xor t3 t2) t1) t0) ≡ sub_bytes (x0 ∷ x1 ∷ x2 ∷ x3 ∷ [])
unfolding placed_at sub_bytes xor_bytes
placed_is t0 t1 t2 t3 x0 x1 x2 x3 e0 e1 e2 e3 =
    word_of_four t0 t1 t2 t3 ∙ ap₂ xor_bytes (ap₂ xor_bytes (ap₂ xor_bytes e0 e1) e2) e3
    ∙ four_alone (substituted x0) (substituted x1) (substituted x2) (substituted x3)

-- ---- states

-- the word of four bytes of a text
pub word_at_is : (text : List ℕ) (at w : ℕ) → at + 4 ≤ length text → ((i : ℕ) → get_or text i 0 < 256)
    → w ≡ from_be_bytes w32 (slice_index text at ∷ slice_index text (at + 1) ∷ slice_index text (at + 2)
    ∷ slice_index text (at + 3) ∷ [])
    → word_bytes w ≡ take 4 (drop at text)
unfolding word_bytes
word_at_is text at w h small e =
    let next : (k m : ℕ) → k < 4 → at + k + 1 ≡ m → drop (at + k) text ≡ slice_index text (at + k) ∷ drop m text =
    λ k m l e. drop_more text (at + k) 0 (omega arith) ∙ ap (λ n. slice_index text (at + k) ∷ drop n text) e in
    let start : drop at text ≡ slice_index text at ∷ drop (at + 1) text = drop_more text at 0 (omega arith) in
    be_bytes_4 (slice_index text at ∷ slice_index text (at + 1) ∷ slice_index text (at + 2) ∷ slice_index text (at + 3)
    ∷ []) w refl
    (four_small (slice_index text at) (slice_index text (at + 1)) (slice_index text (at + 2))
    (slice_index text (at + 3))
    (small at) (small (at + 1)) (small (at + 2)) (small (at + 3))) e
    ∙ sym (ap (take 4) (start ∙ ap (λ r. slice_index text at ∷ r) (
    next 1 (at + 2) (omega arith) (omega arith) ∙ ap (λ r. slice_index text (at + 1) ∷ r) (
    next 2 (at + 3) (omega arith) (omega arith) ∙ ap (λ r. slice_index text (at + 2) ∷ r) (
    next 3 (at + 4) (omega arith) (omega arith))))))

-- four words one after another are the block
pub state_at_is : (text : List ℕ) (at : ℕ) (s : Columns) → at + 16 ≤ length text
    → word_bytes s.first ≡ take 4 (drop at text)
    → word_bytes s.second ≡ take 4 (drop (at + 4) text) → word_bytes s.third ≡ take 4 (drop (at + 8) text)
    → word_bytes s.fourth ≡ take 4 (drop (at + 12) text) → state_bytes s ≡ take 16 (drop at text)
unfolding state_bytes
state_at_is text at s h e1 e2 e3 e4 =
    let part : (m k j : ℕ) → k + 4 ≡ j → take (4 + m) (drop k text) ≡ take 4 (drop k text) ++ take m (drop j text) =
    λ m k j e. take-add 4 m (drop k text)
    ∙ ap (λ r. take 4 (drop k text) ++ take m r) (drop-drop 4 k text ∙ ap (λ i. drop i text) e) in
    ap₂ (λ a b. a ++ b) e1 (ap₂ (λ a b. a ++ b) e2 (ap₂ (λ a b. a ++ b) e3 e4))
    ∙ sym (part 12 at (at + 4) (omega arith)
    ∙ ap (λ r. take 4 (drop at text) ++ r) (part 8 (at + 4) (at + 8) (omega arith)
    ∙ ap (λ r. take 4 (drop (at + 4) text) ++ r) (part 4 (at + 8) (at + 12) (omega arith))))

pub bytes_are : (r1 r2 r3 r4 : List ℕ) (s : Columns) → r1 ≡ word_bytes s.first → r2 ≡ word_bytes s.second
    → r3 ≡ word_bytes s.third
    → r4 ≡ word_bytes s.fourth
    → slice_index r1 0 ∷ slice_index r1 1 ∷ slice_index r1 2 ∷ slice_index r1 3 ∷ slice_index r2 0 ∷ slice_index r2 1
    ∷ slice_index r2 2 ∷ slice_index r2 3
    ∷ slice_index r3 0 ∷ slice_index r3 1 ∷ slice_index r3 2 ∷ slice_index r3 3 ∷ slice_index r4 0 ∷ slice_index r4 1
    ∷ slice_index r4 2 ∷ slice_index r4 3 ∷ []
    ≡ state_bytes s
unfolding word_bytes state_bytes
bytes_are r1 r2 r3 r4 s e1 e2 e3 e4 =
    let four : List ℕ → List ℕ → List ℕ =
    λ r t. slice_index r 0 ∷ slice_index r 1 ∷ slice_index r 2 ∷ slice_index r 3 ∷ t in
    ap₂ four e1 (ap₂ four e2 (ap₂ four e3 (ap (λ r. four r []) e4)))

-- the xor of two states
pub xor_state : (m1 m2 m3 m4 : ℕ) (k : Columns)
    → state_bytes (record {
      first = bit_xor m1 k.first;
      second = bit_xor m2 k.second;
      third = bit_xor m3 k.third;
      fourth = bit_xor m4 k.fourth;
    })
    ≡ xor_bytes (word_bytes m1 ++ (word_bytes m2 ++ (word_bytes m3 ++ word_bytes m4))) (state_bytes k)
unfolding state_bytes word_bytes xor_bytes
xor_state m1 m2 m3 m4 k =
    ap₂ (λ a b. a ++ b) (xor-word_bytes m1 k.first) (ap₂ (λ a b. a ++ b) (xor-word_bytes m2 k.second)
    (ap₂ (λ a b. a ++ b) (xor-word_bytes m3 k.third) (xor-word_bytes m4 k.fourth)))

-- a round key, to which a state is joined
keyed_state : (m1 m2 m3 m4 : ℕ) (k : Columns)
    → state_bytes (record {
      first = bit_xor k.first m1;
      second = bit_xor k.second m2;
      third = bit_xor k.third m3;
      fourth = bit_xor k.fourth m4;
    })
    ≡ xor_bytes (word_bytes m1 ++ (word_bytes m2 ++ (word_bytes m3 ++ word_bytes m4))) (state_bytes k)
unfolding state_bytes word_bytes xor_bytes
keyed_state m1 m2 m3 m4 k =
    let keyed : (key m : ℕ) → word_bytes (bit_xor key m) ≡ xor_bytes (word_bytes m) (word_bytes key) =
    λ key m. ap word_bytes (xor_comm key m) ∙ xor-word_bytes m key in
    ap₂ (λ a b. a ++ b) (keyed k.first m1) (ap₂ (λ a b. a ++ b) (keyed k.second m2)
    (ap₂ (λ a b. a ++ b) (keyed k.third m3) (keyed k.fourth m4)))

-- ---- rounds

round_of : (s : Columns) (key : List ℕ) → round (state_bytes s) key ≡ xor_bytes (
    mix_column (sub_bytes (diagonal s.first s.second s.third s.fourth))
    ++ (mix_column (sub_bytes (diagonal s.second s.third s.fourth s.first))
    ++ (mix_column (sub_bytes (diagonal s.third s.fourth s.first s.second))
    ++ mix_column (sub_bytes (diagonal s.fourth s.first s.second s.third))))) key
unfolding round mix_columns mix_column shift_rows sub_bytes state_of entry diagonal word_bytes state_bytes
round_of s key = refl

last_round_of : (s : Columns) (key : List ℕ) → last_round (state_bytes s) key ≡ xor_bytes (
    sub_bytes (diagonal s.first s.second s.third s.fourth) ++ (sub_bytes (diagonal s.second s.third s.fourth s.first)
    ++ (sub_bytes (diagonal s.third s.fourth s.first s.second)
    ++ sub_bytes (diagonal s.fourth s.first s.second s.third)))) key
unfolding last_round shift_rows sub_bytes state_of entry diagonal word_bytes state_bytes
last_round_of s key = refl

pub round_is : (s k : Columns) (m1 m2 m3 m4 : ℕ)
    → word_bytes m1 ≡ mix_column (sub_bytes (diagonal s.first s.second s.third s.fourth))
    → word_bytes m2 ≡ mix_column (sub_bytes (diagonal s.second s.third s.fourth s.first))
    → word_bytes m3 ≡ mix_column (sub_bytes (diagonal s.third s.fourth s.first s.second))
    → word_bytes m4 ≡ mix_column (sub_bytes (diagonal s.fourth s.first s.second s.third))
    → state_bytes (record {
      first = bit_xor k.first m1;
      second = bit_xor k.second m2;
      third = bit_xor k.third m3;
      fourth = bit_xor k.fourth m4;
    })
    ≡ round (state_bytes s) (state_bytes k)
round_is s k m1 m2 m3 m4 e1 e2 e3 e4 =
    keyed_state m1 m2 m3 m4 k
    ∙ ap (λ bytes. xor_bytes bytes (state_bytes k))
    (ap₂ (λ a b. a ++ b) e1 (ap₂ (λ a b. a ++ b) e2 (ap₂ (λ a b. a ++ b) e3 e4)))
    ∙ sym (round_of s (state_bytes k))

pub last_round_is : (s k : Columns) (m1 m2 m3 m4 : ℕ)
    → word_bytes m1 ≡ sub_bytes (diagonal s.first s.second s.third s.fourth)
    → word_bytes m2 ≡ sub_bytes (diagonal s.second s.third s.fourth s.first)
    → word_bytes m3 ≡ sub_bytes (diagonal s.third s.fourth s.first s.second)
    → word_bytes m4 ≡ sub_bytes (diagonal s.fourth s.first s.second s.third)
    → state_bytes (record {
      first = bit_xor k.first m1;
      second = bit_xor k.second m2;
      third = bit_xor k.third m3;
      fourth = bit_xor k.fourth m4;
    })
    ≡ last_round (state_bytes s) (state_bytes k)
last_round_is s k m1 m2 m3 m4 e1 e2 e3 e4 =
    keyed_state m1 m2 m3 m4 k
    ∙ ap (λ bytes. xor_bytes bytes (state_bytes k))
    (ap₂ (λ a b. a ++ b) e1 (ap₂ (λ a b. a ++ b) e2 (ap₂ (λ a b. a ++ b) e3 e4)))
    ∙ sym (last_round_of s (state_bytes k))

-- the rounds so far and those that are left
pub record Runs (keys : List (List ℕ)) (start : List ℕ) (i : ℕ) (state : List ℕ) : Type 0 where
  pub joined : fold round state (take (10 - i) (drop i keys)) ≡ fold round start (take 9 (drop 1 keys))

pub Runs_none : (keys : List (List ℕ)) (start : List ℕ) → Runs keys start 1 start
Runs_none keys start = record { joined = refl }

pub Runs_more : (keys : List (List ℕ)) (start : List ℕ) (i : ℕ) (state next key : List ℕ) → Runs keys start i state
    → i < 10 → i < length keys
    → key ≡ get_or keys i [] → next ≡ round state key → Runs keys start (i + 1) next
Runs_more keys start i state next key done h in_keys ek e =
    let count : 10 - i ≡ suc (10 - (i + 1)) = omega arith in
    let ahead : take (10 - i) (drop i keys) ≡ key ∷ take (10 - (i + 1)) (drop (i + 1) keys) =
    ap₂ take count (drop_more keys i [] in_keys) ∙ ap (λ k. k ∷ take (10 - (i + 1)) (drop (i + 1) keys)) (sym ek) in
    record {
      joined = ap (λ s. fold round s (take (10 - (i + 1)) (drop (i + 1) keys))) e
          ∙ sym (ap (fold round state) ahead) ∙ done.joined;
    }

pub Runs_all : (keys : List (List ℕ)) (block start : List ℕ) (i : ℕ) (state first last end : List ℕ)
    → Runs keys start i state → i ≡ 10
    → first ≡ get_or keys 0 [] → last ≡ get_or keys 10 [] → start ≡ xor_bytes block first → end ≡ last_round state last
    → end ≡ ciphered keys block
unfolding ciphered
Runs_all keys block start i state first last end done h ef el es e =
    let ended : 10 - i ≡ 0 = omega arith in
    let none : take (10 - i) (drop i keys) ≡ [] = ap (λ n. take n (drop i keys)) ended in
    let state_is : state ≡ fold round start (take 9 (drop 1 keys)) = sym (ap (fold round state) none) ∙ done.joined in
    let start_is : start ≡ xor_bytes block (get_or keys 0 []) = es ∙ ap (xor_bytes block) ef in
    e ∙ ap₂ last_round (state_is ∙ ap (λ s. fold round s (take 9 (drop 1 keys))) start_is) el
