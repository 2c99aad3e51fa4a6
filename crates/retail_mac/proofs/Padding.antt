-- Where the padding of a text begins, and the loop over the deciphered blocks.
use Rattle.std.proofs.Common.{◌≡◌, ◌≢◌, ℕ, zero, suc, ◌+◌, ◌-◌, ◌*◌, ◌/◌, ◌%◌, ◌<◌, ◌≤◌, List, [], ◌∷◌, ◌++◌, length, take, drop, replicate, get_or}
use Rattle.std.proofs.Common.{bit_xor, refl, sym, ap, ap₂, ◌∙◌, arith, append_assoc, append-nil, length-append, length-drop, drop-drop, take-append-drop}
use Rattle.std.proofs.Common.{length-take-le, get_or-drop, ⊎_elim}
use Rattle.std.proofs.lemmas.Bool.{cases_order}
use Rattle.std.proofs.lemmas.List.{drop_more, get_or_at, get_or-append_right, length-replicate, take_at}
use Rattle.des_block.specs.Cipher.{word_bytes, tdes_decipher}
use Rattle.retail_mac.specs.Mac.{padded, blocks, xor_bytes, zero_block}
use Rattle.retail_mac.specs.Opening.{cbc_back, IsEnciphered}
use Rattle.retail_mac.proofs.Blocks.{xor-word_bytes, zero_word}
use Rattle.retail_mac.proofs.CbcBack.{opened_whole}

-- ---- the padding

zeros_are : (m i : ℕ) → get_or (replicate {A = ℕ} m 0) i 0 ≡ 0
zeros_are zero i = refl
zeros_are (suc m) zero = refl
zeros_are (suc m) (suc i) = zeros_are m i

-- a padded message: the mark after the message, then zeros up to the end, which is near
pub record EndsAfter (plain message : List ℕ) : Type 0 where
  pub mark : get_or plain (length message) 0 ≡ 0x80
  pub zeros : (k : ℕ) → length message < k → get_or plain k 0 ≡ 0
  pub within : length message < length plain
  pub near : length plain ≤ length message + 8

pub padded_ends : (plain message : List ℕ) → plain ≡ padded message → EndsAfter plain message
unfolding padded
padded_ends plain message e =
    let n : ℕ = length message in
    let m : ℕ = 7 - n % 8 in
    let end : List ℕ = 0x80 ∷ replicate m 0 in
    let long : length plain ≡ n + suc m = omega (arith, ap length e, length-append message end, length-replicate {A = ℕ} m 0) in
    record {
      mark = ap (λ p. get_or p n 0) e ∙ get_or_at message 0x80 (replicate m 0) 0 n refl;
      zeros = λ k h. let j : k - n ≡ suc (k - n - 1) = omega arith in
          ap (λ p. get_or p k 0) e ∙ get_or-append_right message end n k 0 refl (omega arith) ∙ ap (λ i. get_or end i 0) j ∙ zeros_are m (k - n - 1);
      within = omega arith;
      near = omega arith;
    }

all_zeros : (xs : List ℕ) → ((k : ℕ) → get_or xs k 0 ≡ 0) → xs ≡ replicate (length xs) 0
all_zeros [] h = refl
all_zeros (x ∷ xs) h = ap₂ (λ y ys. y ∷ ys) (h 0) (all_zeros xs (λ k. h (suc k)))

-- the mark at an index of the last block, and only zeros after it
pub padded_at : (plain : List ℕ) (at : ℕ) → length plain % 8 ≡ 0 → at < length plain → length plain ≤ at + 8 → get_or plain at 0 ≡ 0x80
    → ((k : ℕ) → at < k → get_or plain k 0 ≡ 0) → plain ≡ padded (take at plain)
unfolding padded
padded_at plain at whole within near mark zeros =
    let rest : List ℕ = drop (at + 1) plain in
    let rest_is : rest ≡ replicate (length rest) 0 = all_zeros rest (λ k. get_or-drop (at + 1) plain k 0 ∙ zeros (at + 1 + k) (omega arith)) in
    let count : length rest ≡ 7 - length (take at plain) % 8 =
    omega (arith, length-drop (at + 1) plain, length-take-le at plain (omega arith)) in
    sym (take-append-drop at plain)
    ∙ ap (λ r. take at plain ++ r) (drop_more plain at 0 within ∙ ap₂ (λ x r. x ∷ r) mark (rest_is ∙ ap (λ k. replicate k 0) count))

-- the message ends where the mark is found after nothing but zeros
pub mark_found : (plain message : List ℕ) (at : ℕ) → EndsAfter plain message → get_or plain at 0 ≡ 0x80
    → ((k : ℕ) → at < k → get_or plain k 0 ≡ 0) → at ≡ length message
mark_found plain message at is mark zeros =
    ⊎_elim (λ same. same)
    (λ apart. ⊎_elim (λ less. absurd (omega (arith, zeros (length message) less, is.mark))) (λ more. absurd (omega (arith, is.zeros at more, mark))) apart)
    (cases_order at (length message))

-- a text is padded from one message
pub padded_once : (first second : List ℕ) → padded first ≡ padded second → first ≡ second
unfolding padded
padded_once first second e =
    let one : EndsAfter (padded first) first = padded_ends (padded first) first refl in
    let other : EndsAfter (padded first) second = padded_ends (padded first) second e in
    let same : length first ≡ length second = mark_found (padded first) second (length first) other one.mark one.zeros in
    sym (take_at first (0x80 ∷ replicate (7 - length first % 8) 0) (length first) refl) ∙ ap (take (length first)) e
    ∙ take_at second (0x80 ∷ replicate (7 - length second % 8) 0) (length first) (sym same)

-- no other byte than the mark ends the zeros of a padded message
pub no_mark : (plain message : List ℕ) (at : ℕ) → EndsAfter plain message → get_or plain at 0 ≢ 0x80 → get_or plain at 0 ≢ 0
    → ((k : ℕ) → at < k → get_or plain k 0 ≡ 0) → ⊥
no_mark plain message at is other nonzero zeros =
    ⊎_elim (λ same. other (ap (λ k. get_or plain k 0) same ∙ is.mark))
    (λ apart. ⊎_elim (λ less. absurd (omega (arith, zeros (length message) less, is.mark))) (λ more. nonzero (is.zeros at more)) apart)
    (cases_order at (length message))

-- ---- the deciphered blocks

-- what is deciphered so far, and the blocks that are left
pub Deciphers : List ℕ → List ℕ → ℕ → ℕ → List ℕ → Type 0
Deciphers key text i previous plain =
    plain ++ cbc_back key (word_bytes previous) (blocks (length text / 8 - i) (drop (8 * i) text))
    ≡ cbc_back key zero_block (blocks (length text / 8) text)

pub Deciphers_none : (key text : List ℕ) → Deciphers key text 0 0 []
unfolding Deciphers
Deciphers_none key text =
    let all : length text / 8 - 0 ≡ length text / 8 = omega arith in
    ap₂ (λ before k. cbc_back key before (blocks k text)) zero_word all

pub Deciphers_more : (key text plain : List ℕ) (i previous block bare : ℕ) → Deciphers key text i previous plain → i < length text / 8
    → word_bytes block ≡ take 8 (drop (8 * i) text) → word_bytes bare ≡ tdes_decipher key (word_bytes block)
    → (new : List ℕ) → new ≡ plain ++ word_bytes (bit_xor bare previous) → Deciphers key text (i + 1) block new
unfolding Deciphers blocks cbc_back
Deciphers_more key text plain i previous block bare so_far h is_block is_bare new new_is =
    let count : length text / 8 - i ≡ suc (length text / 8 - (i + 1)) = omega arith in
    let left : ℕ = length text / 8 - (i + 1) in
    let after : drop 8 (drop (8 * i) text) ≡ drop (8 * (i + 1)) text = drop-drop 8 (8 * i) text ∙ ap (λ k. drop k text) (omega arith) in
    let mixed : word_bytes (bit_xor bare previous) ≡ xor_bytes (tdes_decipher key (take 8 (drop (8 * i) text))) (word_bytes previous) =
    xor-word_bytes bare previous ∙ ap (λ b. xor_bytes b (word_bytes previous)) (is_bare ∙ ap (tdes_decipher key) is_block) in
    let rest : List ℕ = cbc_back key (word_bytes block) (blocks left (drop (8 * (i + 1)) text)) in
    let step : cbc_back key (word_bytes previous) (blocks (length text / 8 - i) (drop (8 * i) text)) ≡ word_bytes (bit_xor bare previous) ++ rest =
    ap (λ k. cbc_back key (word_bytes previous) (blocks k (drop (8 * i) text))) count
    ∙ ap₂ (λ x xs. x ++ xs) (sym mixed) (ap₂ (λ b t. cbc_back key b (blocks left t)) (sym is_block) after) in
    ap (λ n. n ++ rest) new_is ∙ append_assoc plain (word_bytes (bit_xor bare previous)) rest ∙ ap (λ r. plain ++ r) (sym step) ∙ so_far

pub Deciphers_all : (key text plain : List ℕ) (i previous : ℕ) → Deciphers key text i previous plain → i ≡ length text / 8
    → plain ≡ cbc_back key zero_block (blocks (length text / 8) text)
unfolding Deciphers blocks cbc_back
Deciphers_all key text plain i previous so_far all =
    let none : length text / 8 - i ≡ 0 = omega arith in
    sym (append-nil plain) ∙ sym (ap (λ k. plain ++ cbc_back key (word_bytes previous) (blocks k (drop (8 * i) text))) none) ∙ so_far

-- ---- one message

-- a text is enciphered from one message
pub enciphered_once : (key first second text : List ℕ) → IsEnciphered key first text → IsEnciphered key second text → first ≡ second
enciphered_once key first second text one other =
    let plain : List ℕ = cbc_back key zero_block (blocks (length text / 8) text) in
    padded_once first second (sym (opened_whole key first text plain one refl) ∙ opened_whole key second text plain other refl)
