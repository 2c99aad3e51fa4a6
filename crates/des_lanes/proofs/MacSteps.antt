-- The blocks of a padded text, and the MAC's chain over them.
use Rattle.std.proofs.Common.{◌≡◌, ℕ, ◌+◌, ◌-◌, ◌*◌, ◌/◌, ◌<◌, ◌≤◌, List, ◌∷◌, ◌++◌, take, drop, replicate, fold, set, bit_xor}
use Rattle.std.proofs.Common.{length, get_or, refl, sym, ap, ap₂, ◌∙◌, arith, w64, length-drop, length-take, get_or-take, get_or-drop, ⊎_elim, subst}
use Rattle.std.specs.Int.{from_be_bytes}
use Rattle.std.proofs.lemmas.Bool.{cases_lt}
use Rattle.std.proofs.lemmas.List.{take_rest, get_or_past}
use Rattle.des_block.specs.Cipher.{word_bytes, des_encipher, des_decipher, tdes_encipher}
use Rattle.des_block.proofs.Laws.{word_bytes-from_be_bytes, length-des_encipher, des_encipher_small}
use Rattle.retail_mac.specs.Mac.{padded, blocks, padded_blocks, zero_block, chained, retail_mac}
use Rattle.retail_mac.proofs.Blocks.{last_word_is, end_block, whole_block}
use Rattle.retail_mac.proofs.Pieces.{chained-more}

part_small : (text : List ℕ) (at n : ℕ) → ((i : ℕ) → get_or text i 0 < 256) → (i : ℕ) → get_or (take n (drop at text)) i 0 < 256
part_small text at n small i =
    ⊎_elim (λ l. subst (λ x. x < 256) (sym (get_or-take n (drop at text) i 0 l ∙ get_or-drop at text i 0)) (small (at + i)))
    (λ l. subst (λ x. x < 256) (sym (get_or_past (take n (drop at text)) i 0 (omega (arith, length-take n (drop at text))))) (omega arith))
    (cases_lt i n)

pub last_is : (text copied : List ℕ) (i w : ℕ) → i ≤ length text / 8 → ((k : ℕ) → get_or text k 0 < 256)
    → length (take (length text - 8 * i) (drop (8 * i) text)) < 8 → copied ≡ take (length text - 8 * i) (drop (8 * i) text)
    → w ≡ from_be_bytes w64 (set (copied ++ drop (length (take (length text - 8 * i) (drop (8 * i) text))) (replicate 8 0))
    (length (take (length text - 8 * i) (drop (8 * i) text))) 128)
    → word_bytes w ≡ take 8 (drop (8 * i) (padded text))
last_is text copied i w h small short same e =
    let part : List ℕ = take (length text - 8 * i) (drop (8 * i) text) in
    let whole : part ≡ drop (8 * i) text = take_rest text (8 * i) in
    let last : i ≡ length text / 8 = omega (arith, length-drop (8 * i) text, ap length whole) in
    last_word_is part copied (length part) w short (part_small text (8 * i) (length text - 8 * i) small) refl same e
    ∙ ap (λ r. r ++ 128 ∷ replicate (7 - length r) 0) whole ∙ ap (λ n. drop (8 * i) text ++ 128 ∷ replicate (7 - n) 0) (length-drop (8 * i) text)
    ∙ sym (end_block text i last)

pub inner_is : (text block : List ℕ) (i w : ℕ) → i ≤ length text / 8 → ((k : ℕ) → get_or text k 0 < 256)
    → 8 ≤ length (take (length text - 8 * i) (drop (8 * i) text)) → block ≡ take 8 (take (length text - 8 * i) (drop (8 * i) text))
    → w ≡ from_be_bytes w64 block → word_bytes w ≡ take 8 (drop (8 * i) (padded text))
inner_is text block i w h small long same e =
    let whole : take (length text - 8 * i) (drop (8 * i) text) ≡ drop (8 * i) text = take_rest text (8 * i) in
    let is : block ≡ take 8 (drop (8 * i) text) = same ∙ ap (take 8) whole in
    let room : 8 ≤ length (drop (8 * i) text) = omega (arith, ap length whole) in
    word_bytes-from_be_bytes (take 8 (drop (8 * i) text)) w (omega (arith, length-take 8 (drop (8 * i) text))) (part_small text (8 * i) 8 small)
    (e ∙ ap (from_be_bytes w64) is) ∙ sym (whole_block text i (omega (arith, length-drop (8 * i) text)))

-- one more step of the chain of a lane
pub chain_step : (key text : List ℕ) (i chain word mixed next : ℕ) (left : List ℕ) → left ≡ take 8 key
    → word_bytes chain ≡ fold (chained (take 8 key)) zero_block (blocks i (padded text))
    → word_bytes word ≡ take 8 (drop (8 * i) (padded text)) → mixed ≡ bit_xor chain word
    → word_bytes next ≡ des_encipher left (word_bytes mixed)
    → word_bytes next ≡ fold (chained (take 8 key)) zero_block (blocks (i + 1) (padded text))
chain_step key text i chain word mixed next left el so_far is_block em step =
    chained-more (take 8 key) (padded text) zero_block i chain word next so_far is_block
    (step ∙ ap₂ (λ k m. des_encipher k (word_bytes m)) el em)

-- the end of the MAC of a lane
pub mac_is : (key text : List ℕ) (n chain word mixed out : ℕ) → n ≡ length text / 8
    → word_bytes chain ≡ fold (chained (take 8 key)) zero_block (blocks n (padded text))
    → word_bytes word ≡ take 8 (drop (8 * n) (padded text)) → mixed ≡ bit_xor chain word
    → word_bytes out ≡ tdes_encipher key (word_bytes mixed)
    → word_bytes out ≡ retail_mac key text
unfolding retail_mac padded_blocks tdes_encipher
mac_is key text n chain word mixed out en so_far is_block em end =
    let left : List ℕ = take 8 key in
    let inner : List ℕ = des_encipher left (word_bytes mixed) in
    let next : ℕ = from_be_bytes w64 inner in
    let is_next : word_bytes next ≡ inner = word_bytes-from_be_bytes inner next (length-des_encipher left (word_bytes mixed))
    (des_encipher_small left (word_bytes mixed)) refl in
    let last : word_bytes next ≡ fold (chained left) zero_block (blocks (n + 1) (padded text)) =
    chain_step key text n chain word mixed next left refl so_far is_block em is_next in
    let all : inner ≡ fold (chained left) zero_block (blocks (length text / 8 + 1) (padded text)) =
    sym is_next ∙ last ∙ ap (λ k. fold (chained left) zero_block (blocks (k + 1) (padded text))) en in
    end ∙ ap (λ b. des_encipher left (des_decipher (drop 8 key) b)) all
