-- PINs, the nibbles of their blocks, and the PIN of a block.
use Rattle.std.proofs.Common.{◌≡◌, ℕ, zero, suc, ◌+◌, ◌-◌, ◌*◌, ◌/◌, ◌%◌, ◌<◌, ◌≤◌, ◌==◌, List, [], ◌∷◌, ◌++◌, length, drop, replicate, get_or}
use Rattle.std.proofs.Common.{Some, IsTrue, inl, inr, refl, sym, ap, ap₂, ◌∙◌, arith, length-append}
use Rattle.std.specs.Prelude.{if◌then◌else◌}
use Rattle.std.proofs.lemmas.Bool.{and_parts, cond-true, leb-true, cases_lt}
use Rattle.std.proofs.lemmas.Option.{cond_some}
use Rattle.std.proofs.lemmas.List.{ext_get_or, get_or_append_left, get_or_past, length-replicate, drop-replicate}
use Rattle.issuer_base.proofs.Decimal.{list_all-at}
use Rattle.key_derive.specs.Digits.{packed}
use Rattle.key_derive.proofs.Nibbles.{AreNibbles, AreNibbles-append}
use Rattle.key_derive.proofs.Packing.{length-packed, get_or-packed}
use Rattle.retail_mac.specs.Opening.{AreBytes}
use Rattle.secure_msg.specs.Pins.{is_pin, pin_from, pin_nibbles, pin_block, nibble_at}

-- a PIN has 4 to 12 digits
pub length-pin : (pin : List ℕ) → IsTrue (is_pin pin) → (4 ≤ length pin) × (length pin ≤ 12)
unfolding is_pin
length-pin pin valid =
    let sized = (and_parts _ _ valid).0 in
    (leb-true _ _ (and_parts _ _ sized).0, leb-true _ _ (and_parts _ _ sized).1)

-- each digit of a PIN is at most 9
pub digit-pin : (pin : List ℕ) → IsTrue (is_pin pin) → (i : ℕ) → i < length pin → get_or pin i 0 ≤ 9
unfolding is_pin
digit-pin pin valid i below = leb-true _ _ (list_all-at _ pin (and_parts _ _ valid).1 i below)

-- the PIN that digits are is these digits
pub pin_from-some : (digits pin : List ℕ) → pin_from digits ≡ Some pin → IsTrue (is_pin digits) × (digits ≡ pin)
unfolding pin_from
pin_from-some digits pin made = cond_some _ _ _ made

-- the digits of a PIN are one
pub pin_from-valid : (digits : List ℕ) → IsTrue (is_pin digits) → pin_from digits ≡ Some digits
unfolding pin_from
pin_from-valid digits valid = cond-true _ _ _ valid

-- ---- the nibbles of a block

pub length-pin_nibbles : (pin : List ℕ) → length pin ≤ 14 → length (pin_nibbles pin) ≡ 16
length-pin_nibbles pin few = omega (arith, length-append pin (replicate (14 - length pin) 0xF), length-replicate {A = ℕ} (14 - length pin) 0xF)

AreNibbles-pin : (pin : List ℕ) → IsTrue (is_pin pin) → AreNibbles pin
AreNibbles-pin pin valid k =
    elim (cases_lt k (length pin)) [
      | inl below ↦ (let digit : get_or pin k 0 ≤ 9 = digit-pin pin valid k below in omega arith)
      | inr past ↦ (let none : get_or pin k 0 ≡ 0 = get_or_past pin k 0 past in omega arith)
    ]

AreNibbles-fillers : (n : ℕ) → AreNibbles (replicate n 0xF)
AreNibbles-fillers zero k = omega arith
AreNibbles-fillers (suc n) zero = omega arith
AreNibbles-fillers (suc n) (suc k) = AreNibbles-fillers n k

pub AreNibbles-block : (pin : List ℕ) → IsTrue (is_pin pin) → AreNibbles (pin_nibbles pin)
AreNibbles-block pin valid zero = omega arith
AreNibbles-block pin valid (suc zero) = let few = length-pin pin valid in omega (arith, few.1)
AreNibbles-block pin valid (suc (suc k)) =
    AreNibbles-append pin (replicate (14 - length pin) 0xF) (AreNibbles-pin pin valid) (AreNibbles-fillers (14 - length pin)) k

-- the nibbles as they are written: fillers after the first two, and the digits over them
pub nibbles-written : (pin copied : List ℕ) → length pin ≤ 14 → copied ≡ pin
    → 2 ∷ length pin ∷ (copied ++ drop (2 + length pin - 2) (replicate 14 0xF)) ≡ pin_nibbles pin
nibbles-written pin copied few same =
    let count : 2 + length pin - 2 ≡ length pin = omega arith in
    ap₂ (λ c k. 2 ∷ length pin ∷ (c ++ drop k (replicate 14 0xF))) same count
    ∙ ap (λ fillers. 2 ∷ length pin ∷ (pin ++ fillers)) (drop-replicate (length pin) 14 0xF)

-- ---- a block

pub length-pin_block : (pin : List ℕ) → length pin ≤ 14 → length (pin_block pin) ≡ 8
unfolding pin_block
length-pin_block pin few = length-packed 8 (pin_nibbles pin) (length-pin_nibbles pin few)

pub pin_block_small : (pin : List ℕ) → IsTrue (is_pin pin) → AreBytes (pin_block pin)
unfolding pin_block
pin_block_small pin valid i =
    let few : length pin ≤ 12 = (length-pin pin valid).1 in
    let long : length (pin_nibbles pin) ≡ 16 = length-pin_nibbles pin (omega arith) in
    elim (cases_lt i 8) [
      | inl below ↦
          (let byte : get_or (packed (pin_nibbles pin)) i 0 ≡ 16 * get_or (pin_nibbles pin) (2 * i) 0 + get_or (pin_nibbles pin) (2 * i + 1) 0 =
          get_or-packed (pin_nibbles pin) i (omega arith) in
          omega (arith, AreNibbles-block pin valid (2 * i), AreNibbles-block pin valid (2 * i + 1)))
      | inr past ↦
          (let none : get_or (packed (pin_nibbles pin)) i 0 ≡ 0 =
          get_or_past (packed (pin_nibbles pin)) i 0 (omega (arith, length-packed 8 (pin_nibbles pin) long)) in
          omega arith)
    ]

-- the nibbles of packed digits are the digits
nibble_at-packed : (digits : List ℕ) (i : ℕ) → AreNibbles digits → length digits % 2 ≡ 0 → i < length digits
    → nibble_at (packed digits) i ≡ get_or digits i 0
unfolding packed
nibble_at-packed [] i are even below = absurd (omega arith)
nibble_at-packed (digit ∷ []) i are even below = absurd (omega arith)
nibble_at-packed (high ∷ low ∷ digits) zero are even below = omega (arith, are 0, are 1)
nibble_at-packed (high ∷ low ∷ digits) (suc zero) are even below = omega (arith, are 0, are 1)
nibble_at-packed (high ∷ low ∷ digits) (suc (suc i)) are even below =
    let rest : suc (suc i) % 2 ≡ i % 2 = omega arith in
    let half : suc (suc i) / 2 ≡ suc (i / 2) = omega arith in
    let bytes : List ℕ = (16 * high + low) ∷ packed digits in
    ap₂ (λ r h. if r == 0 then get_or bytes h 0 / 16 else get_or bytes h 0 % 16) rest half
    ∙ nibble_at-packed digits i (λ k. are (suc (suc k))) (omega arith) (omega arith)

pub nibble_at-block : (pin : List ℕ) (i : ℕ) → IsTrue (is_pin pin) → i < 16 → nibble_at (pin_block pin) i ≡ get_or (pin_nibbles pin) i 0
unfolding pin_block
nibble_at-block pin i valid below =
    let few : length pin ≤ 12 = (length-pin pin valid).1 in
    let long : length (pin_nibbles pin) ≡ 16 = length-pin_nibbles pin (omega arith) in
    nibble_at-packed (pin_nibbles pin) i (AreNibbles-block pin valid) (omega arith) (omega arith)

-- the number of digits in a block is that of its PIN
pub count-block : (block pin : List ℕ) → IsTrue (is_pin pin) → block ≡ pin_block pin → get_or block 0 0 % 16 ≡ length pin
count-block block pin valid is = ap (λ b. get_or b 0 0 % 16) is ∙ nibble_at-block pin 1 valid (omega arith)

-- a block has one PIN
pub one_pin : (first second : List ℕ) → IsTrue (is_pin first) → IsTrue (is_pin second) → pin_block first ≡ pin_block second → first ≡ second
one_pin first second valid other same =
    let few : length first ≤ 12 = (length-pin first valid).1 in
    let count : length first ≡ length second =
    sym (count-block (pin_block first) first valid refl) ∙ count-block (pin_block first) second other same in
    ext_get_or 0 first second count (λ k below.
    let digit : (pin : List ℕ) → k < length pin → get_or (pin_nibbles pin) (k + 2) 0 ≡ get_or pin k 0 =
    λ pin within. ap (λ n. get_or (pin_nibbles pin) n 0) (let two : k + 2 ≡ suc (suc k) = omega arith in two)
    ∙ get_or_append_left pin (replicate (14 - length pin) 0xF) 0 k within in
    sym (digit first below) ∙ sym (nibble_at-block first (k + 2) valid (omega arith)) ∙ ap (λ b. nibble_at b (k + 2)) same
    ∙ nibble_at-block second (k + 2) other (omega arith) ∙ digit second (omega arith))
