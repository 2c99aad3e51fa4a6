-- What a PIN change opens to, and the PIN of a block.
use Rattle.std.proofs.Common.{◌≡◌, ℕ, suc, ◌+◌, ◌-◌, ◌%◌, ◌<◌, ◌≤◌, List, ◌++◌, length, take, drop, replicate, get_or, Some, true, ◌&&◌, IsTrue}
use Rattle.std.proofs.Common.{sym, ap, ap₂, ◌∙◌, arith, subst}
use Rattle.std.proofs.lemmas.List.{take-append-drop, length-take-le, ext_get_or, get_or_append_left, get_or-take}
use Rattle.std.proofs.lemmas.Bool.{and_parts, eq-eqb, eqb-true}
use Rattle.issuer_base.specs.declared.command.Command.{Command}
use Rattle.issuer_base.specs.declared.request.Suite.TheVariants.{TripleDes}
use Rattle.key_derive.specs.SessionKey.{session_sm}
use Rattle.retail_mac.specs.Mac.{cbc}
use Rattle.retail_mac.specs.Opening.{IsEnciphered}
use Rattle.secure_msg.specs.Pins.{is_pin, pin_from, pin_nibbles, pin_block, nibble_at}
use Rattle.secure_msg.specs.PinChange.{pin_body, SetsPin}
use Rattle.secure_msg.proofs.PinBlocks.{length-pin, pin_from-valid, pin_block_small, nibble_at-block, count-block}
use Rattle.secure_msg.proofs.PinChanges.{length-pin_body, body-r, body-enciphered}
use Rattle.pin_card.specs.LastPin.{is_pin_change}

-- a command that sets a PIN has the header and the length of a PIN change
pub sets-header : (smc pin : List ℕ) (command : Command) → SetsPin smc command pin → is_pin_change command ≡ true
sets-header smc pin command is =
    let long : length command.body.items ≡ 24 = ap length is.body_is ∙ length-pin_body smc is.r pin is.eight is.valid in
    ap₂ (λ a b. a && b) (ap₂ (λ a b. a && b) (ap₂ (λ a b. a && b) (eq-eqb command.ins 0x24 is.instruction) (eq-eqb command.p1 0x00 is.first_parameter))
    (eq-eqb command.p2 0x02 is.second_parameter)) (eq-eqb (length command.body.items) 24 long)

pub header-long : (command : Command) → is_pin_change command ≡ true → length command.body.items ≡ 24
header-long command is = eqb-true (length command.body.items) 24 (and_parts _ _ is).1

-- its data after R are the PIN block, enciphered
pub sets-enciphered : (smc pin : List ℕ) (command : Command) → SetsPin smc command pin
    → IsEnciphered (session_sm TripleDes smc (take 8 command.body.items)) (pin_block pin) (drop 8 command.body.items)
sets-enciphered smc pin command is = record {
  bytes = pin_block_small pin is.valid;
  text_is = body-enciphered smc is.r pin command.body.items is.eight is.body_is
      ∙ ap (λ r. cbc (session_sm TripleDes smc r) (pin_block pin)) (sym (body-r smc is.r pin command.body.items is.eight is.body_is));
}

-- and a command with both sets the PIN
pub enciphered-sets : (smc pin : List ℕ) (command : Command) → is_pin_change command ≡ true → IsTrue (is_pin pin)
    → IsEnciphered (session_sm TripleDes smc (take 8 command.body.items)) (pin_block pin) (drop 8 command.body.items) → SetsPin smc command pin
unfolding pin_body
enciphered-sets smc pin command header valid is =
    let body : List ℕ = command.body.items in
    let parts = (and_parts _ _ header).0 in
    record {
      valid = valid;
      r = take 8 body;
      eight = omega (arith, length-take-le 8 body (omega (arith, header-long command header)));
      instruction = eqb-true command.ins 0x24 (and_parts _ _ (and_parts _ _ parts).0).0;
      first_parameter = eqb-true command.p1 0x00 (and_parts _ _ (and_parts _ _ parts).0).1;
      second_parameter = eqb-true command.p2 0x02 (and_parts _ _ parts).1;
      body_is = sym (take-append-drop 8 body) ∙ ap (λ text. take 8 body ++ text) is.text_is;
    }

-- the same under an equal key, of an equal text
pub enciphered-same : (key other message text same : List ℕ) → key ≡ other → text ≡ same → IsEnciphered key message text → IsEnciphered other message same
enciphered-same key other message text same key_is text_is is =
    record { bytes = is.bytes; text_is = sym text_is ∙ is.text_is ∙ ap (λ k. cbc k message) key_is }

-- the parts of a command's data, as the code splits them: the session key that R gives, and the bytes after R
pub record AreParts (smc : List ℕ) (command : Command) (key text : List ℕ) : Type 0 where
  pub key_is : key ≡ session_sm TripleDes smc (take 8 command.body.items)
  pub text_is : text ≡ drop 8 command.body.items

pub parts-are : (smc bytes front r key text : List ℕ) (command : Command) → bytes ≡ command.body.items → front ≡ take 8 bytes → r ≡ front
    → key ≡ session_sm TripleDes smc r → text ≡ drop 8 bytes → AreParts smc command key text
parts-are smc bytes front r key text command same front_is r_is key_is text_is = record {
  key_is = key_is ∙ ap (session_sm TripleDes smc) (r_is ∙ front_is ∙ ap (take 8) same);
  text_is = text_is ∙ ap (drop 8) same;
}

-- where a command sets a PIN, the text is its block, enciphered under the key
pub sets-opens : (smc key text pin : List ℕ) (command : Command) → AreParts smc command key text → SetsPin smc command pin
    → IsEnciphered key (pin_block pin) text
sets-opens smc key text pin command parts sets =
    enciphered-same _ _ (pin_block pin) _ _ (sym parts.key_is) (sym parts.text_is) (sets-enciphered smc pin command sets)

-- and it sets the PIN whose block the text opens to
pub opens-sets : (smc key text pin message : List ℕ) (command : Command) → AreParts smc command key text → is_pin_change command ≡ true
    → IsTrue (is_pin pin) → message ≡ pin_block pin → IsEnciphered key message text → SetsPin smc command pin
opens-sets smc key text pin message command parts header valid message_is is =
    enciphered-sets smc pin command header valid
    (enciphered-same _ _ (pin_block pin) _ _ parts.key_is parts.text_is (subst (λ m. IsEnciphered key m text) message_is is))

-- the nibbles of a block from its third on begin with the digits of its PIN
pub digits-block : (block pin nibbles : List ℕ) → IsTrue (is_pin pin) → block ≡ pin_block pin → length nibbles ≡ 14
    → ((k : ℕ) → k < 14 → get_or nibbles k 0 ≡ nibble_at block (k + 2)) → take (length pin) nibbles ≡ pin
digits-block block pin nibbles valid is long at =
    let few : length pin ≤ 12 = (length-pin pin valid).1 in
    let front : length (take (length pin) nibbles) ≡ length pin = length-take-le (length pin) nibbles (omega arith) in
    let more : (k : ℕ) → k < length pin → get_or (pin_nibbles pin) (k + 2) 0 ≡ get_or pin k 0 =
    λ k below. ap (λ n. get_or (pin_nibbles pin) n 0) (let two : k + 2 ≡ suc (suc k) = omega arith in two)
    ∙ get_or_append_left pin (replicate (14 - length pin) 0xF) 0 k below in
    ext_get_or 0 (take (length pin) nibbles) pin front (λ k below.
    let within : k < length pin = omega arith in
    get_or-take (length pin) nibbles k 0 within ∙ at k (omega arith) ∙ ap (λ b. nibble_at b (k + 2)) is
    ∙ nibble_at-block pin (k + 2) valid (omega arith) ∙ more k within)

-- if a block is a PIN's, the PIN is made of as many nibbles from the third on as the second says
pub candidate : (block pin nibbles : List ℕ) → IsTrue (is_pin pin) → block ≡ pin_block pin → length nibbles ≡ 14
    → ((k : ℕ) → k < 14 → get_or nibbles k 0 ≡ nibble_at block (k + 2)) → pin_from (take (get_or block 0 0 % 16) nibbles) ≡ Some pin
candidate block pin nibbles valid is long at =
    ap pin_from (ap (λ n. take n nibbles) (count-block block pin valid is) ∙ digits-block block pin nibbles valid is long at) ∙ pin_from-valid pin valid
