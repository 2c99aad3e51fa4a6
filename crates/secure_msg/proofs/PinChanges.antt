-- PIN changes.
use Rattle.std.proofs.Common.{◌≡◌, ℕ, ◌≤◌, List, [], ◌++◌, length, take, drop, Result, Ok, Err, IsTrue}
use Rattle.std.proofs.Common.{refl, sym, ap, ap₂, ◌∙◌, arith, length-append}
use Rattle.std.proofs.lemmas.List.{take_at, drop_at}
use Rattle.std.specs.Result.{IsOk, IsErr}
use Rattle.issuer_base.specs.declared.command.Command.{Command}
use Rattle.issuer_base.specs.declared.request.Suite.TheVariants.{TripleDes}
use Rattle.key_derive.specs.SessionKey.{session_sm}
use Rattle.retail_mac.specs.Mac.{cbc}
use Rattle.retail_mac.specs.Opening.{IsEnciphered}
use Rattle.retail_mac.proofs.CbcBack.{length-cbc}
use Rattle.retail_mac.proofs.Padding.{enciphered_once}
use Rattle.secure_msg.specs.Pins.{is_pin, pin_block}
use Rattle.secure_msg.specs.PinChange.{pin_body, pin_command, SetsPin}
use Rattle.secure_msg.proofs.PinBlocks.{length-pin, length-pin_block, pin_block_small, one_pin}

-- a result that is no error is a value
pub ok-unless_err : {T E : Type 0} → (result : Result T E) → (IsErr result → ⊥) → IsOk result
ok-unless_err (Ok value) none = refl
ok-unless_err (Err error) none = absurd (none refl)

-- the block of a PIN, enciphered
pub IsEnciphered-block : (key pin : List ℕ) → IsTrue (is_pin pin) → IsEnciphered key (pin_block pin) (cbc key (pin_block pin))
IsEnciphered-block key pin valid = record { bytes = pin_block_small pin valid; text_is = refl }

-- it has sixteen bytes
pub length-enciphered : (key pin : List ℕ) → IsTrue (is_pin pin) → length (cbc key (pin_block pin)) ≡ 16
length-enciphered key pin valid =
    let few : length pin ≤ 12 = (length-pin pin valid).1 in
    omega (arith, length-cbc key (pin_block pin), length-pin_block pin (omega arith))

-- the data of a PIN change have 24 bytes: R, and the enciphered block
pub length-pin_body : (smc r pin : List ℕ) → length r ≡ 8 → IsTrue (is_pin pin) → length (pin_body smc r pin) ≡ 24
unfolding pin_body
length-pin_body smc r pin eight valid =
    let key : List ℕ = session_sm TripleDes smc r in
    omega (arith, length-append r (cbc key (pin_block pin)), length-enciphered key pin valid)

pub body-r : (smc r pin body : List ℕ) → length r ≡ 8 → body ≡ pin_body smc r pin → take 8 body ≡ r
unfolding pin_body
body-r smc r pin body eight is = ap (take 8) is ∙ take_at r (cbc (session_sm TripleDes smc r) (pin_block pin)) 8 eight

pub body-enciphered : (smc r pin body : List ℕ) → length r ≡ 8 → body ≡ pin_body smc r pin
    → drop 8 body ≡ cbc (session_sm TripleDes smc r) (pin_block pin)
unfolding pin_body
body-enciphered smc r pin body eight is = ap (drop 8) is ∙ drop_at r (cbc (session_sm TripleDes smc r) (pin_block pin)) 8 eight

-- the data as they are written
pub body-written : (smc r pin key block out front body : List ℕ) → key ≡ session_sm TripleDes smc r → block ≡ pin_block pin
    → out ≡ [] ++ cbc key block → front ≡ [] ++ r → body ≡ front ++ out → body ≡ pin_body smc r pin
unfolding pin_body
body-written smc r pin key block out front body key_is block_is out_is front_is body_is =
    body_is ∙ ap₂ (λ a b. a ++ b) front_is (out_is ∙ ap₂ cbc key_is block_is)

-- a PIN change sets its PIN
pub command-sets : (smc r pin : List ℕ) → length r ≡ 8 → IsTrue (is_pin pin) → SetsPin smc (pin_command smc r pin) pin
command-sets smc r pin eight valid = record {
  valid = valid;
  r = r;
  eight = eight;
  instruction = refl;
  first_parameter = refl;
  second_parameter = refl;
  body_is = refl;
}

-- a command sets one PIN
pub sets-one : (smc first second : List ℕ) (command : Command) → SetsPin smc command first → SetsPin smc command second → first ≡ second
sets-one smc first second command one other =
    let body : List ℕ = command.body.items in
    let same : one.r ≡ other.r = sym (body-r smc one.r first body one.eight one.body_is) ∙ body-r smc other.r second body other.eight other.body_is in
    let key : List ℕ = session_sm TripleDes smc one.r in
    let text : drop 8 body ≡ cbc key (pin_block first) = body-enciphered smc one.r first body one.eight one.body_is in
    let text_too : drop 8 body ≡ cbc key (pin_block second) =
    body-enciphered smc other.r second body other.eight other.body_is ∙ ap (λ r. cbc (session_sm TripleDes smc r) (pin_block second)) (sym same) in
    one_pin first second one.valid other.valid
    (enciphered_once key (pin_block first) (pin_block second) (drop 8 body) (record { bytes = pin_block_small first one.valid; text_is = text })
    (record { bytes = pin_block_small second other.valid; text_is = text_too }))
