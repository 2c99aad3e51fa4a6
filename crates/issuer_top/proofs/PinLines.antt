-- The line that queues a change of a PIN is read as just this command.
use Rattle.std.proofs.Common.{◌≡◌, ℕ, zero, suc, ◌+◌, ◌<◌, List, [], ◌∷◌, ◌++◌, length, Option, None, Some}
use Rattle.std.proofs.Common.{Ok, Err, refl, sym, ap, ap₂, ◌∙◌, arith, length-append}
use Rattle.std.specs.Prelude.{IsTrue, codes}
use Rattle.hex.specs.Hex.{IsBytes, encode_lower}
use Rattle.hex.proofs.HexLemmas.{decode_of-ok, decode_sized-ok, decode_sized-twice}
use Rattle.issuer_base.specs.CardNames.{named}
use Rattle.issuer_base.specs.ChipData.{digits_of}
use Rattle.card_history.specs.declared.decision.Asked.TheVariants.{Queue}
use Rattle.issuer_base.specs.ScriptCommand.{is_command, command_bytes}
use Rattle.des_block.specs.Cipher.{tdes_encipher}
use Rattle.des_block.specs.declared.Key16.{Key16}
use Rattle.des_block.proofs.Laws.{des_encipher_small}
use Rattle.retail_mac.specs.Mac.{cbc, cbc_from, xor_bytes}
use Rattle.issuer_base.specs.declared.request.Suite.TheVariants.{TripleDes}
use Rattle.key_derive.specs.SessionKey.{session_sm}
use Rattle.key_derive.specs.declared.card.KeySet.{KeySet}
use Rattle.chip_request.specs.Lines.{Says, digits_text, spaced}
use Rattle.chip_request.specs.LineParts.{line_of}
use Rattle.chip_request.specs.declared.line.LineKind.TheVariants.{Queue as IsQueue}
use Rattle.chip_request.proofs.LineLaws.{line_reads, reads_once}
use Rattle.terminal_kernel.proofs.LineRead.{spells-encode_lower}
use Rattle.script_commands.proofs.Forms.{command_of-AreBytesOf}
use Rattle.secure_msg.specs.PinChange.{pin_body, pin_command}
use Rattle.secure_msg.specs.Pins.{is_pin, pin_block}
use Rattle.secure_msg.proofs.PinChanges.{length-enciphered}
use Rattle.answer_text.specs.QueueText.{queue_text}
use Rattle.answer_text.specs.declared.stop_line.Stop.TheVariants.{NoKey}
use Rattle.issuer_setup.specs.CardList.{number_of}
use Rattle.issuer_setup.specs.IssuerSetup.{Setup}
use Rattle.issuer_setup.specs.KeyList.{key_of}
use Rattle.line_checks.specs.Reading.{command_for, reading, said_by}
use Rattle.command_line.specs.Command.{PinOrder, IsPin}
use Rattle.issuer_top.specs.PinChanges.{IsReadAsChange, change_by, change_text, changing, smc_for, smc_under}

-- ---- bytes

small-cons : (byte : ℕ) (bytes : List ℕ) → byte < 256 → IsBytes bytes → IsBytes (byte ∷ bytes)
small-cons byte bytes below small zero = below
small-cons byte bytes below small (suc i) = small i

small-append : (xs ys : List ℕ) → IsBytes xs → IsBytes ys → IsBytes (xs ++ ys)
small-append [] ys a b i = b i
small-append (x ∷ xs) ys a b zero = a 0
small-append (x ∷ xs) ys a b (suc i) = small-append xs ys (λ k. a (suc k)) b i

small-cbc_from : (key before : List ℕ) (blocks : List (List ℕ)) → IsBytes (cbc_from key before blocks)
unfolding cbc_from tdes_encipher
small-cbc_from key before [] = λ i. omega arith
small-cbc_from key before (block ∷ blocks) =
    let next : List ℕ = tdes_encipher key (xor_bytes before block) in
    small-append next (cbc_from key next blocks) (des_encipher_small _ _) (small-cbc_from key next blocks)

-- the data of a PIN change are bytes, and 24 of them
small-body : (smc r pin : List ℕ) → IsBytes r → IsBytes (pin_body smc r pin)
unfolding pin_body cbc
small-body smc r pin small = small-append r _ small (small-cbc_from _ _ _)

length-body : (smc r pin : List ℕ) → length r ≡ 8 → IsTrue (is_pin pin) → length (pin_body smc r pin) ≡ 24
unfolding pin_body
length-body smc r pin eight valid =
    let key : List ℕ = session_sm TripleDes smc r in
    let parts = length-append r (cbc key (pin_block pin)) in
    let sixteen = length-enciphered key pin valid in
    omega (arith, parts, sixteen, eight)

-- ---- the line

-- a PIN change is a command of the host
is-command : (smc r pin : List ℕ) → IsTrue (is_command (pin_command smc r pin))
unfolding is_command
is-command smc r pin = refl

-- a card that has a key is known
known : (order : PinOrder) (number : Option ℕ) (set : Option KeySet) (smc : Key16)
    → smc_under order number set ≡ Some smc → (card : ℕ) × (number ≡ Some card)
known order None set smc is = absurd (let e : None ≡ Some smc = is in cc)
known order (Some card) set smc is = (card, refl)

module _ (issuer : Setup) (order : PinOrder) (words : List (List ℕ)) (pin : IsPin words order) where
  salt-eight : (length order.salt ≡ 8) × IsBytes order.salt
  salt-eight =
      let twice = decode_sized-ok pin.salt_word 8 order.salt pin.salt_is in
      let decoded = decode_of-ok pin.salt_word order.salt
      (sym (decode_sized-twice pin.salt_word 8 twice) ∙ pin.salt_is) in
      let double = decoded.2 in
      (omega (arith, twice, double), decoded.3)

  line : Key16 → List ℕ
  line smc =
      spaced (codes "Q" ∷ digits_text order.pan ∷ digits_text (digits_of order.psn)
      ∷ encode_lower (command_bytes (pin_command smc.0 order.salt order.pin)) ∷ [])

  says : (smc : Key16)
      → Says (line smc) (IsQueue order.pan order.psn
      (record { items = command_bytes (pin_command smc.0 order.salt order.pin) }))
  unfolding line
  says smc =
      let bytes = command_bytes (pin_command smc.0 order.salt order.pin) in
      let long = length-body smc.0 order.salt order.pin salt-eight.0 pin.pin_is in
      let body = pin_body smc.0 order.salt order.pin in
      let small : IsBytes bytes =
      small-cons 0x84 (0x24 ∷ 0x00 ∷ 0x02 ∷ body) (omega arith)
      (small-cons 0x24 (0x00 ∷ 0x02 ∷ body) (omega arith)
      (small-cons 0x00 (0x02 ∷ body) (omega arith)
      (small-cons 0x02 body (omega arith) (small-body smc.0 order.salt order.pin salt-eight.1)))) in (
        encode_lower bytes,
        refl,
        record { number = pin.pan_is; sequence = pin.psn_is },
        record { spelled = spells-encode_lower bytes small; some = omega (arith, long); within = omega (arith, long) },
      )

  is-read : (smc : Key16) → smc_for issuer order ≡ Some smc
      → reading issuer (line smc) ≡ Ok (Queue order.pan order.psn (pin_command smc.0 order.salt order.pin))
  is-read smc is =
      let command = pin_command smc.0 order.salt order.pin in
      let card = known order (number_of (named order.pan order.psn) issuer.cards) (key_of order.dki issuer.keys) smc
      is in
      let long = length-body smc.0 order.salt order.pin salt-eight.0 pin.pin_is in
      let command_is = command_of-AreBytesOf (command_bytes command) command
      (record {
        form = is-command smc.0 order.salt order.pin;
        room = omega (arith, long);
        spelled = refl;
      }) in
      ap (said_by issuer) (reads_once (line smc) (line_of (line smc)) (Ok (IsQueue order.pan order.psn
      (record { items = command_bytes command }))) (line_reads (line smc)) (says smc))
      ∙ ap₂ (command_for (named order.pan order.psn)) card.1 command_is

  reads-some : (text : List ℕ) (smc : Option Key16) → smc_for issuer order ≡ smc → change_by order smc ≡ Ok text
      → IsReadAsChange issuer order text
  unfolding line queue_text
  reads-some text None is same = absurd (let e : Err NoKey ≡ Ok text = same in cc)
  reads-some text (Some smc) is same =
      let text_is : change_text order smc ≡ text = let e : Ok (change_text order smc) ≡ Ok text = same in cc in
      record { line = line smc; line_is = sym text_is; smc = smc; smc_is = is; read = is-read smc is }

  -- the text of a change is such a line
  pub reads-change : (text : List ℕ) → changing issuer order ≡ Ok text → IsReadAsChange issuer order text
  reads-change text same = reads-some text (smc_for issuer order) refl same
