-- A command sets a PIN exactly if it has the header, and its data after R open to the PIN's block.
use Rattle.std.proofs.Common.{◌≡◌, ◌++◌, length, true, sym, ap, ◌∙◌, arith}
use Rattle.std.proofs.lemmas.Bool.{false≢true}
use Rattle.std.proofs.lemmas.Option.{none-some}
use Rattle.secure_msg.specs.Pins.{pin_block}
use Rattle.pin_card.specs.LastPin.{is_pin_change}
use Rattle.secure_msg.proofs.PinBlocks.{length-pin, length-pin_block}
use Rattle.pin_card.proofs.OpenedPins.{sets-header, AreParts, parts-are, sets-opens, opens-sets}
use Rattle.pin_card.proofs.reading.read_pin.Goals as goal

pub returns-then-not-is_pin_change : goal.returns-then-not-is_pin_change
returns-then-not-is_pin_change c = λ pin. (
  λ e. absurd (none-some pin e),
  λ sets. absurd (false≢true (sym c.if-not-is_pin_change.true ∙ c.is_pin_change.ensures ∙ sets-header c.args.smc.now.0 pin c.args.command.now sets)),
)

pub returns-then-not-cbc_open : goal.returns-then-not-cbc_open
returns-then-not-cbc_open c = λ pin.
    let parts : AreParts c.args.smc.now.0 c.args.command.now c.session_sm-key.result.0 c.split_at.result.1.now =
    parts-are c.args.smc.now.0 c.as_slice.result.now c.split_at.result.0.now c.copy_from_slice.new.self c.session_sm-key.result.0
    c.split_at.result.1.now c.args.command.now c.as_slice.ensures.value c.split_at.ensures.front c.copy_from_slice.ensures.after
    c.session_sm-key.ensures c.split_at.ensures.back in (
      λ e. absurd (none-some pin e),
      λ sets. absurd (false≢true (c.if-not-cbc_open.ensures.exact.1
          (pin_block pin, sets-opens _ _ _ pin c.args.command.now parts sets))),
    )

pub returns-in_err-eight_of : goal.returns-in_err-eight_of
returns-in_err-eight_of c = λ pin.
    let parts : AreParts c.args.smc.now.0 c.args.command.now c.session_sm-key.result.0 c.split_at.result.1.now =
    parts-are c.args.smc.now.0 c.as_slice.result.now c.split_at.result.0.now c.copy_from_slice.new.self c.session_sm-key.result.0
    c.split_at.result.1.now c.args.command.now c.as_slice.ensures.value c.split_at.ensures.front c.copy_from_slice.ensures.after
    c.session_sm-key.ensures c.split_at.ensures.back in (
      λ e. absurd (none-some pin (sym c.from_residual.ensures ∙ e)),
      λ sets. absurd (c.in_err-eight_of.ensures (
          let few = length-pin pin sets.valid in
          ap length (c.as_slice-2.ensures.value ∙ c.cbc_open.ensures.appended (pin_block pin) (sets-opens _ _ _ pin c.args.command.now parts sets)
          ∙ ap (λ o. o ++ pin_block pin) c.new-block.ensures) ∙ length-pin_block pin (omega (arith, few.1)))),
    )

pub returns : goal.returns
returns c = λ pin.
    let parts : AreParts c.args.smc.now.0 c.args.command.now c.session_sm-key.result.0 c.split_at.result.1.now =
    parts-are c.args.smc.now.0 c.as_slice.result.now c.split_at.result.0.now c.copy_from_slice.new.self c.session_sm-key.result.0
    c.split_at.result.1.now c.args.command.now c.as_slice.ensures.value c.split_at.ensures.front c.copy_from_slice.ensures.after
    c.session_sm-key.ensures c.split_at.ensures.back in
    let header : is_pin_change c.args.command.now ≡ true = sym c.is_pin_change.ensures ∙ c.if-not-is_pin_change.false in (
      λ e.
          let made = (c.pin_in.ensures pin).0 e in
          let found = c.cbc_open.ensures.exact.0 c.if-not-cbc_open.false in
          let message : found.0 ≡ pin_block pin = sym (c.cbc_open.ensures.appended found.0 found.1 ∙ ap (λ o. o ++ found.0) c.new-block.ensures)
          ∙ sym c.as_slice-2.ensures.value ∙ sym c.in_ok-eight_of.ensures ∙ made.1 in
          opens-sets _ _ _ pin found.0 c.args.command.now parts header made.0 message found.1,
      λ sets. (c.pin_in.ensures pin).1 (
        sets.valid,
        c.in_ok-eight_of.ensures ∙ c.as_slice-2.ensures.value
            ∙ c.cbc_open.ensures.appended (pin_block pin) (sets-opens _ _ _ pin c.args.command.now parts sets)
            ∙ ap (λ o. o ++ pin_block pin) c.new-block.ensures,
      ),
    )
