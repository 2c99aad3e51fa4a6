-- The nibbles of a PIN's block give the PIN, and the block of the PIN that they give is compared.
use Rattle.std.proofs.Common.{◌≡◌, take, IsTrue, refl, sym, ap, ◌∙◌, subst, arith}
use Rattle.std.proofs.lemmas.Bool.{false≢true}
use Rattle.std.proofs.lemmas.Option.{none-some, same_Some}
use Rattle.secure_msg.specs.Pins.{is_pin, pin_from, pin_block}
use Rattle.secure_msg.proofs.PinBlocks.{length-pin, count-block, pin_from-some}
use Rattle.pin_card.proofs.OpenedPins.{candidate}
use Rattle.pin_card.proofs.block.pin_in.Goals as goal

pub returns-then-count-gt-DIGIT_NIBBLES : goal.returns-then-count-gt-DIGIT_NIBBLES
returns-then-count-gt-DIGIT_NIBBLES c = λ pin. (
  λ e. absurd (none-some pin e),
  λ h. absurd (let few = length-pin pin h.0 in omega (arith, few.1, count-block c.args.block.now pin h.0 h.1, c.from-count.ensures)),
)

pub returns-in_err-pin : goal.returns-in_err-pin
returns-in_err-pin c = λ pin. (
  λ e. absurd (none-some pin (sym c.from_residual.ensures ∙ e)),
  λ h. absurd (none-some pin (sym c.in_err-pin.was ∙ c.new.ensures
      ∙ ap (λ n. pin_from (take n c.digit_nibbles.result)) c.from-count.ensures
      ∙ candidate c.args.block.now pin c.digit_nibbles.result h.0 h.1 (omega arith) c.digit_nibbles.ensures)),
)

pub returns-then-not-is_block_of : goal.returns-then-not-is_block_of
returns-then-not-is_block_of c = λ pin. (
  λ e. absurd (none-some pin e),
  λ h. let same : c.in_ok-pin.pin ≡ pin = same_Some _ _ (sym c.in_ok-pin.was ∙ c.new.ensures
      ∙ ap (λ n. pin_from (take n c.digit_nibbles.result)) c.from-count.ensures
      ∙ candidate c.args.block.now pin c.digit_nibbles.result h.0 h.1 (omega arith) c.digit_nibbles.ensures) in
      absurd (false≢true (c.if-not-is_block_of.ensures.1 (h.1 ∙ ap pin_block (sym same)))),
)

pub returns : goal.returns
returns c = λ pin. (
  λ e. let same : c.in_ok-pin.pin ≡ pin = same_Some _ _ e in
      let made = pin_from-some _ c.in_ok-pin.pin (sym c.new.ensures ∙ c.in_ok-pin.was) in
      (subst (λ p. IsTrue (is_pin p)) (made.1 ∙ same) made.0, c.if-not-is_block_of.ensures.0 refl ∙ ap pin_block same),
  λ h. sym c.in_ok-pin.was ∙ c.new.ensures ∙ ap (λ n. pin_from (take n c.digit_nibbles.result)) c.from-count.ensures
      ∙ candidate c.args.block.now pin c.digit_nibbles.result h.0 h.1 (omega arith) c.digit_nibbles.ensures,
)
