-- The block packs its nibbles.
use Rattle.std.proofs.Common.{ap, ◌∙◌}
use Rattle.key_derive.specs.Digits.{packed}
use Rattle.secure_msg.specs.Pins.{pin_nibbles, pin_block}
use Rattle.secure_msg.proofs.pin.pin_block.Goals as goal

pub returns-clause-exact : goal.returns-clause-exact
unfolding pin_block
returns-clause-exact c = c.packed.ensures ∙ ap packed (c.pin_nibbles.ensures.exact ∙ ap pin_nibbles c.digits.ensures.same)
