-- The script command that changes a card's PIN: EMV 4.3 Book 3, section 6.5.10. That its data begin with R, from which
-- the session key is derived, is this project's profile.
use Rattle.std.specs.Prelude.{◌≡◌, ℕ, List, ◌++◌, length, IsTrue}
use Rattle.issuer_base.specs.declared.command.Command.{Command}
use Rattle.issuer_base.specs.declared.request.Suite.TheVariants.{TripleDes}
use Rattle.key_derive.specs.SessionKey.{session_sm}
use Rattle.retail_mac.specs.Mac.{cbc}
use Rattle.secure_msg.specs.Pins.{is_pin, pin_block}

-- the data of a PIN change: R, and the PIN block, enciphered in CBC under the session key that R gives
unfoldable pub pin_body : List ℕ → List ℕ → List ℕ → List ℕ
pin_body smc r pin = r ++ cbc (session_sm TripleDes smc r) (pin_block pin)

-- the PIN change for a card with this master key for confidentiality
abbrev pub pin_command : List ℕ → List ℕ → List ℕ → Command
pin_command smc r pin = record {
  cla = 0x84;
  ins = 0x24;
  p1 = 0x00;
  p2 = 0x02;
  body =
      record { items = pin_body smc r pin };
}

-- on a card with this master key for confidentiality the command sets this PIN: but for its class it is a PIN change
-- to it, with some R of eight bytes
pub record SetsPin (smc : List ℕ) (command : Command) (pin : List ℕ) : Type 0 where
  pub valid : IsTrue (is_pin pin)
  pub r : List ℕ
  pub eight : length r ≡ 8
  pub instruction : command.ins ≡ 0x24
  pub first_parameter : command.p1 ≡ 0x00
  pub second_parameter : command.p2 ≡ 0x02
  pub body_is : command.body.items ≡ pin_body smc r pin
