-- Which commands are PIN changes, and the last PIN that commands set on a card.
use Rattle.std.specs.Prelude.{◌≡◌, ℕ, Bool, ◌==◌, ◌&&◌, List, ◌∷◌, ◌++◌, length, Option, Some, None, All}
use Rattle.issuer_base.specs.declared.command.Command.{Command}
use Rattle.secure_msg.specs.PinChange.{SetsPin}

-- the command has the header and the length of a PIN change
abbrev pub is_pin_change : Command → Bool
is_pin_change command =
    command.ins == 0x24 && command.p1 == 0x00 && command.p2 == 0x02 && length command.body.items == 24

-- none of the commands sets a PIN
abbrev pub SetNoPin : List ℕ → List Command → Type 0
SetNoPin smc commands = All (λ command. (pin : List ℕ) → SetsPin smc command pin → ⊥) commands

-- one of the commands sets this PIN, and none after it sets one
pub record SetLast (smc : List ℕ) (commands : List Command) (pin : List ℕ) : Type 0 where
  pub earlier : List Command
  pub command : Command
  pub later : List Command
  pub commands_are : commands ≡ earlier ++ command ∷ later
  pub sets : SetsPin smc command pin
  pub none_later : SetNoPin smc later

-- the last PIN that the commands set on a card with this master key for confidentiality, or none
abbrev pub IsLastPin : List ℕ → List Command → Option (List ℕ) → Type 0
IsLastPin smc commands None = SetNoPin smc commands
IsLastPin smc commands (Some pin) = SetLast smc commands pin
