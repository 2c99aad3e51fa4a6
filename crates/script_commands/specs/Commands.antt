-- Which bytes encode an issuer script command of the host before it is sealed, and which one: EMV 4.3 Book 3, section
-- 6.5.
use Rattle.std.specs.Prelude.{◌≡◌, ◌≤◌, ℕ, ◌&&◌, nat_le, if◌then◌else◌, List, ◌∷◌, length, Option, Some, None, IsTrue}
use Rattle.issuer_base.specs.declared.command.Command.{Command}
use Rattle.issuer_base.specs.declared.limits.TheConstants.{MAX_BODY_BYTES}
use Rattle.issuer_base.specs.ScriptCommand.{is_command, command_bytes}

-- the command itself, if it is one of the host's and its data are not too long
abbrev pub if_allowed : Command → Option Command
if_allowed command =
    if is_command command && nat_le (length command.body.items) MAX_BODY_BYTES then Some command else None

-- the command that bytes encode: class, instruction, two parameters and the data, without their length
unfoldable pub command_of : List ℕ → Option Command
command_of (cla ∷ ins ∷ p1 ∷ p2 ∷ body) =
    if_allowed (record { cla = cla; ins = ins; p1 = p1; p2 = p2; body = record { items = body } })
command_of _ = None

-- the bytes encode this command of the host, whose data are not too long
pub record AreBytesOf (bytes : List ℕ) (command : Command) : Type 0 where
  pub form : IsTrue (is_command command)
  pub room : length command.body.items ≤ MAX_BODY_BYTES
  pub spelled : bytes ≡ command_bytes command
