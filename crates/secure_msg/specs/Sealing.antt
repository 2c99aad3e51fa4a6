-- Sealed commands: secure messaging of format 2, EMV 4.3 Book 2, section 9. That the MAC of a command is chained to the
-- one before it, by the first eight bytes under it, is this project's profile, and so is the MAC with AES.
use Rattle.std.specs.Prelude.{◌≡◌, ◌≤◌, ℕ, ◌+◌, ◌-◌, if◌then◌else◌, List, [], ◌∷◌, ◌++◌, length, take, Option, Some, None, IsTrue}
use Rattle.std.specs.Str.{bytes_eq}
use Rattle.issuer_base.specs.declared.command.Command.{Command}
use Rattle.issuer_base.specs.declared.request.Suite.{Suite}
use Rattle.issuer_base.specs.declared.limits.TheConstants.{MAX_BODY_BYTES}
use Rattle.issuer_base.specs.ScriptCommand.{is_command}
use Rattle.key_derive.specs.SuiteMac.{mac_of}
use Rattle.script_commands.specs.Commands.{command_of}

-- a command as it is sent, up to its MAC: class, instruction, two parameters, Lc, which counts the data and the MAC,
-- and the data
abbrev pub sent_bytes : Command → List ℕ
sent_bytes command =
    command.cla ∷ command.ins ∷ command.p1 ∷ command.p2 ∷ (length command.body.items + 8) ∷ command.body.items

-- the MAC of a command at a chain, section 9.2.3: the suite's, of the chain and the command as it is sent
unfoldable pub command_mac : Suite → List ℕ → List ℕ → Command → List ℕ
command_mac suite key chain command = mac_of suite key (chain ++ sent_bytes command)

-- a sealed command: the bytes that are sent, and the whole MAC
unfoldable pub sealed_command : Suite → List ℕ → List ℕ → Command → List ℕ
sealed_command suite key chain command = sent_bytes command ++ command_mac suite key chain command

-- sealed bytes without Lc and MAC
abbrev pub unsealed_bytes : List ℕ → List ℕ
unsealed_bytes (cla ∷ ins ∷ p1 ∷ p2 ∷ lc ∷ rest) = cla ∷ ins ∷ p1 ∷ p2 ∷ take (length rest - 8) rest
unsealed_bytes _ = []

-- a command and the next chain, if these bytes are the command, sealed at the chain
abbrev pub if_sealed : Suite → List ℕ → List ℕ → List ℕ → Option Command → Option (Command × List ℕ)
if_sealed suite key chain bytes None = None
if_sealed suite key chain bytes (Some command) =
    if bytes_eq (sealed_command suite key chain command) bytes then Some (command, command_mac suite key chain command)
    else None

-- the command that sealed bytes open to at a chain, and the next chain: without Lc and MAC they encode a command of the
-- host, and they are that command, sealed at the chain
unfoldable pub opened_command : Suite → List ℕ → List ℕ → List ℕ → Option (Command × List ℕ)
opened_command suite key chain bytes = if_sealed suite key chain bytes (command_of (unsealed_bytes bytes))

-- the bytes are this command of the host, sealed at this chain, and this is the next chain, of eight bytes
pub record AreSealed (suite : Suite) (key chain bytes : List ℕ) (command : Command) (next : List ℕ) : Type 0 where
  pub form : IsTrue (is_command command)
  pub room : length command.body.items ≤ MAX_BODY_BYTES
  pub spelled : bytes ≡ sealed_command suite key chain command
  pub chained : next ≡ command_mac suite key chain command
  pub eight : length next ≡ 8
