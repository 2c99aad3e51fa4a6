-- The commands of a batch, sealed one after another, and the issuer script template of them: EMV 4.3 Book 3, section
-- 10.10.
use Rattle.std.specs.Prelude.{◌<◌, ◌≤◌, ℕ, List, [], ◌∷◌, ◌++◌, length, All, IsTrue}
use Rattle.std.specs.List.{flat_map}
use Rattle.std.specs.Int.{w32, to_be_bytes}
use Rattle.issuer_base.specs.declared.command.Command.{Command}
use Rattle.issuer_base.specs.declared.request.Suite.{Suite}
use Rattle.issuer_base.specs.declared.limits.TheConstants.{MAX_TEMPLATE_BYTES}
use Rattle.issuer_base.specs.ScriptCommand.{is_command}
use Rattle.issuer_base.specs.ScriptTemplate.{template_size}
use Rattle.tlv_objects.specs.Writing.{object_text}
use Rattle.secure_msg.specs.Sealing.{command_mac, sealed_command}

-- the commands of a batch, each sealed at the MAC of the command before it, and the first at the given chain: for a
-- card the application cryptogram
unfoldable pub sealed_commands : Suite → List ℕ → List ℕ → List Command → List (List ℕ)
sealed_commands suite key chain [] = []
sealed_commands suite key chain (command ∷ later) =
    sealed_command suite key chain command ∷ sealed_commands suite key (command_mac suite key chain command) later

-- commands that one template can carry: there is one, each is a command of the host, and their template isn't too long
pub record IsBatch (commands : List Command) : Type 0 where
  pub some : 0 < length commands
  pub form : All (λ command. IsTrue (is_command command)) commands
  pub fit : template_size commands ≤ MAX_TEMPLATE_BYTES

-- the template: tag 72 holds 9F18 with the number of the batch's first command in the card's queue, in four bytes, and
-- an object 86 for each sealed command
unfoldable pub template_bytes : Suite → List ℕ → List ℕ → ℕ → List Command → List ℕ
template_bytes suite key ac first commands =
    object_text 0x72 (object_text 0x9F18 (to_be_bytes w32 first)
    ++ flat_map (object_text 0x86) (sealed_commands suite key ac commands))
