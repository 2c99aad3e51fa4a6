-- The size of an issuer script template: EMV 4.3 Book 3, section 10.10 and Annex A.
use Rattle.std.specs.Prelude.{ℕ, ◌+◌, List, length, sum_by}
use Rattle.issuer_base.specs.declared.command.Command.{Command}
use Rattle.issuer_base.specs.declared.limits.TheConstants.{BARE_TEMPLATE_BYTES, BARE_COMMAND_BYTES}

-- the number of bytes of a sealed command in a template
abbrev pub sealed_size : Command → ℕ
sealed_size command = BARE_COMMAND_BYTES + length command.body.items

-- the number of bytes of a template of these commands
abbrev pub template_size : List Command → ℕ
template_size commands = BARE_TEMPLATE_BYTES + sum_by sealed_size commands
