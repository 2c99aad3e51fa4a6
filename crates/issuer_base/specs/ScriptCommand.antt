-- The script commands that the host sends to a card: EMV 4.3 Book 3, section 6.5; secure messaging, Book 2, section 9.
use Rattle.std.specs.Prelude.{ℕ, Bool, ◌&&◌, ◌==◌, List, [], ◌∷◌, bit_and}
use Rattle.std.specs.List.{list_any}
use Rattle.issuer_base.specs.declared.command.Command.{Command}

-- card block, application unblock, application block, PIN change/unblock, put data, update record
abbrev pub instructions : List ℕ
instructions = 0x16 ∷ 0x18 ∷ 0x1E ∷ 0x24 ∷ 0xDA ∷ 0xDC ∷ []

-- a command of the host has secure messaging in the low nibble of its class byte, and one of these instructions
unfoldable pub is_command : Command → Bool
is_command command =
    bit_and command.cla 0x0F == 0x04 && list_any (λ instruction. command.ins == instruction) instructions

-- the bytes of a command before it is sealed: class, instruction, two parameters, and the data
abbrev pub command_bytes : Command → List ℕ
command_bytes command = command.cla ∷ command.ins ∷ command.p1 ∷ command.p2 ∷ command.body.items
