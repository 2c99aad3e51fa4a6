-- The line that queues a command for a card: one of the forms of a request line.
use Rattle.std.specs.Prelude.{ℕ, List, [], ◌∷◌, codes}
use Rattle.hex.specs.Hex.{encode_lower}
use Rattle.issuer_base.specs.ChipData.{digits_of}
use Rattle.issuer_base.specs.ScriptCommand.{command_bytes}
use Rattle.issuer_base.specs.declared.command.Command.{Command}
use Rattle.chip_request.specs.Lines.{digits_text}
use Rattle.answer_text.specs.AnswerText.{line_of}

-- `Q`, the card's account number, its sequence number, and the command's bytes
unfoldable pub queue_text : List ℕ → ℕ → Command → List ℕ
queue_text pan psn command =
    line_of (codes "Q" ∷ digits_text pan ∷ digits_text (digits_of psn) ∷ encode_lower (command_bytes command) ∷ [])
