-- What a line asks of an issuer, or its first fault.
use Rattle.std.specs.Prelude.{ℕ, Bool, List, Option, None, Some, Result, Ok, Err, if◌then◌else◌}
use Rattle.std.specs.Str.{bytes_eq}
use Rattle.issuer_base.specs.declared.command.Command.{Command}
use Rattle.issuer_base.specs.declared.request.Request.{Request}
use Rattle.issuer_base.specs.declared.answer.Refusal.{Refusal}
use Rattle.issuer_base.specs.declared.answer.Refusal.TheVariants.{BadLine, BadTlv, Missing, BadField, Repeated}
use Rattle.issuer_base.specs.declared.answer.Refusal.TheVariants.{UnknownCard, NotArqc, UnknownKey, BadCryptogram, BadCommand}
use Rattle.issuer_base.specs.ChipData.{dki, is_arqc}
use Rattle.card_history.specs.declared.decision.Asked.{Asked}
use Rattle.card_history.specs.declared.decision.Asked.TheVariants.{Decide, Queue, Status}
use Rattle.issuer_base.specs.CardNames.{CardName, named}
use Rattle.card_history.specs.Records.{card_of}
use Rattle.chip_request.specs.declared.reading.RequestFault.{RequestFault}
use Rattle.chip_request.specs.declared.reading.RequestFault.TheVariants.{BadTlv as IsTorn, Missing as Lacks}
use Rattle.chip_request.specs.declared.reading.RequestFault.TheVariants.{BadField as HasBadField, Repeated as Repeats}
use Rattle.chip_request.specs.declared.line.LineKind.{LineKind}
use Rattle.chip_request.specs.declared.line.LineKind.TheVariants.{Ask, Queue as IsQueue, Set as IsSet}
use Rattle.line_checks.specs.Parsed.{line_of}
use Rattle.chip_request.specs.Reading.{request_of}
use Rattle.key_derive.specs.declared.card.CardKeys.{CardKeys}
use Rattle.cryptogram_in.specs.Cryptogram.{application_cryptogram}
use Rattle.script_commands.specs.Commands.{command_of}
use Rattle.issuer_setup.specs.CardList.{number_of}
use Rattle.issuer_setup.specs.IssuerSetup.{Setup, keys_of}

-- the refusal of a line for a fault in its chip data
abbrev pub refusal_of : RequestFault → Refusal
refusal_of (IsTorn place) = BadTlv place
refusal_of (Lacks tag) = Missing tag
refusal_of (HasBadField tag) = BadField tag
refusal_of (Repeats tag) = Repeated tag

-- whether the cryptogram is the one that a card with these master keys makes over the request: EMV 4.3 Book 2, section
-- 8.1
abbrev pub is_right : CardKeys → Request → Bool
is_right keys request = bytes_eq request.ac (application_cryptogram keys request)

-- a request is to be decided where its key set is known and its cryptogram is right
abbrev pub under_keys : Option CardKeys → Request → Result Asked Refusal
under_keys None request = Err (UnknownKey (dki request))
under_keys (Some keys) request = if is_right keys request then Ok (Decide request) else Err BadCryptogram

-- a request is checked under its keys where its card is known and asks to go online
abbrev pub of_card : Setup → Option ℕ → Request → Result Asked Refusal
of_card issuer None request = Err UnknownCard
of_card issuer (Some card) request =
    if is_arqc request then under_keys (keys_of issuer card request) request else Err NotArqc

-- a request's checks in their order: a known card, an ARQC, a known key set, the right cryptogram
abbrev pub checked : Setup → Request → Result Asked Refusal
checked issuer request = of_card issuer (number_of (card_of request) issuer.cards) request

-- the request in chip data is checked, and a fault in the data refuses their line
abbrev pub checked_data : Setup → Result Request RequestFault → Result Asked Refusal
checked_data issuer (Err fault) = Err (refusal_of fault)
checked_data issuer (Ok request) = checked issuer request

-- a command is to be queued where the issuer has the card and the bytes are a command that the host sends
abbrev pub command_for : CardName → Option ℕ → Option Command → Result Asked Refusal
command_for name None command = Err UnknownCard
command_for name (Some card) None = Err BadCommand
command_for name (Some card) (Some command) = Ok (Queue name.pan name.psn command)

-- a card is to have a status where the issuer has the card
abbrev pub status_for : CardName → Option ℕ → ℕ → Result Asked Refusal
status_for name None status = Err UnknownCard
status_for name (Some card) status = Ok (Status name.pan name.psn status)

-- what a line asks, by its form; a line of no form is refused with the column from which it is wrong
abbrev pub said_by : Setup → Result LineKind ℕ → Result Asked Refusal
said_by issuer (Err column) = Err (BadLine column)
said_by issuer (Ok (Ask bytes)) = checked_data issuer (request_of bytes.items)
said_by issuer (Ok (IsQueue pan psn bytes)) =
    command_for (named pan psn) (number_of (named pan psn) issuer.cards) (command_of bytes.items)
said_by issuer (Ok (IsSet pan psn status)) =
    status_for (named pan psn) (number_of (named pan psn) issuer.cards) status

-- what a line asks of this issuer
abbrev pub reading : Setup → List ℕ → Result Asked Refusal
reading issuer line = said_by issuer (line_of line)
