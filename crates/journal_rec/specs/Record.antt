-- Which entries are records, and which line is a record's.
use Rattle.std.specs.Prelude.{◌≡◌, ℕ, ◌^◌, ◌<◌, ◌≤◌, Bool, ◌&&◌, nat_le, IsTrue, List, [], ◌∷◌, ◌++◌, length, map}
use Rattle.hex.specs.Hex.{IsBytes}
use Rattle.issuer_base.specs.CardNumber.{is_pan}
use Rattle.issuer_base.specs.ChipData.{is_bcd, is_request}
use Rattle.issuer_base.specs.ScriptCommand.{is_command, command_bytes}
use Rattle.issuer_base.specs.declared.limits.TheConstants.{MAX_BODY_BYTES, MAX_REPLY_BYTES}
use Rattle.issuer_base.specs.declared.request.Parts.{Parts}
use Rattle.issuer_base.specs.declared.command.Command.{Command}
use Rattle.issuer_base.specs.declared.answer.Reply.{Reply}
use Rattle.issuer_base.specs.declared.entry.Entry.{Entry}
use Rattle.issuer_base.specs.declared.entry.Entry.TheVariants.{Decided, Queued, Status}
use Rattle.journal_rec.specs.declared.limits.TheConstants.{PAN_BYTES}
use Rattle.journal_rec.specs.RecordText.{newline, request_bytes, request_fields, text_of}

-- an entry may be written where its reply isn't empty, its sequence number is decimal, its command is the host's, its
-- status is one digit
abbrev pub is_record : Entry → Bool
is_record (Decided request reply) = nat_le 1 (length reply.bytes.items)
is_record (Queued pan psn command) = is_bcd psn && is_command command
is_record (Status pan psn status) = is_bcd psn && nat_le status 9

-- the length in bytes of each field of a request
abbrev pub request_sizes : List ℕ
request_sizes = PAN_BYTES ∷ 1 ∷ 2 ∷ 2 ∷ 5 ∷ 3 ∷ 1 ∷ 6 ∷ 6 ∷ 2 ∷ 2 ∷ 4 ∷ 1 ∷ 32 ∷ 8 ∷ []

-- a request is a value of its type; a law over all entries has to say this, since it ranges over lists and numbers of
-- any size
pub record IsRequest (parts : Parts) : Type 0 where
  pub has_form : IsTrue (is_request parts)
  pub pan : IsTrue (is_pan parts.pan)
  pub atc : parts.atc < 2 ^ 16
  pub sizes : map length (request_fields parts) ≡ request_sizes
  pub bytes : IsBytes (request_bytes parts)

-- a reply is a value of its type
pub record IsReply (reply : Reply) : Type 0 where
  pub arc_size : length reply.arc ≡ 2
  pub arc : IsBytes reply.arc
  pub size : length reply.bytes.items ≤ MAX_REPLY_BYTES
  pub bytes : IsBytes reply.bytes.items

-- a command is a value of its type
pub record IsCommand (command : Command) : Type 0 where
  pub size : length command.body.items ≤ MAX_BODY_BYTES
  pub bytes : IsBytes (command_bytes command)

-- an entry is a value of its type
abbrev pub IsEntry : Entry → Type 0
IsEntry (Decided request reply) = IsRequest request × IsReply reply
IsEntry (Queued pan psn command) = IsTrue (is_pan pan) × (psn < 256) × IsCommand command
IsEntry (Status pan psn status) = IsTrue (is_pan pan) × (psn < 256)

-- a record: an entry that is a value of its type, and that may be written
pub record IsRecord (entry : Entry) : Type 0 where
  pub held : IsEntry entry
  pub may_stand : IsTrue (is_record entry)

-- the line, without its newline, is that of the record
abbrev pub IsLineOf : Entry → List ℕ → Type 0
IsLineOf entry line = IsRecord entry × (text_of entry ≡ line ++ newline ∷ [])
