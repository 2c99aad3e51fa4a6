-- How a line is parsed, one part after another.
use Rattle.std.specs.Prelude.{ℕ, ◌+◌, ◌-◌, ◌*◌, Bool, true, false, ◌==◌, nat_le, if◌then◌else◌, List, [], ◌∷◌, length, take, drop}
use Rattle.std.specs.Prelude.{map, position, take_while, slice_index, Option, Some, None, option_and_then, option_map}
use Rattle.std.specs.Char.{is_ascii_digit}
use Rattle.std.specs.Int.{w16, from_be_bytes}
use Rattle.std.specs.List.{list_all}
use Rattle.hex.specs.Hex.{lower_digits}
use Rattle.issuer_base.specs.CardNumber.{pan_from}
use Rattle.issuer_base.specs.ChipData.{is_bcd, request_from}
use Rattle.issuer_base.specs.declared.limits.TheConstants.{MAX_REPLY_BYTES}
use Rattle.issuer_base.specs.declared.request.Parts.{Parts}
use Rattle.issuer_base.specs.declared.answer.Reply.{Reply}
use Rattle.issuer_base.specs.declared.entry.Entry.{Entry}
use Rattle.issuer_base.specs.declared.entry.Entry.TheVariants.{Decided, Queued, Status}
use Rattle.script_commands.specs.Commands.{command_of}
use Rattle.journal_rec.specs.declared.limits.TheConstants.{COMMAND_BYTES, PAN_DIGITS}
use Rattle.journal_rec.specs.RecordText.{space}

-- what is read from the start of a text, and the remainder
abbrev pub Reader : Type 0 → Type 0
Reader X = List ℕ → Option (X × List ℕ)

-- one part is read, and then what follows it
infixl 10 ◌>>=◌
abbrev pub ◌>>=◌ : {A B : Type 0} → Reader A → (A → Reader B) → Reader B
(read >>= next) left = option_and_then (λ found. next found.0 found.1) (read left)

-- one part is read, and then another, whatever the first was
infixl 10 ◌>>◌
abbrev pub ◌>>◌ : {A B : Type 0} → Reader A → Reader B → Reader B
read >> next = read >>= λ _. next

-- reads nothing, and returns this value, if there is one
abbrev pub given : {X : Type 0} → Option X → Reader X
given found left = option_map (λ x. (x, left)) found

-- the value of a hexadecimal digit in lower case
abbrev pub digit_value : ℕ → Option ℕ
digit_value digit = position (λ other. other == digit) lower_digits

-- the byte that two digits spell
abbrev pub byte_of : ℕ → ℕ → Option ℕ
byte_of high low = option_and_then (λ h. option_map (λ l. h * 16 + l) (digit_value low)) (digit_value high)

-- the bytes that pairs of digits spell
unfoldable pub spelled : List ℕ → Option (List ℕ)
spelled [] = Some []
spelled (digit ∷ []) = None
spelled (high ∷ low ∷ digits) =
    option_and_then (λ byte. option_map (λ bytes. byte ∷ bytes) (spelled digits)) (byte_of high low)

-- the bytes that pairs of digits spell, if they are at most this many
abbrev pub spelled_within : ℕ → List ℕ → Option (List ℕ)
spelled_within most digits =
    option_and_then (λ bytes. if nat_le (length bytes) most then Some bytes else None) (spelled digits)

-- this many bytes of the line, undecoded
unfoldable pub piece_at : ℕ → Reader (List ℕ)
piece_at count left = if nat_le count (length left) then Some (take count left, drop count left) else None

-- one byte, undecoded
unfoldable pub next_at : Reader ℕ
next_at [] = None
next_at (byte ∷ left) = Some (byte, left)

-- this byte
unfoldable pub mark_at : ℕ → Reader (Unit {0})
mark_at byte = do
  next ← next_at
  given (if next == byte then Some tt else None)

-- the end of the line
unfoldable pub end_at : Reader (Unit {0})
end_at [] = Some (tt, [])
end_at (byte ∷ left) = None

-- this many bytes in hexadecimal
unfoldable pub bytes_at : ℕ → Reader (List ℕ)
bytes_at count = do
  digits ← piece_at (2 * count)
  given (spelled digits)

-- one byte in hexadecimal
unfoldable pub byte_at : Reader ℕ
byte_at = do
  bytes ← bytes_at 1
  given (Some (slice_index bytes 0))

-- a number of two bytes in hexadecimal, the higher first
unfoldable pub counter_at : Reader ℕ
counter_at = do
  bytes ← bytes_at 2
  given (Some (from_be_bytes w16 bytes))

-- the whole remainder, at most this many bytes in hexadecimal
unfoldable pub rest_at : ℕ → Reader (List ℕ)
rest_at most left = option_map (λ bytes. (bytes, [])) (spelled_within most left)

-- the account number of the leading decimal digits, if only `f`, 102, follows them
unfoldable pub pan_of : List ℕ → Option (List ℕ)
pan_of text =
    let digits = take_while is_ascii_digit text in
    if list_all (λ byte. byte == 102) (drop (length digits) text)
    then pan_from (map (λ digit. digit - 48) digits) else None

-- an account number in a line
unfoldable pub pan_at : Reader (List ℕ)
pan_at = do
  text ← piece_at PAN_DIGITS
  given (pan_of text)

-- the fields of a request, in the order of a line, together
abbrev pub parts_of : List ℕ → ℕ → List ℕ → ℕ → List ℕ → List ℕ → ℕ → List ℕ → List ℕ → List ℕ → List ℕ → List ℕ → ℕ
    → List ℕ → List ℕ → Parts
parts_of pan psn aip atc tvr date kind amount other country currency un cid iad ac = record {
  pan = pan;
  psn = psn;
  aip = aip;
  atc = atc;
  tvr = tvr;
  date = date;
  kind = kind;
  amount = amount;
  other = other;
  country = country;
  currency = currency;
  un = un;
  cid = cid;
  iad = iad;
  ac = ac;
}

-- the fields of a request, one after another
unfoldable pub parts_at : Reader Parts
parts_at = do
  pan ← pan_at
  psn ← byte_at
  aip ← bytes_at 2
  atc ← counter_at
  tvr ← bytes_at 5
  date ← bytes_at 3
  kind ← byte_at
  amount ← bytes_at 6
  other ← bytes_at 6
  country ← bytes_at 2
  currency ← bytes_at 2
  un ← bytes_at 4
  cid ← byte_at
  iad ← bytes_at 32
  ac ← bytes_at 8
  given (Some (parts_of pan psn aip atc tvr date kind amount other country currency un cid iad ac))

-- a request
unfoldable pub request_at : Reader Parts
request_at = do
  parts ← parts_at
  given (request_from parts)

-- whether the issuer approves: 49 is `1` and 48 is `0`
unfoldable pub approval_at : Reader Bool
approval_at = do
  digit ← next_at
  given (if digit == 49 then Some true else if digit == 48 then Some false else None)

-- a reply
unfoldable pub reply_at : Reader Reply
reply_at = do
  arc ← bytes_at 2
  mark_at space
  approve ← approval_at
  mark_at space
  bytes ← rest_at MAX_REPLY_BYTES
  given (if nat_le 1 (length bytes)
      then Some (record { arc = arc; approve = approve; bytes = record { items = bytes } }) else None)

-- a decided request, after its letter
unfoldable pub decided_at : Reader Entry
decided_at = do
  mark_at space
  request ← request_at
  mark_at space
  reply ← reply_at
  given (Some (Decided request reply))

-- a sequence number
unfoldable pub psn_at : Reader ℕ
psn_at = do
  psn ← byte_at
  given (if is_bcd psn then Some psn else None)

-- an account and sequence number, each after a space, and a space
unfoldable pub card_at : Reader (List ℕ × ℕ)
card_at = do
  mark_at space
  pan ← pan_at
  mark_at space
  psn ← psn_at
  mark_at space
  given (Some (pan, psn))

-- a queued command, after its letter
unfoldable pub queued_at : Reader Entry
queued_at = do
  card ← card_at
  bytes ← rest_at COMMAND_BYTES
  given (option_map (λ command. Queued card.0 card.1 command) (command_of bytes))

-- a status, after its letter
unfoldable pub status_at : Reader Entry
status_at = do
  card ← card_at
  digit ← next_at
  given (if is_ascii_digit digit then Some (Status card.0 card.1 (digit - 48)) else None)

-- a record after its letter: 100 is `d`, 113 is `q` and 115 is `s`
abbrev pub after_letter : ℕ → Reader Entry
after_letter letter =
    if letter == 100 then decided_at
    else if letter == 113 then queued_at
    else if letter == 115 then status_at
    else given None

-- a record, and nothing after it
unfoldable pub entry_at : Reader Entry
entry_at = do
  letter ← next_at
  entry ← after_letter letter
  end_at
  given (Some entry)
