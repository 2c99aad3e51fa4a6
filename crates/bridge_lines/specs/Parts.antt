-- The parts of a line: what is before a separator, names, numbers, and records.
use Rattle.std.specs.Prelude.{ℕ, suc, ◌==◌, Bool, not, ◌&&◌, ◌||◌, nat_lt, nat_le, if◌then◌else◌, List, [], ◌∷◌, length, take, drop, slice_index}
use Rattle.std.specs.Prelude.{Option, Some, None}
use Rattle.std.specs.List.{list_all}
use Rattle.std.specs.Str.Parse.{digits_value}
use Rattle.one_history.specs.Streams.{Word, Text, Indexed}
use Rattle.bridge_rule.specs.declared.limits.TheConstants.{LOGS, NAME_ROOM, TEXT_ROOM}
use Rattle.bridge_lines.specs.declared.limits.TheConstants.{MOST_DIGITS}

-- what follows of what was found, if anything was
infixl 10 ◌>>=◌
abbrev pub ◌>>=◌ : {A B : Type 0} → Option A → (A → Option B) → Option B
None >>= f = None
(Some x) >>= f = f x

-- the index of the first such byte
unfoldable pub place : ℕ → List ℕ → Option ℕ
place byte [] = None
place byte (first ∷ bytes) = if first == byte then Some 0 else (place byte bytes >>= λ at. Some (suc at))

-- what is before the first such byte, and what follows it
abbrev pub parts_at : List ℕ → ℕ → List ℕ × List ℕ
parts_at bytes at = (take at bytes, drop (suc at) bytes)

abbrev pub cut : ℕ → List ℕ → Option (List ℕ × List ℕ)
cut byte bytes = place byte bytes >>= λ at. Some (parts_at bytes at)

-- whether a text lacks this byte
abbrev pub is_other : ℕ → ℕ → Bool
is_other byte other = not (other == byte)

abbrev pub lacks : ℕ → List ℕ → Bool
lacks byte text = list_all (is_other byte) text

-- whether a byte is in this range
abbrev pub is_between : ℕ → ℕ → ℕ → Bool
is_between least most byte = nat_le least byte && nat_le byte most

-- a name's bytes: letters, digits, `_`, `.` and `-`
abbrev pub is_digit : ℕ → Bool
is_digit byte = is_between 48 57 byte

abbrev pub is_letter : ℕ → Bool
is_letter byte = is_between 65 90 byte || is_between 97 122 byte

abbrev pub is_name_byte : ℕ → Bool
is_name_byte byte = is_digit byte || is_letter byte || byte == 95 || byte == 46 || byte == 45

-- a name has 1 to 64 of them
unfoldable pub is_name : List ℕ → Bool
is_name word = nat_lt 0 (length word) && nat_le (length word) NAME_ROOM && list_all is_name_byte word

abbrev pub name_in : List ℕ → Option Word
name_in word = if is_name word then Some word else None

-- a number has 1 to 18 digits, and begins with 0 only if that is all of it
unfoldable pub is_number : List ℕ → Bool
is_number word =
    nat_lt 0 (length word) && nat_le (length word) MOST_DIGITS && list_all is_digit word
    && (not (slice_index word 0 == 48) || nat_le (length word) 1)

abbrev pub number_in : List ℕ → Option ℕ
number_in word = if is_number word then Some (digits_value 10 word) else None

abbrev pub shard_in : List ℕ → Option ℕ
shard_in word = number_in word >>= λ shard. if nat_lt shard LOGS then Some shard else None

-- a record's text is ASCII without a newline, not empty and not too long
abbrev pub is_text_byte : ℕ → Bool
is_text_byte byte = nat_lt byte 128 && not (byte == 10)

unfoldable pub is_text : List ℕ → Bool
is_text text = nat_lt 0 (length text) && nat_le (length text) TEXT_ROOM && list_all is_text_byte text

abbrev pub text_in : List ℕ → Option Text
text_in text = if is_text text then Some text else None

-- a feed line: a shard, an index, and a record's text
unfoldable pub record_in : List ℕ → Option Indexed
record_in line = do
  parts ← cut 32 line
  shard ← shard_in parts.0
  rest ← cut 32 parts.1
  index ← number_in rest.0
  text ← text_in rest.1
  Some (record { shard = shard; index = index; text = text })
