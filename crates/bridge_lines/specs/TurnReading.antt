-- How the lines of an event are read: from left to right.
use Rattle.std.specs.Prelude.{ℕ, zero, suc, ◌+◌, ◌==◌, nat_lt, if◌then◌else◌, List, length, take, drop, codes, Option, Some, None}
use Rattle.std.specs.Str.{bytes_eq}
use Rattle.bridge_rule.specs.declared.held.Place.{Place}
use Rattle.bridge_lines.specs.Parts.{◌>>=◌, cut, place, name_in, number_in, record_in, shard_in}
use Rattle.bridge_lines.specs.Reading.{message_in}
use Rattle.bridge_lines.specs.News.{News, HasRecord, AllTold, IsConnected, IsLost, IsCalled, ReadsMessage, HostLoaded, HostEnded, HostAnswered, NothingCame}

-- where the first lines of a text end, so many of them
unfoldable pub lines_end : ℕ → List ℕ → Option ℕ
lines_end zero text = Some 0
lines_end (suc count) text = do
  at ← place 10 text
  end ← lines_end count (drop (at + 1) text)
  Some ((at + 1) + end)

-- an event that is a word alone
unfoldable pub plain_in : List ℕ → Option News
plain_in line =
    if bytes_eq line (codes "told") then Some AllTold
    else if bytes_eq line (codes "again") then Some NothingCame
    else if bytes_eq line (codes "loaded") then Some HostLoaded
    else if bytes_eq line (codes "ended") then Some HostEnded
    else if bytes_eq line (codes "lost") then Some IsLost else None

-- NUMBER, or NUMBER SHARD INDEX
abbrev pub place_of : ℕ → ℕ → Place
place_of shard index = record { shard = shard; index = index }

unfoldable pub answered_by : List ℕ → Option (List ℕ × List ℕ) → Option News
answered_by words None = number_in words >>= λ number. Some (HostAnswered number None)
answered_by words (Some parts) = do
  number ← number_in parts.0
  rest ← cut 32 parts.1
  shard ← shard_in rest.0
  index ← number_in rest.1
  Some (HostAnswered number (Some (place_of shard index)))

-- an event of a word, and of what follows it in its line
unfoldable pub worded_in : List ℕ → List ℕ → Option News
worded_in word more =
    if bytes_eq word (codes "has") then (record_in more >>= λ one. Some (HasRecord one))
    else if bytes_eq word (codes "answered") then answered_by more (cut 32 more)
    else if bytes_eq word (codes "connected") then (name_in more >>= λ name. Some (IsConnected name))
    else if bytes_eq word (codes "called") then (name_in more >>= λ name. Some (IsCalled name)) else None

-- a message: how many lines, and those
unfoldable pub text_news : List ℕ → List ℕ → Option News
text_news count text = do
  count ← number_in count
  end ← lines_end count text
  if end == length text then Some (ReadsMessage (message_in text)) else None

-- an event, by the parts of its first line, if that has a space, and the other lines
unfoldable pub news_by : List ℕ → List ℕ → Option (List ℕ × List ℕ) → Option News
news_by line rest None = if nat_lt 0 (length rest) then None else plain_in line
news_by line rest (Some parts) =
    if bytes_eq parts.0 (codes "message") then text_news parts.1 rest
    else if nat_lt 0 (length rest) then None else worded_in parts.0 parts.1

-- what a turn tells
unfoldable pub news_in : List ℕ → Option News
news_in turn = do
  lines ← cut 10 turn
  news_by lines.0 lines.1 (cut 32 lines.0)

-- a number, or 0
abbrev pub or_zero : Option ℕ → ℕ
or_zero None = 0
or_zero (Some number) = number

-- how many lines follow this one in its turn
unfoldable pub followed_by : Option (List ℕ × List ℕ) → ℕ
followed_by None = 0
followed_by (Some parts) = if bytes_eq parts.0 (codes "message") then or_zero (number_in parts.1) else 0

-- where the first turn of these bytes ends
unfoldable pub turn_end : List ℕ → Option ℕ
turn_end ahead = do
  at ← place 10 ahead
  end ← lines_end (followed_by (cut 32 (take at ahead))) (drop (at + 1) ahead)
  Some ((at + 1) + end)
