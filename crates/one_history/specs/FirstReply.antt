-- A run of ten events, up to its first reply.
use Rattle.std.specs.Prelude.{ℕ, ◌==◌, if◌then◌else◌, List, [], ◌∷◌, Some}
use Rattle.one_history.specs.Streams.{Text, Word, Barrier, Indexed, OfBarrier, OfRecords}
use Rattle.one_history.specs.Machines.{Answer}
use Rattle.one_history.specs.Keys.{Keys}
use Rattle.one_history.specs.Events.{Event, Write, Read, Call, Record, Look, Publish, Hold, Reply}

-- the names of the machine and of its barrier, and the record's text
abbrev pub machine : Word
machine = 109 ∷ 49 ∷ []

abbrev pub name : Word
name = 98 ∷ 49 ∷ []

abbrev pub text : Text
text = 114 ∷ []

abbrev pub barrier : Barrier
barrier = record { number = 1; name = name; machine = machine }

abbrev pub placed : Indexed
placed = record { shard = 0; index = 0; text = text }

abbrev pub answer : Answer
answer = record { shard = 0; before = []; text = text }

abbrev pub empty_journals : ℕ → List Text
empty_journals shard = []

-- the journals with the one record
abbrev pub filled_journals : ℕ → List Text
filled_journals shard = if shard == 0 then text ∷ [] else []

-- how many records of each journal the bridge knows then
abbrev pub one_known : ℕ → ℕ
one_known shard = if shard == 0 then 1 else 0

-- each record's key is its text, and shard 0 has all of them
abbrev pub keys : Keys
keys = record { key_of = λ shard text. Some text; shard_of = λ key. 0 }

-- a machine makes its barrier and reads it, records, and replies once it has read its record
abbrev pub events : List Event
events =
    Call machine 1 name
    ∷ Write (OfBarrier barrier)
    ∷ Read machine empty_journals
    ∷ Record machine 0 text
    ∷ Look machine one_known
    ∷ Publish machine (placed ∷ [])
    ∷ Hold machine answer
    ∷ Write (OfRecords name (placed ∷ []))
    ∷ Read machine filled_journals
    ∷ Reply machine answer
    ∷ []
