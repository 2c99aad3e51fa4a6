-- What holds after every run of machines over one stream.
use Rattle.std.specs.Prelude.{◌≡◌, ◌≢◌, Bool, false, ℕ, ◌<◌, ◌≤◌, List, [], length, slice_get, Some, Contains}
use Rattle.one_history.specs.Prefixes.{IsPrefix}
use Rattle.one_history.specs.Streams.{Text, Word, Barrier, is_word}
use Rattle.one_history.specs.Machines.{Answer, up_to, Serves, World, count_at, count_of}
use Rattle.one_history.specs.Events.{Successors, IsLegal, Event, Write, Intrude, Read, Call, Record, Look, Publish, Hold, Reply, End, Part, Keep, Crash, Copy}
use Rattle.one_history.specs.Keys.{Keys}

-- a machine serves by this barrier: it has read its own barrier, and none that counts after it
pub record ReadsItsBarrier (world : World) (name : Word) (barrier : Barrier) : Type 0 where
  pub own : barrier.machine ≡ name
  pub named : barrier.name ≢ []
  pub last : (count_at world (world.machines name).read).barrier ≡ barrier

-- what is so in the world after every run, where `MayFollow` says which record may follow a history of its shard
pub record IsSafe (MayFollow : Successors) (world : World) : Type 0 where
  -- what counts at a place of the stream is a prefix of what counts at each later one
  pub prefixes : (first second shard : ℕ) → first ≤ second
      → IsPrefix ((count_at world first).histories shard) ((count_at world second).histories shard)
  -- each reply that was sent names a record that counts, after the records that its answer stands on
  pub replies : (answer : Answer) → Contains world.sent answer
      → IsPrefix (up_to answer) ((count_of world).histories answer.shard)
  -- a machine that serves has read its own barrier, and none that counts after it
  pub serving : (name : Word) (barrier : Barrier) → (world.machines name).stage ≡ Serves barrier
      → ReadsItsBarrier world name barrier
  -- if that barrier is the last one of the whole stream that counts, the machine's journals have all that counts
  pub active : (name : Word) (barrier : Barrier) → (world.machines name).stage ≡ Serves barrier
      → (count_of world).barrier ≡ barrier
      → (shard : ℕ) → IsPrefix ((count_of world).histories shard) ((world.machines name).journals shard)
  -- each machine's journals begin with what counts as far as it has read, and as far as its position says
  pub journals : (name : Word) (shard : ℕ)
      → IsPrefix ((count_at world (world.machines name).read).histories shard) ((world.machines name).journals shard)
  pub kept : (name : Word) → (world.machines name).kept ≤ (world.machines name).read
  -- what counts is legal, and so is each journal
  pub legal : (place shard : ℕ) → IsLegal MayFollow shard ((count_at world place).histories shard)
  pub recorded : (name : Word) (shard : ℕ) → IsLegal MayFollow shard ((world.machines name).journals shard)

-- two replies of one key, by any machines, before and after any restart, name one record of one shard
pub record HasOneReply (keys : Keys) (world : World) : Type 0 where
  pub same : (first second : Answer) (key : Word) → Contains world.sent first → Contains world.sent second
      → keys.key_of first.shard first.text ≡ Some key → keys.key_of second.shard second.text ≡ Some key
      → first ≡ second

-- if a machine's journals have all that counts, no reply was sent for the key of a record of its journals that doesn't
-- count. So all others may go on without the machine
pub record MayFallBack (keys : Keys) (world : World) : Type 0 where
  pub unsent : (name : Word) (shard index : ℕ) (text : Text) (key : Word) (answer : Answer)
      → ((other : ℕ) → IsPrefix ((count_of world).histories other) ((world.machines name).journals other))
      → slice_get ((world.machines name).journals shard) index ≡ Some text → keys.key_of shard text ≡ Some key
      → Contains world.sent answer → keys.key_of answer.shard answer.text ≡ Some key
      → index < length ((count_of world).histories shard)

-- a machine that reads and then has these journals truncates no record that a reply stands on: if the journal had the
-- records of a reply before, it has them after
pub record CutsUnanswered (world : World) (name : Word) (journals : ℕ → List Text) : Type 0 where
  pub stays : (answer : Answer) → Contains world.sent answer
      → IsPrefix (up_to answer) ((world.machines name).journals answer.shard)
      → IsPrefix (up_to answer) (journals answer.shard)

-- each reply of the first world is one of the second world, and names a record that counts there
pub record KeepsReplies (old new : World) : Type 0 where
  pub sent : IsPrefix old.sent new.sent
  pub count : (answer : Answer) → Contains old.sent answer
      → IsPrefix (up_to answer) ((count_of new).histories answer.shard)

-- a machine's journals have nothing but what counts in the whole stream: no host made a record of them that doesn't
abbrev pub HasOnlyCounted : World → Word → Type 0
HasOnlyCounted world name =
    (shard : ℕ) → IsPrefix ((world.machines name).journals shard) ((count_of world).histories shard)

-- the event may bring a record to the machine's journals that it didn't read: of its host, or of another machine's copies
abbrev pub brings_unread : Word → Event → Bool
brings_unread name (Write message) = false
brings_unread name (Intrude message) = false
brings_unread name (Read other journals) = false
brings_unread name (Call other number barrier) = false
brings_unread name (Record other shard text) = is_word name other
brings_unread name (Look other known) = false
brings_unread name (Publish other records) = false
brings_unread name (Hold other answer) = false
brings_unread name (Reply other answer) = false
brings_unread name (End other keep) = false
brings_unread name (Part other) = false
brings_unread name (Keep other place) = false
brings_unread name (Crash other keep) = false
brings_unread name (Copy other source keep) = is_word name other

-- a machine that reads and then has these journals truncates nothing
pub record CutsNothing (world : World) (name : Word) (journals : ℕ → List Text) : Type 0 where
  pub grows : (shard : ℕ) → IsPrefix ((world.machines name).journals shard) (journals shard)
