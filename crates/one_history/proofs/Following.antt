-- A machine whose journals have nothing but what counts truncates nothing, and this stays so until a host of it records.
use Rattle.std.proofs.Common.{◌≡◌, ℕ, ◌+◌, ◌<◌, true, false, List, [], ◌∷◌, ◌++◌, length, drop, sym, subst, arith, inl, inr}
use Rattle.std.specs.List.{All}
use Rattle.std.proofs.lemmas.Bool.{cond_both, cases_lt}
use Rattle.std.proofs.lemmas.List.Elements.{All-head, All-tail}
use Rattle.one_history.specs.Prefixes.{IsPrefix}
use Rattle.one_history.specs.Streams.{Text, Word, Count, Message, opens, is_word, next_count}
use Rattle.one_history.specs.Machines.{Follows, Machine, World, count_at, count_of, with_machine, next_message, new_world}
use Rattle.one_history.specs.Events.{Successors, Event, Write, Intrude, Read, Call, Record, Look, Publish, Hold, Reply, End, Part, Keep, Crash, Copy}
use Rattle.one_history.specs.Events.{IsSettled, IsAllowed, AreAllowed, CanRead, count_with_next}
use Rattle.one_history.specs.Events.{reads, turned, calls, started, appended, truncated, next, after}
use Rattle.one_history.specs.Promises.{HasOnlyCounted, CutsNothing, brings_unread}
use Rattle.one_history.proofs.Words.{word-same, word-apart}
use Rattle.one_history.proofs.Prefixed.{prefix-refl, prefix-same, prefix-trans, prefix-take, prefix-shorter}
use Rattle.one_history.proofs.Counts.{histories-later, count-next}
use Rattle.one_history.proofs.Runs.{goes-after, goes-counts}

-- a journal that is a prefix of what counts in the end only grows where it is settled, and stays such a prefix
settled-grows : (counts old new whole : List Text) → IsPrefix counts whole → IsPrefix old whole → IsSettled counts old new
    → IsPrefix old new × IsPrefix new whole
settled-grows counts old new whole counted only settled = elim settled [
  | inl stays ↦ (prefix-same old new (sym stays.1), subst (λ (l : List Text). IsPrefix l whole) (sym stays.1) only)
  | inr becomes ↦ elim (cases_lt (length old) (length counts)) [
    | inl shorter ↦ (
      subst (IsPrefix old) (sym becomes.1) (prefix-shorter old counts whole only counted (omega arith)),
      subst (λ (l : List Text). IsPrefix l whole) (sym becomes.1) counted,
    )
    | inr longer ↦ absurd (becomes.0 (prefix-shorter counts old whole counted only longer))
  ]
]

-- what counts with the next message counts in the whole stream
next-counts : (world : World) (name : Word) (shard : ℕ) → (world.machines name).read < length world.stream
    → IsPrefix ((count_with_next world (world.machines name)).histories shard) ((count_of world).histories shard)
next-counts world name shard unread =
    subst (λ (count : Count). IsPrefix (count.histories shard) ((count_of world).histories shard))
    (count-next world.base world.stream (world.machines name).read unread)
    (histories-later world.base world.stream ((world.machines name).read + 1) (length world.stream) shard (omega (arith, unread)))

read-grows : (world : World) (name : Word) (journals : ℕ → List Text) → HasOnlyCounted world name → CanRead world name journals
    → (shard : ℕ) → IsPrefix ((world.machines name).journals shard) (journals shard)
    × IsPrefix (journals shard) ((count_of world).histories shard)
read-grows world name journals only can shard =
    settled-grows ((count_with_next world (world.machines name)).histories shard) ((world.machines name).journals shard) (journals shard)
    ((count_of world).histories shard) (next-counts world name shard can.unread) (only shard) (can.settled shard)

pub only-cuts : (world : World) (name : Word) (journals : ℕ → List Text) → HasOnlyCounted world name → CanRead world name journals
    → CutsNothing world name journals
only-cuts world name journals only can = record { grows = λ shard. (read-grows world name journals only can shard).0 }

-- all journals of a machine are prefixes of these histories
abbrev AreWithin : (ℕ → List Text) → Machine → Type 0
AreWithin histories machine = (shard : ℕ) → IsPrefix (machine.journals shard) (histories shard)

-- a machine that reads has the journals of the event
read-within : (histories : ℕ → List Text) (machine : Machine) (count : Count) (message : Message) (journals : ℕ → List Text)
    → ((shard : ℕ) → IsPrefix (journals shard) (histories shard)) → AreWithin histories (reads machine count message journals)
read-within histories machine count message journals within =
    cond_both (opens count.barrier message) (turned machine (next_count count message) journals)
    (record machine { read = machine.read + 1; journals = journals }) (AreWithin histories) (λ opened. within) (λ other. within)

-- where a machine is put in the place of one
put-within : (histories : ℕ → List Text) (world : World) (name other : Word) (machine : Machine)
    → (is_word name other ≡ true → AreWithin histories machine) → AreWithin histories (world.machines name)
    → AreWithin histories ((with_machine world other machine).machines name)
put-within histories world name other machine own within =
    cond_both (is_word name other) machine (world.machines name) (AreWithin histories) own (λ apart. within)

-- the other machine of an event is this one
here : (world : World) (name other : Word) → HasOnlyCounted world name → is_word name other ≡ true → HasOnlyCounted world other
here world name other only is = subst (HasOnlyCounted world) (word-same name other is) only

-- fewer records of journals
fewer-within : (histories : ℕ → List Text) (machine : Machine) (keep : ℕ → ℕ) → AreWithin histories machine
    → (shard : ℕ) → IsPrefix (truncated machine.journals keep shard) (histories shard)
fewer-within histories machine keep within shard =
    prefix-trans (truncated machine.journals keep shard) (machine.journals shard) (histories shard)
    (prefix-take (keep shard) (machine.journals shard)) (within shard)

module _ (MayFollow : Successors) where
  -- what counts before an event bounds the journals after it
  next-within : (world : World) (name : Word) (event : Event) → IsAllowed MayFollow world event → brings_unread name event ≡ false
      → HasOnlyCounted world name → AreWithin (count_of world).histories ((next world event).machines name)
  next-within world name (Write message) can none only = only
  next-within world name (Intrude message) can none only = only
  next-within world name (Read other journals) can none only =
      put-within (count_of world).histories world name other
      (reads (world.machines other) (count_at world (world.machines other).read) (next_message world (world.machines other)) journals)
      (λ is. read-within (count_of world).histories (world.machines other) (count_at world (world.machines other).read)
      (next_message world (world.machines other)) journals
      (λ shard. (read-grows world other journals (here world name other only is) can shard).1)) only
  next-within world name (Call other number barrier) can none only =
      put-within (count_of world).histories world name other
      (calls (world.machines other) (record { number = number; name = barrier; machine = other }))
      (λ is. here world name other only is) only
  next-within world name (Record other shard text) can none only =
      put-within (count_of world).histories world name other
      (record (world.machines other) { journals = appended (world.machines other).journals shard text })
      (λ is. absurd (word-apart name other none (word-same name other is))) only
  next-within world name (Look other known) can none only =
      put-within (count_of world).histories world name other (record (world.machines other) { known = known })
      (λ is. here world name other only is) only
  next-within world name (Publish other records) can none only = only
  next-within world name (Hold other answer) can none only =
      put-within (count_of world).histories world name other
      (record (world.machines other) { held = (world.machines other).held ++ answer ∷ [] })
      (λ is. here world name other only is) only
  next-within world name (Reply other answer) can none only =
      put-within (count_of world).histories world name other
      (record (world.machines other) { held = drop 1 (world.machines other).held })
      (λ is. here world name other only is) only
  next-within world name (End other keep) can none only =
      put-within (count_of world).histories world name other
      (record (world.machines other) { journals = truncated (world.machines other).journals keep; held = [] })
      (λ is. fewer-within (count_of world).histories (world.machines other) keep (here world name other only is)) only
  next-within world name (Part other) can none only =
      put-within (count_of world).histories world name other (record (world.machines other) { stage = Follows; held = [] })
      (λ is. here world name other only is) only
  next-within world name (Keep other place) can none only =
      put-within (count_of world).histories world name other (record (world.machines other) { kept = place })
      (λ is. here world name other only is) only
  next-within world name (Crash other keep) can none only =
      put-within (count_of world).histories world name other (started (world.machines other) keep)
      (λ is. fewer-within (count_of world).histories (world.machines other) keep (here world name other only is)) only
  next-within world name (Copy other source keep) can none only =
      put-within (count_of world).histories world name other (started (world.machines source) keep)
      (λ is. absurd (word-apart name other none (word-same name other is))) only

  -- and what counts only grows
  next-only : (world : World) (name : Word) (event : Event) → IsAllowed MayFollow world event → brings_unread name event ≡ false
      → HasOnlyCounted world name → HasOnlyCounted (next world event) name
  next-only world name event can none only shard =
      prefix-trans (((next world event).machines name).journals shard) ((count_of world).histories shard)
      ((count_of (next world event)).histories shard) (next-within world name event can none only shard)
      (goes-counts world (next world event) (goes-after world (event ∷ [])) shard)

  pub only-after : (world : World) (name : Word) (events : List Event) → AreAllowed MayFollow world events
      → All (λ event. brings_unread name event ≡ false) events → HasOnlyCounted world name
      → HasOnlyCounted (after world events) name
  only-after world name [] allowed none only = only
  only-after world name (event ∷ events) allowed none only =
      only-after (next world event) name events allowed.1
      (All-tail (λ one. brings_unread name one ≡ false) event events none)
      (next-only world name event allowed.0
      (All-head (λ one. brings_unread name one ≡ false) event events none) only)

-- all machines begin so
pub only-new : (base : ℕ → List Text) (name : Word) → HasOnlyCounted (new_world base) name
only-new base name shard = prefix-refl (base shard)
