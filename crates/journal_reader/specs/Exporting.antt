-- What an export writes of journals: the feed lines of the records of all histories, by shard and index.
use Rattle.std.specs.Prelude.{◌≡◌, ◌⊎◌, ℕ, ◌<◌, Bool, ◌&&◌, ◌==◌, true, false, List, [], ◌∷◌, ◌++◌, length, slice_get}
use Rattle.std.specs.Prelude.{Option, Some, Result, Ok, Err}
use Rattle.std.specs.List.{enumerate_from, flat_map}
use Rattle.std.specs.Io.KnownBytes.{Appends}
use Rattle.issuer_base.specs.Sink.{AppendsFront}
use Rattle.issuer_base.specs.declared.entry.Entry.{Entry}
use Rattle.issuer_base.specs.declared.faults.WriteFault.{WriteFault}
use Rattle.issuer_setup.specs.IssuerSetup.{Setup}
use Rattle.feed_text.specs.FeedText.{feed_line}
use Rattle.journal_reader.specs.Reading.{StopsAfter, has_failed}
use Rattle.journal_reader.specs.Filing.{HasFirstRecords, HasRecords, HaveRecords, HoldsHistory, IsSpared, fault_of, is_bad}
use Rattle.journal_reader.specs.declared.reader.RecordFault.{RecordFault}
use Rattle.journal_reader.specs.declared.export.ExportFault.{ExportFault}
use Rattle.journal_reader.specs.declared.export.ExportFault.TheVariants.{WriteFault as SinkFault, Unread}

-- ---- what is written

-- the feed lines of a shard's history
abbrev pub feed_in : ℕ → List Entry → List ℕ
feed_in shard history = flat_map (λ numbered. feed_line shard numbered.0 numbered.1) (enumerate_from 0 history)

-- the feed of the histories of all shards, in order
abbrev pub feed_text : List (List Entry) → List ℕ
feed_text histories = flat_map (λ numbered. feed_in numbered.0 numbered.1) (enumerate_from 0 histories)

-- the first stores have the records of these histories, and the store of this shard, which is next, begins with those
-- of one more history
pub record HaveFirstRecords {S : Type 0} (bytes : S → Option (List ℕ)) (stores : List S) (shard : ℕ)
    (histories : List (List Entry)) (history : List Entry) : Type 0 where
  pub within : shard < length stores
  pub count_is : length histories ≡ shard
  pub each : (number : ℕ) (store : S) (other : List Entry)
      → slice_get stores number ≡ Some store → slice_get histories number ≡ Some other
      → HasRecords (bytes store) other
  pub next : (store : S) → slice_get stores shard ≡ Some store → HasFirstRecords (bytes store) history

-- the feed of the records before a shard's, and of the shard's first ones
pub record ExportsFirst {S : Type 0} (bytes : S → Option (List ℕ)) (stores : List S) (shard : ℕ)
    (Written : List ℕ → Type 0) : Type 0 where
  pub histories : List (List Entry)
  pub history : List Entry
  pub have : HaveFirstRecords bytes stores shard histories history
  pub written : Written (feed_text (histories ++ history ∷ []))

-- the feed of the records before a shard's, and of all those of the shard that come before what can't be read
pub record ExportsBefore {S : Type 0} (bytes : S → Option (List ℕ)) (stores : List S) (shard : ℕ) (fault : RecordFault)
    (Written : List ℕ → Type 0) : Type 0 where
  pub first : ExportsFirst bytes stores shard Written
  pub stops : (store : S) → slice_get stores shard ≡ Some store → StopsAfter (bytes store) first.history fault

-- the feed of all records
pub record ExportsAll {S : Type 0} (bytes : S → Option (List ℕ)) (stores : List S) (Written : List ℕ → Type 0)
    : Type 0 where
  pub histories : List (List Entry)
  pub have : HaveRecords bytes stores histories
  pub written : Written (feed_text histories)

-- what an export did, by how it ended: the sink has the feed of all records; or that of the records before the one that
-- can't be read; or a proper prefix of the feed of all records, or of some first ones. In the last case the store of the
-- first shard that isn't exported whole may have failed before the sink did, and no other
abbrev pub Exports : {S : Type 0} → (S → Option (List ℕ)) → List S → ((ℕ → Bool) → Type 0) → Option (List ℕ)
    → Option (List ℕ) → Result (Unit {0}) ExportFault → Type 0
Exports bytes stores Counted held_before held_after (Ok done) =
    ExportsAll bytes stores (Appends held_before held_after)
Exports bytes stores Counted held_before held_after (Err (Unread fault shard)) =
    ExportsBefore bytes stores shard fault (Appends held_before held_after)
Exports bytes stores Counted held_before held_after (Err SinkFault) =
    (ExportsAll bytes stores (AppendsFront held_before held_after) × Counted (λ number. false))
    ⊎ ((shard : ℕ) × ExportsFirst bytes stores shard (AppendsFront held_before held_after)
    × (Counted (λ number. false) ⊎ Counted (λ number. shard == number)))

-- ---- blocks

-- a text follows what was due: a part of both was written, and the remainder is due
pub record IsPut (held_before held_after : Option (List ℕ)) (due left text : List ℕ) : Type 0 where
  pub early : List ℕ
  pub written : Appends held_before held_after early
  pub joined : early ++ left ≡ due ++ text

-- a line follows what was due, or the sink failed at a prefix of both
abbrev pub WritesLine : List ℕ → List ℕ → List ℕ → Option (List ℕ) → Option (List ℕ) → Result (Unit {0}) WriteFault
    → Type 0
WritesLine line due left held_before held_after (Ok done) = IsPut held_before held_after due left line
WritesLine line due left held_before held_after (Err fault) = AppendsFront held_before held_after (due ++ line)

-- the feed lines of a shard's records follow what was due: of all, or of those before one that can't be read, and in
-- both cases of as many as were read; or the sink failed at a prefix
abbrev pub ExportsJournal : ℕ → Option (List ℕ) → ℕ → List ℕ → List ℕ → Option (List ℕ) → Option (List ℕ)
    → Result (Unit {0}) ExportFault → Type 0
ExportsJournal shard bytes count due left held_before held_after (Ok done) =
    (history : List Entry) × HasRecords bytes history × (count ≡ length history)
    × IsPut held_before held_after due left (feed_in shard history)
ExportsJournal shard bytes count due left held_before held_after (Err (Unread fault at)) =
    (at ≡ shard) × ((history : List Entry) × HasFirstRecords bytes history × (count ≡ length history)
    × StopsAfter bytes history fault × IsPut held_before held_after due left (feed_in shard history))
ExportsJournal shard bytes count due left held_before held_after (Err SinkFault) =
    (history : List Entry) × HasFirstRecords bytes history
    × AppendsFront held_before held_after (due ++ feed_in shard history)

-- the feed lines of all records are written or due, or those of the first ones; or the sink failed at a prefix
abbrev pub Puts : {S : Type 0} → (S → Option (List ℕ)) → List S → List ℕ → Option (List ℕ) → Option (List ℕ)
    → Result (Unit {0}) ExportFault → Type 0
Puts bytes stores left held_before held_after (Ok done) = ExportsAll bytes stores (IsPut held_before held_after [] left)
Puts bytes stores left held_before held_after (Err (Unread fault shard)) =
    ExportsBefore bytes stores shard fault (IsPut held_before held_after [] left)
Puts bytes stores left held_before held_after (Err SinkFault) =
    (shard : ℕ) × ExportsFirst bytes stores shard (AppendsFront held_before held_after)

-- ---- faults

-- the fault isn't a bad line of a store with these bytes, where they are known to be the text of a legal history
abbrev pub IsSparedJournal : Option (List ℕ) → ℕ → ExportFault → Type 0
IsSparedJournal bytes shard SinkFault = Unit {0}
IsSparedJournal bytes shard (Unread fault at) =
    (issuer : Setup) (history : List Entry) → HoldsHistory issuer shard bytes history → is_bad (fault_of fault) ≡ false

-- the fault isn't a bad line of a store that has such a text
abbrev pub IsSparedIn : {S : Type 0} → (S → Option (List ℕ)) → Setup → List S → ExportFault → Type 0
IsSparedIn bytes issuer stores SinkFault = Unit {0}
IsSparedIn bytes issuer stores (Unread fault shard) =
    (shard < issuer.shards) × IsSpared bytes issuer stores shard (fault_of fault)

-- whether the sink failed
abbrev pub write_failed : Result (Unit {0}) ExportFault → Bool
write_failed (Err SinkFault) = true
write_failed _ = false

-- whether a store failed
abbrev pub read_failed : Result (Unit {0}) ExportFault → Bool
read_failed (Err (Unread fault shard)) = has_failed {X = Unit {0}} (Err fault)
read_failed _ = false

-- whether the store of this shard failed
abbrev pub fails_at : Result (Unit {0}) ExportFault → ℕ → Bool
fails_at (Err (Unread fault shard)) number = (shard == number) && has_failed {X = Unit {0}} (Err fault)
fails_at _ number = false
