-- Why a load stops, stated of the old store and the store.
use Rattle.std.proofs.Common.{◌≡◌, ◌⊎◌, ℕ, List, [], ◌≤◌, length, refl, inl, inr, ⊎_elim, Option, None, Some}
use Rattle.std.proofs.Common.{IfSome, All, Result, Err}
use Rattle.issuer_base.specs.Stores.{BothTold, Disk}
use Rattle.issuer_base.specs.declared.entry.Entry.{Entry}
use Rattle.card_history.specs.LegalRecords.{IsLegalHistory}
use Rattle.issuer_setup.specs.IssuerSetup.{Setup}
use Rattle.journal_rec.specs.Record.{IsRecord}
use Rattle.journal_rec.specs.RecordText.{journal_text}
use Rattle.journal_store.specs.Images.{OnlyReads}
use Rattle.journal_store.proofs.ReadSoFar.{reads-then}
use Rattle.shard_book.specs.declared.replay.LoadFault.{LoadFault}
use Rattle.shard_book.specs.declared.replay.LoadFault.TheVariants.{OldLine, OldRecord, BadLine, BadRecord, StoreFault, NoMemory}
use Rattle.shard_book.specs.declared.replay.Version.TheVariants.{One, Two}
use Rattle.shard_book.specs.Grounds.{grounds_old}
use Rattle.shard_book.specs.Loading.{IsOutside, StopsAt, StopsJournal, StopsReplay, StopsText, is_by_store, is_store_failure}
use Rattle.shard_book.specs.Migrating.{DiffersIn, StopsShort}
use Rattle.shard_book.specs.Shards.{IsCutToText, IsMigrated, LeavesBytes, LeavesDisk}
use Rattle.shard_book.specs.Versions.{HasText}
use Rattle.shard_book.proofs.LoadCrash.{crash-read}

-- both stores expose their bytes, or neither does
abbrev Alike : Option (List ℕ) → Option (List ℕ) → Type 0
Alike one other = BothTold (λ _ _. Unit {0}) one other

-- a bad line of the store is none of the old one
not-old_line : {X : Type 0} (line number : ℕ) → OldLine line ≡ BadLine number → X
not-old_line line number same = absurd (cc)

not-old_record : {X : Type 0} (line number : ℕ) → OldRecord line ≡ BadLine number → X
not-old_record line number same = absurd (cc)

-- a fault that the old store's bytes give is one of theirs
not-line : (issuer : Setup) (shard : ℕ) (bytes : List ℕ) (line : ℕ) → StopsAt One issuer shard [] bytes (BadLine line) → ⊥
not-line issuer shard bytes line stops = ⊎_elim (λ bad. let is = bad.0 in absurd (cc)) (λ bad. let is = bad.0 in absurd (cc)) stops.bad

not-record : (issuer : Setup) (shard : ℕ) (bytes : List ℕ) (line : ℕ) → StopsAt One issuer shard [] bytes (BadRecord line) → ⊥
not-record issuer shard bytes line stops = ⊎_elim (λ bad. let is = bad.0 in absurd (cc)) (λ bad. let is = bad.0 in absurd (cc)) stops.bad

old-line : (issuer : Setup) (shard : ℕ) (old : List Entry) (bytes : List ℕ) (line : ℕ) → StopsAt Two issuer shard old bytes (OldLine line) → ⊥
old-line issuer shard old bytes line stops = ⊎_elim (λ bad. let is = bad.0 in absurd (cc)) (λ bad. let is = bad.0 in absurd (cc)) stops.bad

old-record : (issuer : Setup) (shard : ℕ) (old : List Entry) (bytes : List ℕ) (line : ℕ) → StopsAt Two issuer shard old bytes (OldRecord line) → ⊥
old-record issuer shard old bytes line stops = ⊎_elim (λ bad. let is = bad.0 in absurd (cc)) (λ bad. let is = bad.0 in absurd (cc)) stops.bad

module _ (issuer : Setup) (shard : ℕ) where
  -- the old store's bytes have a bad line
  pub stops-old : (old_bytes bytes : Option (List ℕ)) (fault : LoadFault) → StopsReplay One issuer shard [] old_bytes fault
      → StopsText issuer shard old_bytes bytes fault
  stops-old old_bytes bytes StoreFault stops = tt
  stops-old old_bytes bytes NoMemory stops = tt
  stops-old old_bytes bytes (OldLine line) stops = ⊎_elim (λ (out : IsOutside (OldLine line)). absurd out) (λ is. is) stops
  stops-old old_bytes bytes (OldRecord line) stops = ⊎_elim (λ (out : IsOutside (OldRecord line)). absurd out) (λ is. is) stops
  stops-old None bytes (BadLine line) stops = tt
  stops-old (Some text) bytes (BadLine line) stops =
      ⊎_elim (λ (out : IsOutside (BadLine line)). absurd out) (λ is. absurd (not-line issuer shard text line is)) stops
  stops-old None bytes (BadRecord line) stops = tt
  stops-old (Some text) bytes (BadRecord line) stops =
      ⊎_elim (λ (out : IsOutside (BadRecord line)). absurd out) (λ is. absurd (not-record issuer shard text line is)) stops

  module _ (old : List Entry) (records : All IsRecord old) (legal : IsLegalHistory (grounds_old issuer) shard old) where
    -- what the store's bytes give, if both are observable
    abbrev StopsBoth : List ℕ → LoadFault → Type 0
    StopsBoth bytes fault = DiffersIn (journal_text old) bytes fault ⊎ StopsAt Two issuer shard old bytes fault

    no-old : (bytes : List ℕ) (line : ℕ) → StopsBoth bytes (OldLine line) → ⊥
    no-old bytes line = ⊎_elim (λ differs. not-old_line line differs.0 differs.1) (λ stops. old-line issuer shard old bytes line stops)

    no-old_record : (bytes : List ℕ) (line : ℕ) → StopsBoth bytes (OldRecord line) → ⊥
    no-old_record bytes line = ⊎_elim (λ differs. not-old_record line differs.0 differs.1) (λ stops. old-record issuer shard old bytes line stops)

    journal-stops : (old_text text : List ℕ) (fault : LoadFault) → HasText One old old_text → StopsBoth text fault
        → StopsJournal issuer shard old_text text fault
    journal-stops old_text text fault has stops =
        record { old = old; old_is = record { text_is = has; records = records; legal = legal }; stops = stops }

    -- the store's bytes differ from the old history's text, or have a bad line
    pub stops-journal : (old_bytes bytes : Option (List ℕ)) (fault : LoadFault) → Alike old_bytes bytes → IfSome old_bytes (HasText One old)
        → IsOutside fault ⊎ IfSome bytes (λ text. StopsBoth text fault) → StopsText issuer shard old_bytes bytes fault
    stops-journal old_bytes bytes StoreFault alike has stops = tt
    stops-journal old_bytes bytes NoMemory alike has stops = tt
    stops-journal None bytes (OldLine line) alike has stops = tt
    stops-journal (Some old_text) None (OldLine line) alike has stops = absurd alike
    stops-journal (Some old_text) (Some text) (OldLine line) alike has stops =
        ⊎_elim (λ (out : IsOutside (OldLine line)). absurd out) (λ is. absurd (no-old text line is)) stops
    stops-journal None bytes (OldRecord line) alike has stops = tt
    stops-journal (Some old_text) None (OldRecord line) alike has stops = absurd alike
    stops-journal (Some old_text) (Some text) (OldRecord line) alike has stops =
        ⊎_elim (λ (out : IsOutside (OldRecord line)). absurd out) (λ is. absurd (no-old_record text line is)) stops
    stops-journal None bytes (BadLine line) alike has stops = tt
    stops-journal (Some old_text) None (BadLine line) alike has stops = tt
    stops-journal (Some old_text) (Some text) (BadLine line) alike has stops =
        ⊎_elim (λ (out : IsOutside (BadLine line)). absurd out) (λ is. journal-stops old_text text (BadLine line) has is) stops
    stops-journal None bytes (BadRecord line) alike has stops = tt
    stops-journal (Some old_text) None (BadRecord line) alike has stops = tt
    stops-journal (Some old_text) (Some text) (BadRecord line) alike has stops =
        ⊎_elim (λ (out : IsOutside (BadRecord line)). absurd out) (λ is. journal-stops old_text text (BadRecord line) has is) stops

    pub stops-differ : (old_bytes bytes : Option (List ℕ)) (fault : LoadFault) → Alike old_bytes bytes → IfSome old_bytes (HasText One old)
        → IsOutside fault ⊎ IfSome bytes (λ text. DiffersIn (journal_text old) text fault) → StopsText issuer shard old_bytes bytes fault
    stops-differ old_bytes None fault alike has stops =
        stops-journal old_bytes None fault alike has (⊎_elim (λ (out : IsOutside fault). inl out) (λ is. inr tt) stops)
    stops-differ old_bytes (Some text) fault alike has stops =
        stops-journal old_bytes (Some text) fault alike has (⊎_elim (λ (out : IsOutside fault). inl out) (λ is. inr (inl is)) stops)

    pub stops-after : (old_bytes bytes : Option (List ℕ)) (fault : LoadFault) → Alike old_bytes bytes → IfSome old_bytes (HasText One old)
        → StopsReplay Two issuer shard old bytes fault → StopsText issuer shard old_bytes bytes fault
    stops-after old_bytes None fault alike has stops =
        stops-journal old_bytes None fault alike has (⊎_elim (λ (out : IsOutside fault). inl out) (λ is. inr tt) stops)
    stops-after old_bytes (Some text) fault alike has stops =
        stops-journal old_bytes (Some text) fault alike has (⊎_elim (λ (out : IsOutside fault). inl out) (λ is. inr (inr is)) stops)

-- ---- what stays where the store was only read

told-same : (old_bytes old new : Option (List ℕ)) → new ≡ old
    → BothTold (λ before after. (after ≡ before)
    ⊎ (IsMigrated old_bytes before after × (length before ≤ length after)) ⊎ IsCutToText before after) old new
told-same old_bytes None None same = tt
told-same old_bytes None (Some after) same = absurd (cc)
told-same old_bytes (Some before) None same = absurd (cc)
told-same old_bytes (Some before) (Some after) same = inl (let is : after ≡ before = cc in is)

-- the bytes stayed
leaves-bytes : (fault : LoadFault) (old_bytes old new : Option (List ℕ)) → new ≡ old → LeavesBytes fault old_bytes old new
leaves-bytes StoreFault old_bytes old new same = told-same old_bytes old new same
leaves-bytes NoMemory old_bytes old new same = same
leaves-bytes (OldLine number) old_bytes old new same = same
leaves-bytes (OldRecord number) old_bytes old new same = same
leaves-bytes (BadLine number) old_bytes old new same = same
leaves-bytes (BadRecord number) old_bytes old new same = same

-- the disk went through reads alone
leaves-disk : (fault : LoadFault) (old new : Option Disk) → BothTold OnlyReads old new → LeavesDisk fault old new
leaves-disk StoreFault old new reads = tt
leaves-disk NoMemory old new reads = reads
leaves-disk (OldLine number) old new reads = reads
leaves-disk (OldRecord number) old new reads = reads
leaves-disk (BadLine number) old new reads = reads
leaves-disk (BadRecord number) old new reads = reads

-- reads, and then more reads unless the store failed
pub still-then : (fault : LoadFault) (a b c : Option Disk) → BothTold OnlyReads a b → LeavesDisk fault b c → LeavesDisk fault a c
still-then StoreFault a b c reads still = tt
still-then NoMemory a b c reads still = reads-then a b c reads still
still-then (OldLine number) a b c reads still = reads-then a b c reads still
still-then (OldRecord number) a b c reads still = reads-then a b c reads still
still-then (BadLine number) a b c reads still = reads-then a b c reads still
still-then (BadRecord number) a b c reads still = reads-then a b c reads still

-- a load that stops before it changes the store
pub stops-read : (issuer : Setup) (shard : ℕ) (old_bytes bytes now : Option (List ℕ)) (disk disk_now : Option Disk) (fault : LoadFault)
    → StopsText issuer shard old_bytes bytes fault → now ≡ bytes → BothTold OnlyReads disk disk_now
    → StopsShort issuer shard old_bytes bytes now disk disk_now fault
stops-read issuer shard old_bytes bytes now disk disk_now fault stops same reads = record {
  stops = stops;
  kept = leaves-bytes fault old_bytes bytes now same;
  still = leaves-disk fault disk disk_now reads;
  leaves = crash-read old_bytes disk disk_now reads;
}

-- the store is the reason in either form
pub reasons-alike : (X : Type 0) (fault : LoadFault) → let failed : Result X LoadFault = Err fault in is_by_store failed ≡ is_store_failure fault
reasons-alike X StoreFault = refl
reasons-alike X NoMemory = refl
reasons-alike X (OldLine number) = refl
reasons-alike X (OldRecord number) = refl
reasons-alike X (BadLine number) = refl
reasons-alike X (BadRecord number) = refl
