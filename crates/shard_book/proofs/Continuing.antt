-- A journal that is continued after the old one: what the rows stand for then, and what is left where that fails.
use Rattle.std.proofs.Common.{◌≡◌, ◌≤◌, ◌+◌, ℕ, List, [], ◌++◌, length, take, refl, sym, ap, subst, ◌∙◌, inl, inr, ⊎_elim, arith, Option, None, Some, IfSome, Result, Ok, Err, append-nil}
use Rattle.std.specs.Option.{IsSomeAnd}
use Rattle.std.proofs.lemmas.List.{take_all, take_at}
use Rattle.std.proofs.lemmas.List.Elements.{All-nil}
use Rattle.std.proofs.Common.{◌≢◌}
use Rattle.std.proofs.lemmas.Option.{slice_get_within}
use Rattle.issuer_base.specs.Stores.{BothTold, Disk, LeavesOnly}
use Rattle.card_history.specs.LegalRecords.{IsLegalHistory}
use Rattle.journal_rec.specs.Record.{IsRecord}
use Rattle.shard_book.specs.Grounds.{grounds_old}
use Rattle.issuer_setup.specs.IssuerSetup.{Setup}
use Rattle.journal_rec.specs.RecordText.{newline, texts_of, journal_text, version_line}
use Rattle.journal_store.specs.Images.{OnlyReads}
use Rattle.shard_book.specs.declared.replay.LoadFault.TheVariants.{StoreFault}
use Rattle.shard_book.specs.declared.replay.LoadFault.{LoadFault}
use Rattle.shard_book.specs.declared.replay.Taken.{Taken}
use Rattle.shard_book.specs.declared.replay.TakenOver.{TakenOver}
use Rattle.shard_book.specs.declared.replay.Version.TheVariants.{One, Two}
use Rattle.shard_book.specs.Loading.{ReadsFront, ReadsText, StopsText}
use Rattle.shard_book.specs.Migrating.{Agree, Continues, EndsReading, IsTextAfter, Moves, PassesMoving, StopsShort}
use Rattle.shard_book.specs.ShardRows.{ShardRows, RowsStandFor}
use Rattle.shard_book.specs.Shards.{IsFailedImage, LeavesBytes}
use Rattle.shard_book.specs.Versions.{HasText, IsPartOf}
use Rattle.shard_book.proofs.Histories.{goes-none}
use Rattle.shard_book.proofs.LegalDecisions.{wider-history}
use Rattle.shard_book.proofs.LoadCrash.{crash-moving, crash-then}
use Rattle.shard_book.proofs.LoadStops.{still-then}
use Rattle.shard_book.proofs.LoadResults.{known-disk, known-old}
use Rattle.shard_book.proofs.Migration.{agree-front, agree-part, moving-none, moving-then, part-length}

-- ---- before the first read, and after it

-- nothing was replayed
pub reads-start : (issuer : Setup) (shard : ℕ) (bytes : Option (List ℕ)) (rows : ShardRows) → RowsStandFor issuer rows []
    → ReadsFront One issuer shard [] bytes rows (record { records = 0; bytes = 0 })
reads-start issuer shard bytes rows stands = record {
  history = [];
  goes_on = ([], refl);
  front_is = nothing bytes;
  records = All-nil IsRecord;
  legal = λ place entry at. let within = slice_get_within [] place entry at in absurd (omega arith);
  stands = stands;
  count_is = refl;
  sure_is = refl;
}
  where
    nothing : (bytes : Option (List ℕ)) → IfSome bytes (λ text. take 0 text ≡ texts_of [])
    nothing None = tt
    nothing (Some text) = refl

-- what was read, stated of the rows' own shard and of the store afterwards
abbrev pub reads-later : (issuer : Setup) (shard other : ℕ) (bytes now : Option (List ℕ)) (rows : ShardRows) (taken : Taken) → other ≡ shard → now ≡ bytes
    → ReadsText One issuer shard [] bytes rows taken → ReadsText One issuer other [] now rows taken
reads-later issuer shard other bytes now rows taken shard_is bytes_are reads = record {
  history = reads.history;
  goes_on = reads.goes_on;
  text_is = subst (λ (bytes : Option (List ℕ)). IfSome bytes (HasText One reads.history)) (sym bytes_are) reads.text_is;
  records = reads.records;
  legal = subst (λ (shard : ℕ). IsLegalHistory (grounds_old issuer) shard reads.history) (sym shard_is) reads.legal;
  stands = reads.stands;
  count_is = reads.count_is;
  sure_is = reads.sure_is;
}

-- the store was only read before it was continued
pub continues-from : (issuer : Setup) (shard other : ℕ) (old_bytes old_now bytes mid now : Option (List ℕ)) (disk disk_mid disk_now : Option Disk)
    (rows : ShardRows) (taken : Taken) → other ≡ shard → old_now ≡ old_bytes → mid ≡ bytes → BothTold OnlyReads disk disk_mid
    → Continues issuer other old_now mid now disk_mid disk_now rows taken → Continues issuer shard old_bytes bytes now disk disk_now rows taken
continues-from issuer shard other old_bytes old_now bytes mid now disk disk_mid disk_now rows taken shard_is old_is bytes_are reads its = record {
  old = its.old;
  old_text_is = subst (λ (bytes : Option (List ℕ)). IfSome bytes (HasText One its.old)) old_is its.old_text_is;
  old_records = its.old_records;
  old_legal = subst (λ (shard : ℕ). IsLegalHistory (grounds_old issuer) shard its.old) shard_is its.old_legal;
  moves = subst (λ (bytes : Option (List ℕ)). BothTold (Moves (journal_text its.old)) bytes now) bytes_are its.moves;
  passes = moving-then (journal_text its.old) disk disk_mid disk_now (moving-none (journal_text its.old) disk disk_mid reads) its.passes;
  reads = subst (λ (shard : ℕ). ReadsText Two issuer shard its.old now rows taken) shard_is its.reads;
}

-- and before that failed
pub stops-from : (issuer : Setup) (shard other : ℕ) (old_bytes old_now bytes mid now : Option (List ℕ)) (disk disk_mid disk_now : Option Disk)
    (fault : LoadFault) → other ≡ shard → old_now ≡ old_bytes → mid ≡ bytes → BothTold OnlyReads disk disk_mid
    → StopsShort issuer other old_now mid now disk_mid disk_now fault → StopsShort issuer shard old_bytes bytes now disk disk_now fault
stops-from issuer shard other old_bytes old_now bytes mid now disk disk_mid disk_now fault shard_is old_is bytes_are reads its = record {
  stops =
      subst (λ (shard : ℕ). StopsText issuer shard old_bytes bytes fault) shard_is
      (subst (λ (old_bytes : Option (List ℕ)). StopsText issuer other old_bytes bytes fault) old_is
      (subst (λ (bytes : Option (List ℕ)). StopsText issuer other old_now bytes fault) bytes_are its.stops));
  kept =
      subst (λ (old_bytes : Option (List ℕ)). LeavesBytes fault old_bytes bytes now) old_is
      (subst (λ (bytes : Option (List ℕ)). LeavesBytes fault old_now bytes now) bytes_are its.kept);
  still = still-then fault disk disk_mid disk_now reads its.still;
  leaves =
      subst (λ (old_bytes : Option (List ℕ)). BothTold (λ before after. LeavesOnly (IsFailedImage old_bytes before.now) before after) disk disk_now) old_is
      (crash-then old_now disk disk_mid disk_now reads its.leaves);
}

-- however it ended
pub ends-from : (issuer : Setup) (shard other : ℕ) (old_bytes old_now bytes mid now : Option (List ℕ)) (disk disk_mid disk_now : Option Disk)
    (result : Result TakenOver LoadFault) → other ≡ shard → old_now ≡ old_bytes → mid ≡ bytes → BothTold OnlyReads disk disk_mid
    → EndsReading issuer other old_now mid now disk_mid disk_now result → EndsReading issuer shard old_bytes bytes now disk disk_now result
ends-from issuer shard other old_bytes old_now bytes mid now disk disk_mid disk_now (Ok over) shard_is old_is bytes_are reads its =
    continues-from issuer shard other old_bytes old_now bytes mid now disk disk_mid disk_now over.rows over.taken shard_is old_is bytes_are reads its
ends-from issuer shard other old_bytes old_now bytes mid now disk disk_mid disk_now (Err fault) shard_is old_is bytes_are reads its =
    stops-from issuer shard other old_bytes old_now bytes mid now disk disk_mid disk_now fault shard_is old_is bytes_are reads its

-- ---- the store is continued

-- the bytes stayed
told-still : (text : List ℕ) (bytes now : Option (List ℕ)) → now ≡ bytes → BothTold (Moves text) bytes now
told-still text None None same = tt
told-still text None (Some after) same = absurd (cc)
told-still text (Some before) None same = absurd (cc)
told-still text (Some before) (Some after) same = inl (let is : after ≡ before = cc in is)

-- or they were a part of the text, and are
told-moved : (text : List ℕ) (bytes now : Option (List ℕ)) (size later : ℕ) → BothTold (λ _ _. Unit {0}) bytes now → IfSome bytes (IsPartOf text)
    → IfSome now (IsPartOf text) → IfSome bytes (λ told. size ≡ length told) → IfSome now (λ told. later ≡ length told) → size ≤ later
    → BothTold (Moves text) bytes now
told-moved text None None size later alike was is sized long grows = tt
told-moved text None (Some after) size later alike was is sized long grows = absurd alike
told-moved text (Some before) None size later alike was is sized long grows = absurd alike
told-moved text (Some before) (Some after) size later alike was is sized long grows = inr (was, is, omega (arith, sized, long, grows))

module _ (issuer : Setup) (shard : ℕ) (rows : ShardRows) (known : Taken) (old_bytes : Option (List ℕ))
    (reads : ReadsText One issuer shard [] old_bytes rows known) where
  abbrev text : List ℕ
  text = journal_text reads.history

  long : length text ≡ 3 + known.bytes
  long = let is = reads.sure_is in omega (arith, is)

  text-copies : (bytes : Option (List ℕ)) → IfSome bytes (HasText One reads.history) → IfSome bytes (λ told. text ≡ version_line ++ take known.bytes told)
  text-copies None has = tt
  text-copies (Some told) has =
      ap (λ l. version_line ++ l)
      (sym (ap (take known.bytes) has.text_is ∙ take_at (texts_of reads.history) has.rest known.bytes (sym reads.sure_is)))

  -- the text is that of the old store
  pub text-after : IsTextAfter old_bytes known.bytes text
  text-after = record { long = long; text_is = text-copies old_bytes reads.text_is }

  -- what was taken of the store
  abbrev from : Taken
  from = record { records = known.records; bytes = 3 + known.bytes }

  front-is : (bytes : Option (List ℕ)) (size : ℕ) → IfSome bytes (Agree text) → IfSome bytes (λ told. size ≡ length told) → 3 + known.bytes ≤ size
      → IfSome bytes (λ told. take (3 + known.bytes) told ≡ text)
  front-is None size agree sized longer = tt
  front-is (Some told) size agree sized longer =
      ap (λ n. take n told) (sym long) ∙ agree-front text told agree (omega (arith, long, sized, longer))

  -- the store begins with the text
  pub front-two : (bytes : Option (List ℕ)) (size : ℕ) → IfSome bytes (Agree text) → IfSome bytes (λ told. size ≡ length told) → 3 + known.bytes ≤ size
      → ReadsFront Two issuer shard reads.history bytes rows from
  front-two bytes size agree sized longer = record {
    history = reads.history;
    goes_on = goes-none reads.history;
    front_is = front-is bytes size agree sized longer;
    records = reads.records;
    legal = wider-history issuer shard reads.history reads.legal;
    stands = reads.stands;
    count_is = reads.count_is;
    sure_is = sym long;
  }

  text-is : (now : Option (List ℕ)) (size : ℕ) → IfSome now (IsPartOf text) → IfSome now (λ told. size ≡ length told) → size ≡ 3 + known.bytes
      → IfSome now (HasText Two reads.history)
  text-is None size part sized whole = tt
  text-is (Some told) size part sized whole =
      let is : told ≡ text = part-length text told part ∙ take_all (length told) text (omega (arith, long, sized, whole)) in
      record { rest = []; text_is = is ∙ sym (append-nil text); unbroken = All-nil (λ byte. byte ≢ newline) }

  -- or it has just the text
  pub text-two : (now : Option (List ℕ)) (size : ℕ) → IfSome now (IsPartOf text) → IfSome now (λ told. size ≡ length told) → size ≡ 3 + known.bytes
      → ReadsText Two issuer shard reads.history now rows from
  text-two now size part sized whole = record {
    history = reads.history;
    goes_on = goes-none reads.history;
    text_is = text-is now size part sized whole;
    records = reads.records;
    legal = wider-history issuer shard reads.history reads.legal;
    stands = reads.stands;
    count_is = reads.count_is;
    sure_is = sym long;
  }

  -- a store that agrees with the text and is no longer has a part of it
  pub agrees-part : (bytes : Option (List ℕ)) (size : ℕ) → IfSome bytes (Agree text) → IfSome bytes (λ told. size ≡ length told) → size ≤ 3 + known.bytes
      → IfSome bytes (IsPartOf text)
  agrees-part None size agree sized shorter = tt
  agrees-part (Some told) size agree sized shorter = agree-part text told agree (omega (arith, long, sized, shorter))

  module _ (bytes now : Option (List ℕ)) (disk disk_now : Option Disk) where
    -- its further records were replayed
    pub continues-read : (over : ShardRows) (taken : Taken) → now ≡ bytes → BothTold OnlyReads disk disk_now
        → ReadsText Two issuer shard reads.history bytes over taken → Continues issuer shard old_bytes bytes now disk disk_now over taken
    continues-read over taken same only more = record {
      old = reads.history;
      old_text_is = reads.text_is;
      old_records = reads.records;
      old_legal = reads.legal;
      moves = told-still text bytes now same;
      passes = moving-none text disk disk_now only;
      reads = subst (λ (bytes : Option (List ℕ)). ReadsText Two issuer shard reads.history bytes over taken) (sym same) more;
    }

    module _ (size later : ℕ) (alike : BothTold (λ _ _. Unit {0}) bytes now) (was : IfSome bytes (IsPartOf text)) (is : IfSome now (IsPartOf text))
        (sized : IfSome bytes (λ told. size ≡ length told)) (late : IfSome now (λ told. later ≡ length told)) (grows : size ≤ later)
        (passes : BothTold (PassesMoving text) disk disk_now) where
      -- it was migrated
      pub continues-moved : later ≡ 3 + known.bytes → Continues issuer shard old_bytes bytes now disk disk_now rows from
      continues-moved whole = record {
        old = reads.history;
        old_text_is = reads.text_is;
        old_records = reads.records;
        old_legal = reads.legal;
        moves = told-moved text bytes now size later alike was is sized late grows;
        passes = passes;
        reads = text-two now later is late whole;
      }

      moved-bytes : (a b : Option (List ℕ)) → IfSome a (λ _. IsSomeAnd old_bytes (HasText One reads.history)) → BothTold (Moves text) a b
          → LeavesBytes StoreFault old_bytes a b
      moved-bytes None None has moves = tt
      moved-bytes None (Some after) has moves = absurd moves
      moved-bytes (Some before) None has moves = absurd moves
      moved-bytes (Some before) (Some after) has moves = ⊎_elim
          (λ (same : after ≡ before). inl same)
          (λ (moved : IsPartOf text before × IsPartOf text after × (length before ≤ length after)).
          inr (inl (record { old = reads.history; records = reads.records; old_text_is = has; was = moved.0; now = moved.1 }, moved.2)))
          moves

      -- or the store failed meanwhile
      pub stops-moved : BothTold (λ _ _. Unit {0}) old_bytes bytes → IfSome disk (λ disk. bytes ≡ Some disk.now.bytes)
          → StopsShort issuer shard old_bytes bytes now disk disk_now StoreFault
      stops-moved same_type told =
          let has = known-old old_bytes bytes (HasText One reads.history) same_type reads.text_is in
          record {
            stops = tt;
            kept = moved-bytes bytes now has (told-moved text bytes now size later alike was is sized late grows);
            still = tt;
            leaves =
                crash-moving reads.history reads.history reads.records reads.records old_bytes disk disk_now
                (known-disk bytes disk (IsSomeAnd old_bytes (HasText One reads.history)) told has) passes;
          }
