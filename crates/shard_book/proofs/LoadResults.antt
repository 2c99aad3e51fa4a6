-- What is stated of a shard that was loaded, or of stores that weren't, as one record.
use Rattle.std.proofs.Common.{◌≡◌, ◌⊎◌, ◌≤◌, ℕ, List, [], ◌++◌, length, take, true, false, refl, sym, ap, subst, ◌∙◌, inl, inr, ⊎_elim, arith}
use Rattle.std.proofs.Common.{Option, None, Some, Result, Ok, Err, IfOk, IfErr, IfSome, MatchResult, All, length-take}
use Rattle.std.specs.Option.{IsSomeAnd}
use Rattle.std.proofs.lemmas.List.{take_all, take_at}
use Rattle.issuer_base.specs.OutsideFaults.{CountsFaults}
use Rattle.issuer_base.specs.Stores.{BothTold, CutsBytes, Disk, HasRoom, LeavesOnly}
use Rattle.issuer_base.specs.Tells.{Tells}
use Rattle.issuer_base.specs.declared.entry.Entry.{Entry}
use Rattle.issuer_base.specs.declared.outside.store.Store.{Ghosts}
use Rattle.issuer_base.proofs.ManyCalls.{CountsFaults-then}
use Rattle.issuer_setup.specs.IssuerSetup.{Setup}
use Rattle.journal_rec.specs.Record.{IsRecord}
use Rattle.journal_rec.specs.RecordText.{journal_text}
use Rattle.journal_store.specs.Holding.{Holds}
use Rattle.journal_store.specs.Images.{IsCutImage}
use Rattle.journal_store.specs.Opening.{IsNotOpened}
use Rattle.shard_book.specs.declared.replay.LoadFault.{LoadFault}
use Rattle.shard_book.specs.declared.replay.LoadFault.TheVariants.{StoreFault}
use Rattle.shard_book.specs.declared.replay.Taken.{Taken}
use Rattle.shard_book.specs.declared.replay.Version.TheVariants.{One, Two}
use Rattle.shard_book.specs.declared.shard.LoadBack.{LoadBack}
use Rattle.shard_book.specs.declared.shard.Shard.{Shard}
use Rattle.shard_book.specs.Histories.{GoesOn}
use Rattle.shard_book.specs.Loading.{IsWithin, StopsText, is_store_failure}
use Rattle.shard_book.specs.Loads.{CountsBoth, HaveRoom, IsLoadedFrom, IsNotLoaded, IsOpenedFrom, loaded_size}
use Rattle.shard_book.specs.Migrating.{Continues, Moves}
use Rattle.shard_book.specs.Room.{LoadsWithin}
use Rattle.shard_book.specs.ShardRows.{ShardRows, AreRowsOf, RowsStandFor}
use Rattle.shard_book.specs.Shards.{disk_in, faults_in, IsJournalOf, IsLoaded}
use Rattle.shard_book.specs.Shards.{IsCutToText, IsMigrated, IsTakenFor, LeavesBytes}
use Rattle.shard_book.specs.Versions.{HasText, IsPartOf}
use Rattle.shard_book.proofs.BothStores.{counts-still}
use Rattle.shard_book.proofs.Exactly.{part-whole}
use Rattle.shard_book.proofs.LoadCrash.{crash-failed, crash-opened}

-- ---- what a load makes of the bytes

-- a text and a torn last line, if they are observable
told-text : (history : List Entry) (bytes : Option (List ℕ)) → IfSome bytes (HasText Two history)
    → (rest : List ℕ) × Tells bytes (journal_text history ++ rest)
told-text history None has = ([], tt)
told-text history (Some bytes) has = (has.rest, has.text_is)

-- of stores of one type
pub known-old : (old_bytes bytes : Option (List ℕ)) (P : List ℕ → Type 0) → BothTold (λ _ _. Unit {0}) old_bytes bytes → IfSome old_bytes P
    → IfSome bytes (λ _. IsSomeAnd old_bytes P)
known-old None None P alike has = tt
known-old None (Some told) P alike has = absurd alike
known-old (Some old_told) None P alike has = tt
known-old (Some old_told) (Some told) P alike has = has

pub known-disk : (bytes : Option (List ℕ)) (disk : Option Disk) (P : Type 0) → IfSome disk (λ disk. bytes ≡ Some disk.now.bytes)
    → IfSome bytes (λ _. P) → IfSome disk (λ _. P)
known-disk bytes None P told is = tt
known-disk bytes (Some disk) P told is = subst (λ (bytes : Option (List ℕ)). IfSome bytes (λ _. P)) told is

module _ (old history : List Entry) (on : GoesOn old history) (old_records : All IsRecord old) (records : All IsRecord history) where
  -- what the store's bytes were taken for
  pub taken-for : (bytes mid : Option (List ℕ)) → BothTold (Moves (journal_text old)) bytes mid → IfSome mid (HasText Two history)
      → IfSome bytes (IsTakenFor old history)
  taken-for None None moves has = tt
  taken-for None (Some mid) moves has = tt
  taken-for (Some bytes) None moves has = absurd moves
  taken-for (Some bytes) (Some mid) moves has = ⊎_elim
      (λ (same : mid ≡ bytes). inr (subst (HasText Two history) same has))
      (λ (moved : IsPartOf (journal_text old) bytes × IsPartOf (journal_text old) mid × (length bytes ≤ length mid)).
      inl (part-whole old history mid on records moved.1 has, moved.0))
      moves

  -- what is left where the journal couldn't be opened
  module _ (old_bytes : Option (List ℕ)) (sure : ℕ) (sure_is : sure ≡ length (journal_text history)) where
    left-bytes : (bytes mid new : List ℕ) → IsSomeAnd old_bytes (HasText One old) → Moves (journal_text old) bytes mid → HasText Two history mid
        → CutsBytes sure true mid new
        → (new ≡ bytes) ⊎ (IsMigrated old_bytes bytes new × (length bytes ≤ length new)) ⊎ IsCutToText bytes new
    left-bytes bytes mid new known moves has cuts = ⊎_elim
        (λ (same : mid ≡ bytes). ⊎_elim (λ (kept : new ≡ mid). inl (kept ∙ same))
        (λ (cut : new ≡ take sure mid). inr (inr (record {
          history = history;
          records = records;
          text_is = subst (HasText Two history) same has;
          cut = cut ∙ ap (take sure) has.text_is ∙ take_at (journal_text history) has.rest sure (sym sure_is);
        }))) cuts)
        (λ (moved : IsPartOf (journal_text old) bytes × IsPartOf (journal_text old) mid × (length bytes ≤ length mid)).
        let same = part-whole old history mid on records moved.1 has in
        let short = ap length moved.1.part_is ∙ length-take moved.1.kept (journal_text old) in
        let whole : take sure mid ≡ mid =
        take_all sure mid (let longs = ap (λ (h : List Entry). length (journal_text h)) same in omega (arith, short, sure_is, longs)) in
        let is : new ≡ mid = ⊎_elim (λ (kept : new ≡ mid). kept) (λ (cut : new ≡ take sure mid). cut ∙ whole) cuts in
        inr (inl (
          record { old = old; records = old_records; old_text_is = known; was = moved.0; now = subst (IsPartOf (journal_text old)) (sym is) moved.1 },
          subst (λ (new : List ℕ). length bytes ≤ length new) (sym is) moved.2,
        )))
        moves

    pub told-left : (bytes mid new : Option (List ℕ)) → IfSome bytes (λ _. IsSomeAnd old_bytes (HasText One old))
        → BothTold (Moves (journal_text old)) bytes mid → IfSome mid (HasText Two history) → BothTold (CutsBytes sure true) mid new
        → LeavesBytes StoreFault old_bytes bytes new
    told-left None None None known moves has cuts = tt
    told-left None None (Some new) known moves has cuts = absurd cuts
    told-left None (Some mid) new known moves has cuts = absurd moves
    told-left (Some bytes) None new known moves has cuts = absurd moves
    told-left (Some bytes) (Some mid) None known moves has cuts = absurd cuts
    told-left (Some bytes) (Some mid) (Some new) known moves has cuts = left-bytes bytes mid new known moves has cuts

-- ---- the records

-- what holds of a result at `Ok`, and what at `Err`
pub match-ends : {A B : Type 0} (P : A → Type 0) (Q : B → Type 0) (result : Result A B) → IfOk result P → IfErr result Q → MatchResult result P Q
match-ends P Q (Ok value) holds fails = holds
match-ends P Q (Err fault) holds fails = fails

pub match-weaker : {A B : Type 0} (P P' : A → Type 0) (Q Q' : B → Type 0) (result : Result A B) → ((value : A) → P value → P' value)
    → ((fault : B) → Q fault → Q' fault) → MatchResult result P Q → MatchResult result P' Q'
match-weaker P P' Q Q' (Ok value) weaker other holds = weaker value holds
match-weaker P P' Q Q' (Err fault) weaker other fails = other fault fails

-- how the opening of a journal ends
abbrev pub EndsOpening : {S : Type 0} → (G : Ghosts S) → S → ShardRows → Taken → Result (Shard S G) (LoadBack S) → Type 0
EndsOpening G store rows taken result =
    MatchResult result (IsOpenedFrom store rows taken)
    (λ back. (back.fault ≡ StoreFault) × IsNotOpened G.bytes G.disk G.faults store taken.bytes back.store)

module _ {S : Type 0} (G : Ghosts S) where
  module _ (issuer : Setup) (number : ℕ) (old store old_then mid : S) (rows : ShardRows) (taken : Taken)
      (its : Continues issuer number (G.bytes old) (G.bytes store) (G.bytes mid) (G.disk store) (G.disk mid) rows taken)
      (told : IfSome (G.disk mid) (λ disk. G.bytes mid ≡ Some disk.now.bytes)) where
    journal-of : IsJournalOf issuer number (G.bytes old) (G.bytes store) its.old its.reads.history
    journal-of = record {
      old_text_is = its.old_text_is;
      text_is =
          taken-for its.old its.reads.history its.reads.goes_on its.old_records its.reads.records (G.bytes store) (G.bytes mid) its.moves its.reads.text_is;
      old_records = its.old_records;
      records = its.reads.records;
      since = record { goes_on = its.reads.goes_on; old_legal = its.old_legal; legal = its.reads.legal };
    }

    -- the journal was opened
    module _ (loaded : Shard S G) (shard_is : rows.shard ≡ number) (rows_are : loaded.rows ≡ rows)
        (holds : (text rest : List ℕ) → length text ≡ taken.bytes → Tells (G.bytes mid) (text ++ rest) → Holds loaded.journal taken.records text []) where
      loaded-holds : Holds loaded.journal (length its.reads.history) (journal_text its.reads.history) []
      loaded-holds =
          let whole = told-text its.reads.history (G.bytes mid) its.reads.text_is in
          subst (λ (count : ℕ). Holds loaded.journal count (journal_text its.reads.history) []) its.reads.count_is
          (holds (journal_text its.reads.history) whole.0 (sym its.reads.sure_is) whole.1)

      loaded-is : IsLoaded issuer number (G.bytes old) (G.bytes store) loaded
      loaded-is = record {
        old = its.old;
        history = its.reads.history;
        journal_is = journal-of;
        number_is = ap (λ (rows : ShardRows). rows.shard) rows_are ∙ shard_is;
        stands = record {
          rows_stand = subst (λ (rows : ShardRows). RowsStandFor issuer rows its.reads.history) (sym rows_are) its.reads.stands;
          journal_holds = record { tail = []; tail_is = inl refl; records = its.reads.records; holds = loaded-holds };
        };
        settled = loaded-holds;
      }

    pub loaded-all : (result : Result (Shard S G) (LoadBack S)) → rows.shard ≡ number → EndsOpening G mid rows taken result
        → IfOk result (IsLoaded issuer number (G.bytes old) (G.bytes store))
    loaded-all (Ok loaded) shard_is ends = loaded-is loaded shard_is ends.rows_are ends.opened.holds
    loaded-all (Err back) shard_is ends = tt

    -- what holds of the shard that was opened
    module _ (counts : CountsBoth (G.faults old) (G.faults old_then) (G.faults store) (G.faults mid) false)
        (grown : G.size mid ≤ loaded_size (G.size old) (G.size store)) (room_is : G.room mid ≡ G.room store) where
      pub has-mid : (spare : ℕ) → HaveRoom spare (G.size old) (G.room old) (G.size store) (G.room store) → HasRoom spare (G.size mid) (G.room mid)
      has-mid spare has = record {
        most = has.of_store.most;
        told = room_is ∙ has.of_store.told;
        within = let within = has.of_store.within in omega (arith, grown, within);
      }

      pub loads-from : (result : Result (Shard S G) (LoadBack S)) → AreRowsOf issuer rows → rows.shard ≡ number → IsWithin taken (G.size mid)
          → EndsOpening G mid rows taken result
          → LoadsWithin (G.size mid) (G.room mid) result
          → IfOk result (IsLoadedFrom issuer number old old_then store)
      unfolding loaded-is
      loads-from (Err back) rows_of shard_is within ends room = tt
      loads-from (Ok loaded) rows_of shard_is within ends room =
          let still = counts-still (G.faults old) (G.faults old_then) (G.faults store) (G.faults mid) counts in
          let places = ends.opened.records_are in
          record {
            loaded = loaded-is loaded shard_is ends.rows_are ends.opened.holds;
            under = subst (AreRowsOf issuer) (sym ends.rows_are) rows_of;
            few = let few = within.few in let inside = within.within in omega (arith, places, few, inside, grown);
            untold = ends.untold;
            undoubted = λ none. ends.opened.settled;
            leaves =
                crash-opened its.old its.reads.history its.old_records its.reads.records (G.bytes old) taken.bytes its.reads.sure_is (G.bytes mid)
                (G.disk store) (G.disk mid) (disk_in loaded) told its.reads.text_is its.passes ends.opened.leaves;
            old_counts = still.0;
            counts = CountsFaults-then (G.faults store) (G.faults mid) (faults_in loaded) false false still.1 ends.opened.counts;
            room = λ spare has. room spare (has-mid spare has);
          }

      pub room-opened : (result : Result (Shard S G) (LoadBack S)) → LoadsWithin (G.size mid) (G.room mid) result → (spare : ℕ)
          → HaveRoom spare (G.size old) (G.room old) (G.size store) (G.room store) → IfErr result (λ back. is_store_failure back.fault ≡ false)
      room-opened (Ok loaded) within spare has = tt
      room-opened (Err back) within spare has = within spare (has-mid spare has)

    -- the store failed while its journal was opened
    module _ (counts : CountsBoth (G.faults old) (G.faults old_then) (G.faults store) (G.faults mid) false)
        (alike : BothTold (λ _ _. Unit {0}) (G.bytes old) (G.bytes store)) (first : IfSome (G.disk store) (λ disk. G.bytes store ≡ Some disk.now.bytes)) where
      known : IfSome (G.bytes store) (λ _. IsSomeAnd (G.bytes old) (HasText One its.old))
      known = known-old (G.bytes old) (G.bytes store) (HasText One its.old) alike its.old_text_is

      fails-with : (back : S) → BothTold (CutsBytes taken.bytes true) (G.bytes mid) (G.bytes back)
          → BothTold (λ old new. LeavesOnly (IsCutImage taken.bytes old.now) old new) (G.disk mid) (G.disk back)
          → CountsFaults (G.faults mid) (G.faults back) true
          → IsNotLoaded G.size G.bytes G.disk G.faults issuer number old store StoreFault old_then back
      fails-with back cuts crash count =
          let still = counts-still (G.faults old) (G.faults old_then) (G.faults store) (G.faults mid) counts in
          record {
            stops = tt;
            kept =
                told-left its.old its.reads.history its.reads.goes_on its.old_records its.reads.records (G.bytes old) taken.bytes its.reads.sure_is
                (G.bytes store) (G.bytes mid) (G.bytes back) known its.moves its.reads.text_is cuts;
            still = tt;
            size_is = λ own. absurd (cc);
            leaves =
                crash-failed its.old its.reads.history its.old_records its.reads.records (G.bytes old) taken.bytes its.reads.sure_is (G.bytes mid)
                (G.disk store) (G.disk mid) (G.disk back)
                (known-disk (G.bytes store) (G.disk store) (IsSomeAnd (G.bytes old) (HasText One its.old)) first known)
                told its.reads.text_is its.passes crash;
            counts = record {
              first = false;
              second = true;
              first_counts = still.0;
              second_counts = CountsFaults-then (G.faults store) (G.faults mid) (G.faults back) false true still.1 count;
              either = refl;
            };
            untouched = λ memory. absurd (cc);
          }

      pub fails-from : (result : Result (Shard S G) (LoadBack S)) → EndsOpening G mid rows taken result
          → IfErr result (λ back. IsNotLoaded G.size G.bytes G.disk G.faults issuer number old store back.fault old_then back.store)
      fails-from (Ok loaded) ends = tt
      fails-from (Err back) ends =
          subst (λ (fault : LoadFault). IsNotLoaded G.size G.bytes G.disk G.faults issuer number old store fault old_then back.store) (sym ends.0)
          (fails-with back.store ends.1.kept ends.1.leaves ends.1.counts)

-- nothing of a text stops the opening of its journal
pub opens-stopped : {S : Type 0} (G : Ghosts S) (issuer : Setup) (number : ℕ) (old_bytes bytes : Option (List ℕ)) (mid : S) (rows : ShardRows) (taken : Taken)
    (result : Result (Shard S G) (LoadBack S)) → EndsOpening G mid rows taken result
    → IfErr result (λ back. StopsText issuer number old_bytes bytes back.fault)
opens-stopped G issuer number old_bytes bytes mid rows taken (Ok loaded) ends = tt
opens-stopped G issuer number old_bytes bytes mid rows taken (Err back) ends = subst (StopsText issuer number old_bytes bytes) (sym ends.0) tt

-- room for more is room for what is there
pub room-there : (spare size : ℕ) (room : Option ℕ) → HasRoom spare size room → HasRoom 0 size room
room-there spare size room has = record { most = has.most; told = has.told; within = let within = has.within in omega (arith, within) }
