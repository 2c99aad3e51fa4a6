-- What is left of journals that were opened, and maybe loaded.
use Rattle.std.proofs.Common.{◌≡◌, ℕ, ◌<◌, ◌≤◌, List, [], ◌++◌, length, Option, None, Some}
use Rattle.std.proofs.Common.{refl, sym, ap, ◌∙◌, subst, arith, inl, inr, ⊎_elim, append-nil}
use Rattle.std.specs.Prelude.{slice_get, map, All, IfSome, IsSomeAnd, ◌⊎◌}
use Rattle.std.proofs.lemmas.List.Elements.{All-nil}
use Rattle.std.proofs.lemmas.List.{length-take}
use Rattle.std.proofs.Math.Seq.{take-length}
use Rattle.std.proofs.lemmas.Bool.{cases_order}
use Rattle.std.proofs.lemmas.Option.{slice_get_within}
use Rattle.issuer_base.specs.Stores.{BothTold, Disk, Moment, LeavesOnly}
use Rattle.issuer_base.specs.Tells.{Tells}
use Rattle.issuer_base.specs.declared.entry.Entry.{Entry}
use Rattle.issuer_base.specs.declared.outside.store.Store.{Ghosts}
use Rattle.issuer_base.proofs.Moments.{LeavesOnly-weaker}
use Rattle.issuer_base.proofs.ToldTwice.{BothTold-given, BothTold-weaker}
use Rattle.issuer_setup.specs.IssuerSetup.{Setup}
use Rattle.journal_rec.specs.Record.{IsRecord}
use Rattle.journal_rec.specs.RecordText.{journal_text}
use Rattle.journal_store.specs.Images.{OnlyReads}
use Rattle.journal_store.proofs.ReadSoFar.{reads-none}
use Rattle.shard_book.specs.declared.replay.LoadFault.{LoadFault}
use Rattle.shard_book.specs.declared.replay.LoadFault.TheVariants.{OldLine, OldRecord, BadLine, BadRecord}
use Rattle.shard_book.specs.declared.replay.LoadFault.TheVariants.{StoreFault, NoMemory}
use Rattle.shard_book.specs.declared.replay.Version.TheVariants.{One}
use Rattle.shard_book.specs.declared.shard.Shard.{Shard}
use Rattle.shard_book.specs.Shards.{store_in, IsCutToText, IsFailedImage, IsLoadImage, IsMigrated, IsTakenFor}
use Rattle.shard_book.specs.Versions.{HasText, IsPartOf}
use Rattle.shard_book.specs.Loads.{IsNotLoaded}
use Rattle.host_loading.specs.Loading.{AreOnlyRead, ComeBack, ComeBackBy, ComeBackTogether, IsGivenBack, IsLeftByLoad}
use Rattle.host_loading.proofs.Loads.{given-back}
use Rattle.desk_host.specs.SeenStores.{Logged, SeenStore, store_seen, journals_seen}
use Rattle.desk_host.specs.Journals.{old_name, journal_name, IsOpened, AreOpened, IsReady}
use Rattle.desk_host.specs.Left.{GoesOnMigrating, IsSparedImage, KeepsLines, LeavesJournal, LeaveJournals}
use Rattle.desk_host.specs.Left.{StaysAsOpened}
use Rattle.desk_host.proofs.CrashSteps.{crash-reads, crash-since, stays-opened}
use Rattle.desk_host.proofs.SeenSteps.{at-place, held-told, seen-at, seen-store, told-held}

-- ---- bytes

-- nothing is gone
keeps-all : (bytes : List ℕ) → KeepsLines bytes bytes
keeps-all bytes = record { rest = []; was_is = sym (append-nil bytes); unbroken = All-nil _ }

-- a part is no longer than the whole, and the whole is a part
part-short : (text part : List ℕ) → IsPartOf text part → length part ≤ length text
part-short text part is = let e = ap length is.part_is ∙ length-take is.kept text in omega (arith, e)

whole-part : (text : List ℕ) → IsPartOf text text
whole-part text = record { kept = length text; part_is = sym (take-length text) }

-- what is known of known bytes is true of what the desk told of them
some-held : (P : List ℕ → Type 0) (held bytes : Option (List ℕ)) → IfSome held (λ told. bytes ≡ Some told)
    → IsSomeAnd bytes P → IfSome held P
some-held P None bytes same known = tt
some-held P (Some told) bytes same known = subst (λ (b : Option (List ℕ)). IsSomeAnd b P) same known

-- the whole lines that were and are, or a migration that went on
abbrev LeavesLines : Option (List ℕ) → List ℕ → List ℕ → Type 0
LeavesLines old_held was is = KeepsLines was is ⊎ (GoesOnMigrating old_held was is × (length was ≤ length is))

-- what was told before and after
record AreLines (old_held before_told after_told : Option (List ℕ)) : Type 0 where
  was : List ℕ
  is : List ℕ
  before : Tells before_told was
  after : Tells after_told is
  lines : LeavesLines old_held was is

module _ (old_held old_bytes : Option (List ℕ)) (old_same : IfSome old_held (λ told. old_bytes ≡ Some told)) where
  -- a migration of known bytes
  goes-on : (was is : List ℕ) → IsMigrated old_bytes was is → GoesOnMigrating old_held was is
  goes-on was is migrated = record {
    old = migrated.old;
    records = migrated.records;
    old_text_is = some-held (HasText One migrated.old) old_held old_bytes old_same migrated.old_text_is;
    was_part = migrated.was;
    is_part = migrated.now;
  }

  cut-lines : (was is : List ℕ) → IsCutToText was is → KeepsLines was is
  cut-lines was is cut = record {
    rest = cut.text_is.rest;
    was_is = cut.text_is.text_is ∙ ap (λ text. text ++ cut.text_is.rest) (sym cut.cut);
    unbroken = cut.text_is.unbroken;
  }

  -- after a load that its stores stopped
  lines-failed : (before after : Option (List ℕ))
      → BothTold (λ was is. (is ≡ was) ⊎ ((IsMigrated old_bytes was is × (length was ≤ length is)) ⊎ IsCutToText was is))
      before after → AreLines old_held before after
  lines-failed None None left =
      record { was = []; is = []; before = tt; after = tt; lines = inl (keeps-all []) }
  lines-failed None (Some is) left = absurd left
  lines-failed (Some was) None left = absurd left
  lines-failed (Some was) (Some is) left = record {
    was = was;
    is = is;
    before = refl;
    after = refl;
    lines = ⊎_elim (λ same. inl (subst (KeepsLines was) (sym same) (keeps-all was)))
        (⊎_elim (λ migrated. inr (goes-on was is migrated.0, migrated.1)) (λ cut. inl (cut-lines was is cut))) left;
  }

  module _ (old history : List Entry) (records : All IsRecord old) (all_records : All IsRecord history)
      (old_text_is : IfSome old_bytes (HasText One old)) where
    migrates : (was is : List ℕ) → IsPartOf (journal_text old) was → IsPartOf (journal_text old) is
        → GoesOnMigrating old_held was is
    migrates was is was_part is_part = record {
      old = old;
      records = records;
      old_text_is = told-held (HasText One old) old_held old_bytes old_same old_text_is;
      was_part = was_part;
      is_part = is_part;
    }

    -- bytes that were taken for a history have its text now
    lines-taken : (was : List ℕ) → IsTakenFor old history was → LeavesLines old_held was (journal_text history)
    lines-taken was taken =
        ⊎_elim
        (λ part.
        subst (λ (h : List Entry). LeavesLines old_held was (journal_text h)) (sym part.0)
        (inr (
          migrates was (journal_text old) part.1 (whole-part (journal_text old)),
          part-short (journal_text old) was part.1,
        )))
        (λ text. inl (record { rest = text.rest; was_is = text.text_is; unbroken = text.unbroken }))
        taken

    lines-loaded : (before after : Option (List ℕ)) → IfSome before (IsTakenFor old history)
        → Tells after (journal_text history) → AreLines old_held before after
    lines-loaded None after taken is =
        let text = journal_text history in
        record { was = text; is = text; before = tt; after = is; lines = inl (keeps-all text) }
    lines-loaded (Some was) after taken is =
        record { was = was; is = journal_text history; before = refl; after = is; lines = lines-taken was taken }

    -- so an image of the load is spared
    spared-loaded : (moment : Moment) (image : List ℕ) → IsTakenFor old history moment.bytes
        → IsLoadImage old history moment image → IsSparedImage old_held moment image
    spared-loaded moment image taken =
        ⊎_elim (λ left. inl left)
        (⊎_elim (λ parts. inr (inl (migrates moment.bytes image parts.0 parts.1)))
        (λ whole.
        ⊎_elim
        (λ part. inr (inl (migrates moment.bytes image part.1
        (subst (IsPartOf (journal_text old)) (sym (whole ∙ ap journal_text part.0)) (whole-part (journal_text old))))))
        (λ text. inr (inr (record { history = history; text_is = text; records = all_records; cut = whole })))
        taken))

    crash-loaded : (bytes : Option (List ℕ)) (was now : Option Disk) → IfSome bytes (IsTakenFor old history)
        → IfSome was (λ disk. bytes ≡ Some disk.now.bytes)
        → BothTold (λ before after. LeavesOnly (IsLoadImage old history before.now) before after) was now
        → BothTold (λ before after. LeavesOnly (IsSparedImage old_held before.now) before after) was now
    crash-loaded bytes was now taken told leaves =
        BothTold-given (λ (disk : Disk). bytes ≡ Some disk.now.bytes)
        (λ before after. LeavesOnly (IsLoadImage old history before.now) before after)
        (λ before after. LeavesOnly (IsSparedImage old_held before.now) before after) was now
        (λ before after has loads.
        LeavesOnly-weaker (IsLoadImage old history before.now) (IsSparedImage old_held before.now) before after
        (λ image. spared-loaded before.now image
        (subst (λ (b : Option (List ℕ)). IfSome b (IsTakenFor old history)) has taken)) loads)
        told leaves

  -- and so is one of a load that failed
  crash-failed : (was now : Option Disk)
      → BothTold (λ before after. LeavesOnly (IsFailedImage old_bytes before.now) before after) was now
      → BothTold (λ before after. LeavesOnly (IsSparedImage old_held before.now) before after) was now
  crash-failed was now =
      BothTold-weaker (λ before after. LeavesOnly (IsFailedImage old_bytes before.now) before after)
      (λ before after. LeavesOnly (IsSparedImage old_held before.now) before after) was now
      (λ before after. LeavesOnly-weaker (IsFailedImage old_bytes before.now) (IsSparedImage old_held before.now)
      before after
      (λ image. ⊎_elim (λ left. inl left)
      (⊎_elim (λ migrated. inr (inl (goes-on before.now.bytes image migrated))) (λ cut. inr (inr cut)))))

-- ---- one store

module _ {S : Type 0} {G : Ghosts S} (told : (store : S)
    → IfSome (G.disk store) (λ disk. G.bytes store ≡ Some disk.now.bytes)) (old_held held : Option (List ℕ))
    (old store : S) (old_opened : IsOpened G old_held old) (opened : IsOpened G held store) where
  left-so : (back : S) → AreLines old_held (G.bytes store) (G.bytes back)
      → BothTold (λ before after. LeavesOnly (IsSparedImage old_held before.now) before after) (G.disk store)
      (G.disk back) → LeavesJournal old_held held (store_seen G back)
  left-so back text leaves = record {
    was = text.was;
    is = text.is;
    held_is = held-told held (G.bytes store) text.was opened.bytes_are text.before;
    bytes_are = text.after;
    lines = text.lines;
    crash = crash-since (IsSparedImage old_held) held (G.bytes store) (G.disk store) (G.disk back) leaves
        opened.untouched (told store) opened.bytes_are;
  }

  -- its bytes are told, or not
  same-lines : (bytes other : Option (List ℕ)) → other ≡ bytes → AreLines old_held bytes other
  same-lines None other same = record {
    was = [];
    is = [];
    before = tt;
    after = subst (λ (b : Option (List ℕ)). Tells b []) (sym same) tt;
    lines = inl (keeps-all []);
  }
  same-lines (Some text) other same = record {
    was = text;
    is = text;
    before = refl;
    after = subst (λ (b : Option (List ℕ)). Tells b text) (sym same) refl;
    lines = inl (keeps-all text);
  }

  -- it was only read
  read-left : (back : S) → G.bytes back ≡ G.bytes store → BothTold OnlyReads (G.disk store) (G.disk back)
      → LeavesJournal old_held held (store_seen G back)
  read-left back same reads =
      left-so back (same-lines (G.bytes store) (G.bytes back) same)
      (crash-reads (IsSparedImage old_held) (λ moment image left. inl left) (G.disk store) (G.disk back) reads)

  -- nothing was done to it
  pub untouched-left : LeavesJournal old_held held (store_seen G store)
  untouched-left = read-left store refl (reads-none (G.disk store))

  -- it was loaded and is given back
  pub given-left : (issuer : Setup) (number : ℕ) (old_then back : S)
      → IsGivenBack G.bytes G.disk G.faults issuer number old old_then store back
      → LeavesJournal old_held held (store_seen G back)
  given-left issuer number old_then back given =
      let is = given.journal_is in
      left-so back
      (lines-loaded old_held (G.bytes old) old_opened.bytes_are given.old_history given.history is.old_records
      is.records is.old_text_is (G.bytes store) (G.bytes back) is.text_is given.cut)
      (crash-loaded old_held (G.bytes old) old_opened.bytes_are given.old_history given.history is.old_records
      is.records is.old_text_is (G.bytes store) (G.disk store) (G.disk back) is.text_is (told store) given.leaves)

  -- it wasn't loaded
  pub failed-left : (issuer : Setup) (number : ℕ) (fault : LoadFault) (old_then back : S)
      → IsNotLoaded G.size G.bytes G.disk G.faults issuer number old store fault old_then back
      → LeavesJournal old_held held (store_seen G back)
  failed-left issuer number StoreFault old_then back failed =
      left-so back (lines-failed old_held (G.bytes old) old_opened.bytes_are (G.bytes store) (G.bytes back) failed.kept)
      (crash-failed old_held (G.bytes old) old_opened.bytes_are (G.disk store) (G.disk back) failed.leaves)
  failed-left issuer number (OldLine line) old_then back failed = read-left back failed.kept failed.still
  failed-left issuer number (OldRecord line) old_then back failed = read-left back failed.kept failed.still
  failed-left issuer number (BadLine line) old_then back failed = read-left back failed.kept failed.still
  failed-left issuer number (BadRecord line) old_then back failed = read-left back failed.kept failed.still
  failed-left issuer number NoMemory old_then back failed = read-left back failed.kept failed.still

-- ---- all that were opened

module _ {S : Type 0} (G : Ghosts S) (told : (store : S)
    → IfSome (G.disk store) (λ disk. G.bytes store ≡ Some disk.now.bytes)) (prefix : List ℕ) (logs : Logged) where
  -- old journals that were only read stay
  pub olds-left : (olds read : List S) → AreOpened G (old_name prefix) logs olds
      → AreOnlyRead G.size G.bytes G.disk G.room olds read → (number : ℕ) (seen : SeenStore)
      → slice_get (map (store_seen G) read) number ≡ Some seen → StaysAsOpened (logs (old_name prefix number)) seen
  olds-left olds read opened only number seen is =
      let here = seen-store G read number seen is in
      let below = slice_get_within read number here.0 here.1 in
      let count = only.count_is in
      let before = at-place olds number (omega (arith, below, count)) in
      let one = only.each number before.0 here.0 before.1 here.1 in
      subst (StaysAsOpened (logs (old_name prefix number))) here.2
      (stays-opened told (logs (old_name prefix number)) before.0 here.0 (opened number before.0 before.1)
      one.bytes_are one.disk_is)

  -- and so do those that were opened alone
  pub olds-untouched : (olds : List S) → AreOpened G (old_name prefix) logs olds → (number : ℕ) (seen : SeenStore)
      → slice_get (map (store_seen G) olds) number ≡ Some seen → StaysAsOpened (logs (old_name prefix number)) seen
  olds-untouched olds opened number seen is =
      let here = seen-store G olds number seen is in
      subst (StaysAsOpened (logs (old_name prefix number))) here.2
      (stays-opened told (logs (old_name prefix number)) here.0 here.0 (opened number here.0 here.1) refl
      (reads-none (G.disk here.0)))

  -- they were opened alone: no journal but old ones
  pub only-olds_left : (olds stores : List S) → stores ≡ [] → AreOpened G (old_name prefix) logs olds
      → LeaveJournals prefix logs (journals_seen G olds stores)
  only-olds_left olds stores none_opened opened = record {
    olds = olds-untouched olds opened;
    stores = λ number seen is.
        absurd (let e : None ≡ Some seen =
        sym (ap (λ (ss : List S). slice_get (map (store_seen G) ss) number) none_opened) ∙ is in cc);
  }

  module _ (olds stores : List S) (olds_opened : AreOpened G (old_name prefix) logs olds)
      (opened : AreOpened G (journal_name prefix) logs stores) where
    -- as many old ones, and maybe fewer journals
    pub opened-left : length stores ≤ length olds → LeaveJournals prefix logs (journals_seen G olds stores)
    opened-left fewer = record {
      olds = olds-untouched olds olds_opened;
      stores = λ number seen is.
          let here = seen-store G stores number seen is in
          let below = slice_get_within stores number here.0 here.1 in
          let old = at-place olds number (omega (arith, below, fewer)) in
          subst (LeavesJournal (logs (old_name prefix number)) (logs (journal_name prefix number))) here.2
          (untouched-left told (logs (old_name prefix number)) (logs (journal_name prefix number)) old.0 here.0
          (olds_opened number old.0 old.1) (opened number here.0 here.1));
    }

    -- one couldn't be loaded, and those behind it are left so
    back-left_by : (Behind : ℕ → S → S → S → S → Type 0) (issuer : Setup) (failed : ℕ) (fault : LoadFault)
        (read back : List S) → AreOnlyRead G.size G.bytes G.disk G.room olds read
        → ((number : ℕ) (old old_then store after : S) → IsOpened G (logs (old_name prefix number)) old
        → IsOpened G (logs (journal_name prefix number)) store → Behind number old old_then store after
        → LeavesJournal (logs (old_name prefix number)) (logs (journal_name prefix number)) (store_seen G after))
        → ComeBackBy G.size G.bytes G.disk G.faults Behind issuer olds read stores failed fault back
        → LeaveJournals prefix logs (journals_seen G read back)
    back-left_by Behind issuer failed fault read back only behind come = record {
      olds = olds-left olds read olds_opened only;
      stores = λ number seen is.
          let old_held = logs (old_name prefix number) in
          let held = logs (journal_name prefix number) in
          let here = seen-store G back number seen is in
          let below = slice_get_within back number here.0 here.1 in
          let count = come.count_is in
          let olds_count = come.olds_are in
          let read_count = come.read_are in
          let before = at-place stores number (omega (arith, below, count)) in
          let old = at-place olds number (omega (arith, below, count, olds_count)) in
          let read_at = at-place read number (omega (arith, below, count, read_count)) in
          let log = opened number before.0 before.1 in
          let old_log = olds_opened number old.0 old.1 in
          subst (LeavesJournal old_held held) here.2
          (⊎_elim
          (λ (at : failed ≡ number).
          failed-left told old_held held old.0 before.0 old_log log issuer failed fault read_at.0 here.0
          (come.at old.0 read_at.0 before.0 here.0 (ap (slice_get olds) at ∙ old.1) (ap (slice_get read) at ∙ read_at.1)
          (ap (slice_get stores) at ∙ before.1) (ap (slice_get back) at ∙ here.1)))
          (λ apart.
          ⊎_elim
          (λ (past : failed < number).
          behind number old.0 read_at.0 before.0 here.0 old_log log
          (come.behind number old.0 read_at.0 before.0 here.0 past old.1 read_at.1 before.1 here.1))
          (λ (early : number < failed).
          given-left told old_held held old.0 before.0 old_log log issuer number read_at.0 here.0
          (come.before number old.0 read_at.0 before.0 here.0 early old.1 read_at.1 before.1 here.1))
          apart)
          (cases_order failed number));
    }

    -- so they are where they were loaded one after another
    pub back-left : (issuer : Setup) (failed : ℕ) (fault : LoadFault) (read back : List S)
        → AreOnlyRead G.size G.bytes G.disk G.room olds read
        → ComeBack G.size G.bytes G.disk G.faults issuer olds read stores failed fault back
        → LeaveJournals prefix logs (journals_seen G read back)
    back-left issuer failed fault read back only =
        back-left_by (λ number old old_then store after. (old_then ≡ old) × (after ≡ store)) issuer failed fault read back
        only
        (λ number old old_then store after old_log log same.
        let held = logs (journal_name prefix number) in
        subst (λ (store : S). LeavesJournal (logs (old_name prefix number)) held (store_seen G store)) (sym same.1)
        (untouched-left told (logs (old_name prefix number)) held old store old_log log))

    -- and where they were loaded at once
    pub back-left_together : (issuer : Setup) (failed : ℕ) (fault : LoadFault) (read back : List S)
        → AreOnlyRead G.size G.bytes G.disk G.room olds read
        → ComeBackTogether G.size G.bytes G.disk G.faults issuer olds read stores failed fault back
        → LeaveJournals prefix logs (journals_seen G read back)
    back-left_together issuer failed fault read back only =
        back-left_by (IsLeftByLoad G.size G.bytes G.disk G.faults issuer) issuer failed fault read back only
        (λ number old old_then store after old_log log.
        let old_held = logs (old_name prefix number) in
        let held = logs (journal_name prefix number) in
        ⊎_elim (given-left told old_held held old store old_log log issuer number old_then after)
        (λ not. failed-left told old_held held old store old_log log issuer number not.0 old_then after not.1))

-- all were loaded, and are closed
pub closed-left : {S : Type 0} {G : Ghosts S}
    (told : (store : S) → IfSome (G.disk store) (λ disk. G.bytes store ≡ Some disk.now.bytes)) (issuer : Setup)
    (prefix : List ℕ) (logs : Logged) (olds : List S) (shards : List (Shard S G)) → IsReady issuer prefix logs olds shards
    → LeaveJournals prefix logs (journals_seen G olds (map store_in shards))
closed-left {S} {G} told issuer prefix logs olds shards ready = record {
  olds = olds-left G told prefix logs ready.old_stores olds ready.opened.olds_are ready.only_read;
  stores = λ number seen is.
      let here = seen-at shards number seen is in
      let below = slice_get_within shards number here.0 here.1 in
      let count = ready.loaded.count_is in
      let olds_count = ready.loaded.olds_are in
      let read_count = ready.loaded.read_are in
      let before = at-place ready.stores number (omega (arith, below, count)) in
      let old = at-place ready.old_stores number (omega (arith, below, count, olds_count)) in
      let read_at = at-place olds number (omega (arith, below, count, read_count)) in
      subst (LeavesJournal (logs (old_name prefix number)) (logs (journal_name prefix number))) here.2
      (given-left told (logs (old_name prefix number)) (logs (journal_name prefix number)) old.0 before.0
      (ready.opened.olds_are number old.0 old.1) (ready.opened.stores_are number before.0 before.1) issuer number
      read_at.0 (store_in here.0)
      (given-back issuer number old.0 read_at.0 before.0 here.0
      (ready.loaded.each number old.0 read_at.0 before.0 here.0 old.1 read_at.1 before.1 here.1)));
}
