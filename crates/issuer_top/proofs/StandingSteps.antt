-- How a run ends that takes a feed into journals.
use Rattle.std.proofs.Common.{◌≡◌, ℕ, ◌<◌, Bool, true, false, All as Each, List, [], length, map, Option, None, Some, Err}
use Rattle.std.proofs.Common.{inl, inr, ⊎_elim, refl, sym, ap, subst, ◌∙◌, arith}
use Rattle.std.proofs.lemmas.Bool.{eqb-true, false≢true}
use Rattle.std.specs.Prelude.{slice_get, IfSome, MatchBool, is_some}
use Rattle.std.specs.Option.{option_map}
use Rattle.std.proofs.lemmas.Option.{slice_get-map, slice_get_within}
use Rattle.std.specs.Io.KnownBytes.{Appends}
use Rattle.issuer_base.specs.OutsideFaults.{Rose, CountsFaults}
use Rattle.issuer_base.specs.Sink.{AppendsFront}
use Rattle.issuer_base.specs.Stores.{BothTold, Disk, LeavesOnly, MayLeave}
use Rattle.issuer_base.specs.Desk.{FailedCall, is_fault, last_after}
use Rattle.issuer_base.specs.declared.entry.Entry.{Entry}
use Rattle.issuer_base.specs.declared.outside.DeskFault.{DeskFault}
use Rattle.issuer_base.specs.declared.outside.DeskFault.TheVariants.{Fault, NoMemory as NoDeskRoom}
use Rattle.issuer_base.specs.declared.outside.DeskCall.TheVariants.{Read}
use Rattle.issuer_base.specs.declared.outside.store.Store.{Ghosts}
use Rattle.issuer_base.proofs.ManyCalls.{Rose-from_none}
use Rattle.issuer_base.proofs.Moments.{LeavesOnly-then, LeavesOnly-weaker}
use Rattle.issuer_base.proofs.ToldTwice.{BothTold-then}
use Rattle.answer_text.specs.declared.stop_line.Stop.TheVariants.{ReadFault as ReadStop, StoreFault as StoreStop, NoMemory}
use Rattle.answer_text.specs.declared.stop_line.Stop.TheVariants.{TooLong as LongStop, BadFeed as FeedStop}
use Rattle.issuer_setup.specs.IssuerSetup.{Setup}
use Rattle.journal_rec.specs.Record.{IsRecord}
use Rattle.journal_rec.specs.RecordText.{journal_text, text_of}
use Rattle.journal_store.specs.Images.{HasSafeText, IsImage}
use Rattle.journal_store.proofs.Passing.{leaves-image}
use Rattle.shard_book.specs.declared.shard.Shard.{Shard}
use Rattle.shard_book.specs.Grounds.{IsTail, grounds_of}
use Rattle.card_history.specs.LegalRecords.{IsLegal}
use Rattle.shard_book.specs.Shards.{HasTail, IsLoadImage, IsSettled, faults_in, store_in}
use Rattle.shard_book.specs.Taking.{IsReplicaOf}
use Rattle.host_loading.specs.Books.{ShardBook, histories_of}
use Rattle.host_loading.specs.Hosts.{AreShards}
use Rattle.standby_node.specs.declared.standby.Standby.{Standby}
use Rattle.standby_node.specs.Standing.{Hold, IsReplicaBetween, KeepsShards, LeavesBetween, fails_at, shards_in}
use Rattle.line_serving.specs.Following.{FollowsFeed, HasInHand, TakesFeed, WritesCounts, counts_text, fault_of, in_doubt_after}
use Rattle.line_serving.specs.Following.{read_failed, write_failed}
use Rattle.line_serving.specs.declared.follower.Followed.{Followed}
use Rattle.line_serving.specs.declared.follower.Followed.TheVariants.{All, ReadFault, WriteFault, TooLong, BadFeed, StoreFault}
use Rattle.desk_host.specs.SeenStores.{Logged, SeenStore, journals_seen, store_seen}
use Rattle.desk_host.specs.Journals.{IsReady, old_name, journal_name}
use Rattle.desk_host.proofs.CrashSteps.{crash-since, stays-opened}
use Rattle.std.proofs.lemmas.List.{length-map}
use Rattle.std.proofs.lemmas.Option.{same_Some}
use Rattle.host_loading.proofs.Loads.{loaded-are}
use Rattle.desk_host.specs.Configuration.{HasSoundParts}
use Rattle.line_serving.proofs.Ready.{loaded-from}
use Rattle.issuer_top.proofs.ReadingSteps.{stay-loaded, stood-loaded}
use Rattle.desk_host.proofs.KeptSteps.{begins}
use Rattle.desk_host.proofs.LoadedLaws.{lawful-loaded}
use Rattle.desk_host.proofs.SeenSteps.{at-place, journal-held, mapped, seen-at, seen-store}
use Rattle.issuer_base.specs.Tells.{Tells}
use Rattle.std.proofs.KnownBytes.{Appends-nil}
use Rattle.line_blocks.specs.Answered.{WasRead}
use Rattle.desk_host.specs.Lawful.{IsLawful}
use Rattle.issuer_top.specs.declared.ending.Ending.{Ending}
use Rattle.issuer_top.specs.Seen.{Seen, SeenInput}
use Rattle.issuer_top.specs.Opening.{GivesInput, SaysIssuer, stop_of}
use Rattle.issuer_top.specs.Opened.{OpenedConfigOnly, OpenedBothInputs}
use Rattle.issuer_top.specs.ReadAgain.{StayLoaded, FailOnlyAt, none_fails}
use Rattle.issuer_top.specs.Standing.{AreLawfulReplicas, IsReplicaImage, KeepReplicas, KeepsReplica}
use Rattle.issuer_top.specs.Standing.{LoadsToStandBy, MayFollow, StandsBy, ways_to_stand_by}
use Rattle.issuer_top.proofs.ReplicaLaws.{lawful-replicas}
use Rattle.issuer_top.specs.Stopping.{EndsFollowing}
use Rattle.issuer_top.specs.Ways.{EndsBy}
use Rattle.issuer_top.proofs.EndingSteps.{told-given, ends_by_stop, ends_at_once, StopsAtOnce}

-- ---- the journals

-- a load, and then a feed
crash-fed : (issuer : Setup) (shard : ℕ) (old first last : List Entry) (was mid now : Option Disk)
    → BothTold (λ before after. LeavesOnly (IsLoadImage old first before.now) before after) was mid
    → BothTold (LeavesOnly (IsReplicaBetween issuer shard first last)) mid now
    → BothTold (λ before after. LeavesOnly (IsReplicaImage issuer shard old first last before.now) before after) was now
crash-fed issuer shard old first last was mid now =
    BothTold-then (λ before after. LeavesOnly (IsLoadImage old first before.now) before after)
    (LeavesOnly (IsReplicaBetween issuer shard first last))
    (λ before after. LeavesOnly (IsReplicaImage issuer shard old first last before.now) before after) was mid now
    (λ a b c loads feeds.
    let P : List ℕ → Type 0 = IsReplicaImage issuer shard old first last a.now in
    LeavesOnly-then P a b c
    (LeavesOnly-weaker (IsLoadImage old first a.now) P a b (λ image left. inl left) loads)
    (LeavesOnly-weaker (IsReplicaBetween issuer shard first last) P b c (λ image left. inr left) feeds))

-- a crash now leaves the text, which is durable, and a prefix of the tail
safe-now : (text tail : List ℕ) (disk : Option Disk) → IfSome disk (λ disk. HasSafeText text tail disk.now)
    → IfSome disk (λ disk. (image : List ℕ) → MayLeave disk.now image → IsImage text tail image)
safe-now text tail None safe = tt
safe-now text tail (Some disk) safe = λ image left. leaves-image text tail disk.now image safe left

-- the record of a shard is in doubt exactly if its store is the one that failed
doubts-failed : (followed : Followed) (shard : ℕ) → fails_at (fault_of followed) shard ≡ in_doubt_after followed shard
doubts-failed All shard = refl
doubts-failed ReadFault shard = refl
doubts-failed WriteFault shard = refl
doubts-failed (TooLong line) shard = refl
doubts-failed (BadFeed line) shard = refl
doubts-failed (StoreFault failed) shard = refl

-- nothing may follow, whatever the end
none-follows : (issuer : Setup) (opening : List (List Entry)) (file read : List ℕ) (followed : Followed)
    (histories : List (List Entry)) (takes : TakesFeed issuer opening file read followed histories) (number : ℕ)
    → MayFollow issuer opening file read followed histories takes number []
none-follows issuer opening file read All histories takes number = refl
none-follows issuer opening file read ReadFault histories takes number = refl
none-follows issuer opening file read WriteFault histories takes number = refl
none-follows issuer opening file read (TooLong line) histories takes number = refl
none-follows issuer opening file read (BadFeed line) histories takes number = refl
none-follows issuer opening file read (StoreFault shard) histories takes number = inl refl

module _ {S : Type 0} {G : Ghosts S} where
  -- what is in doubt of a shard whose store failed
  record IsDoubted (issuer : Setup) (number : ℕ) (shard : Shard S G) (history : List Entry)
      (Follows : List ℕ → Type 0) : Type 0 where
    tail : List ℕ
    tail_is : IsTail (grounds_of issuer) number history tail
    tail_of : Follows tail
    has : HasTail shard history tail

  doubted-by : (issuer : Setup) (opening : List (List Entry)) (file read : List ℕ) (followed : Followed)
      (histories : List (List Entry)) (takes : TakesFeed issuer opening file read followed histories)
      (now : List (Shard S G)) → HasInHand issuer opening file read followed histories takes now
      → (number : ℕ) (shard : Shard S G) (history : List Entry) → slice_get now number ≡ Some shard
      → slice_get histories number ≡ Some history → in_doubt_after followed number ≡ true
      → IsDoubted issuer number shard history (MayFollow issuer opening file read followed histories takes number)
  doubted-by issuer opening file read All histories takes now hand number shard history at history_at doubt =
      absurd (false≢true doubt)
  doubted-by issuer opening file read ReadFault histories takes now hand number shard history at history_at doubt =
      absurd (false≢true doubt)
  doubted-by issuer opening file read WriteFault histories takes now hand number shard history at history_at doubt =
      absurd (false≢true doubt)
  doubted-by issuer opening file read (TooLong line) histories takes now hand number shard history at history_at doubt =
      absurd (false≢true doubt)
  doubted-by issuer opening file read (BadFeed line) histories takes now hand number shard history at history_at doubt =
      absurd (false≢true doubt)
  doubted-by issuer opening file read (StoreFault failed) histories takes now hand number shard history at history_at doubt =
      let same = eqb-true number failed doubt in
      let its : takes.history ≡ history =
      same_Some takes.history history
      (sym takes.next.is_for.history_is ∙ subst (λ n. slice_get histories n ≡ Some history) same history_at) in
      let legal = subst (λ n. IsLegal (grounds_of issuer) n history takes.entry) (sym same)
      (subst (λ (h : List Entry). IsLegal (grounds_of issuer) failed h takes.entry) its takes.next.legal_line.legal) in
      ⊎_elim
      (λ none. record {
        tail = [];
        tail_is = inl refl;
        tail_of = inl refl;
        has = subst (λ (h : List Entry). HasTail shard h []) its none;
      })
      (λ some. record {
        tail = text_of takes.entry;
        tail_is = inr (takes.entry, takes.next.legal_line.line_is.0, legal, refl);
        tail_of = inr (same, refl);
        has = subst (λ (h : List Entry). HasTail shard h (text_of takes.entry)) its some;
      })
      (hand refl shard (subst (λ n. slice_get now n ≡ Some shard) same at))

  -- what a shard that stands for a history, or is a replica of it, has in its store
  record HasHistory (issuer : Setup) (number : ℕ) (shard : Shard S G) (history : List Entry) (in_doubt : Bool)
      (Follows : List ℕ → Type 0) : Type 0 where
    tail : List ℕ
    tail_is : IsTail (grounds_of issuer) number history tail
    tail_of : Follows tail
    bytes_are : IfSome (G.bytes (store_in shard)) (IsImage (journal_text history) tail)
    disk_is : IfSome (G.disk (store_in shard)) (λ disk. HasSafeText (journal_text history) tail disk.now)
    doubted : MatchBool in_doubt (0 < faults_in shard) ((tail ≡ []) × (faults_in shard ≡ 0))

  has-history : (issuer : Setup) (number : ℕ) (shard : Shard S G) (history : List Entry) (in_doubt : Bool)
      (Follows : List ℕ → Type 0) → Follows []
      → MatchBool in_doubt (IsReplicaOf issuer shard history) (IsSettled issuer shard history)
      → (in_doubt ≡ true → IsDoubted issuer number shard history Follows)
      → CountsFaults 0 (faults_in shard) in_doubt → HasHistory issuer number shard history in_doubt Follows
  has-history issuer number shard history true Follows none replica doubt counts =
      let its = doubt refl in
      record {
        tail = its.tail;
        tail_is = its.tail_is;
        tail_of = its.tail_of;
        bytes_are = its.has.bytes_are;
        disk_is = its.has.disk_is;
        doubted = Rose-from_none (faults_in shard) counts.counted;
      }
  has-history issuer number shard history false Follows none settled doubt counts = record {
    tail = [];
    tail_is = inl refl;
    tail_of = none;
    bytes_are = settled.settled.bytes_are;
    disk_is = settled.settled.disk_is;
    doubted = (refl, counts.counted);
  }

  module _ (issuer : Setup) (prefix : List ℕ) (logs : Logged) (olds : List S) (loaded now : List (Shard S G))
      (ready : IsReady issuer prefix logs olds loaded)
      (before : AreShards issuer loaded) (after : AreShards issuer now)
      (told : (store : S) → IfSome (G.disk store) (λ disk. G.bytes store ≡ Some disk.now.bytes))
      (followed : Followed) (histories : List (List Entry)) (file read : List ℕ)
      (takes : TakesFeed issuer (histories_of (begins issuer prefix logs olds loaded ready).books) file read followed
      histories)
      (hand : HasInHand issuer (histories_of (begins issuer prefix logs olds loaded ready).books) file read followed
      histories takes now)
      (hold : Hold issuer (in_doubt_after followed) now histories)
      (leaves : LeavesBetween issuer (histories_of (begins issuer prefix logs olds loaded ready).books) histories loaded
      now)
      (keeps : KeepsShards issuer loaded (fault_of followed) now) where
    keeps-replica : (shard : ℕ) (was : ShardBook) (history : List Entry) (old_seen seen : SeenStore)
        → slice_get (begins issuer prefix logs olds loaded ready).books shard ≡ Some was
        → slice_get histories shard ≡ Some history → slice_get (map (store_seen G) olds) shard ≡ Some old_seen
        → slice_get (map (store_seen G) (map store_in now)) shard ≡ Some seen
        → KeepsReplica issuer shard (logs (old_name prefix shard)) (logs (journal_name prefix shard)) was history
        (in_doubt_after followed shard)
        (MayFollow issuer (histories_of (begins issuer prefix logs olds loaded ready).books) file read followed histories
        takes shard) old_seen seen
    keeps-replica shard was history old_seen seen was_at history_at old_at seen_at =
        let books = begins issuer prefix logs olds loaded ready in
        let here = seen-at now shard seen seen_at in
        let old_here = seen-store G olds shard old_seen old_at in
        let within = slice_get_within books.books shard was was_at in
        let count = books.has_run.stand.count_is in
        let opened = ready.loaded.count_is in
        let olds_opened = ready.loaded.olds_are in
        let store = at-place ready.stores shard (omega (arith, within, count, opened)) in
        let old = at-place ready.old_stores shard (omega (arith, within, count, opened, olds_opened)) in
        let one = at-place loaded shard (omega (arith, within, count)) in
        let book = books.books_are shard old.0 store.0 one.0 was old.1 store.1 one.1 was_at in
        let log = ready.opened.stores_are shard store.0 store.1 in
        let old_log = ready.opened.olds_are shard old.0 old.1 in
        let only = ready.only_read.each shard old.0 old_here.0 old.1 old_here.1 in
        let from = ready.loaded.each shard old.0 old_here.0 store.0 one.0 old.1 old_here.1 store.1 one.1 in
        let old_held = logs (old_name prefix shard) in
        let held = logs (journal_name prefix shard) in
        let no_fault : was.faults ≡ 0 = book.counts.counted ∙ log.new in
        let faults_one : faults_in one.0 ≡ 0 = (books.has_run.stand.each shard one.0 was one.1 was_at).faults_are ∙ no_fault in
        let call = keeps.each shard one.0 here.0 one.1 here.1 in
        let counts : CountsFaults 0 (faults_in here.0) (in_doubt_after followed shard) =
        subst (CountsFaults 0 (faults_in here.0)) (doubts-failed followed shard)
        (subst (λ (n : ℕ). CountsFaults n (faults_in here.0) (fails_at (fault_of followed) shard)) faults_one
        call.counts) in
        let opening = histories_of books.books in
        let Follows : List ℕ → Type 0 = MayFollow issuer opening file read followed histories takes shard in
        let has = has-history issuer shard here.0 history (in_doubt_after followed shard) Follows
        (none-follows issuer opening file read followed histories takes shard)
        (hold.each shard here.0 history here.1 history_at)
        (doubted-by issuer opening file read followed histories takes now hand shard here.0 history here.1 history_at)
        counts in
        let was_history = slice_get-map (λ (b : ShardBook). b.history) books.books shard
        ∙ ap (option_map (λ (b : ShardBook). b.history)) was_at in
        subst
        (λ (s : SeenStore). KeepsReplica issuer shard old_held held was history (in_doubt_after followed shard) Follows
        old_seen s) here.2
        (subst
        (λ (s : SeenStore). KeepsReplica issuer shard old_held held was history (in_doubt_after followed shard) Follows s
        (store_seen G (store_in here.0))) old_here.2
        (record {
          old = book.old_history;
          was = record {
            journal_is =
                journal-held issuer shard old_held held (G.bytes old.0) (G.bytes store.0) book.old_history
                was.history old_log.bytes_are log.bytes_are book.journal_is;
            no_fault = no_fault;
            none_reported = book.untold;
          };
          old_stays = stays-opened told old_held old.0 old_here.0 old_log only.bytes_are only.disk_is;
          old_no_fault = from.old_counts.counted ∙ old_log.new;
          extended = leaves.extended shard was.history history was_history history_at;
          tail = has.tail;
          tail_is = has.tail_is;
          tail_of = has.tail_of;
          bytes_are = has.bytes_are;
          doubted = has.doubted;
          crash_now = safe-now (journal_text history) has.tail (G.disk (store_in here.0)) has.disk_is;
          crash_since =
              crash-since (IsReplicaImage issuer shard book.old_history was.history history) held (G.bytes store.0)
              (G.disk store.0) (G.disk (store_in here.0))
              (crash-fed issuer shard book.old_history was.history history (G.disk store.0)
              (G.disk (store_in one.0)) (G.disk (store_in here.0)) book.leaves
              (leaves.leaves shard one.0 here.0 was.history history one.1 here.1 was_history history_at))
              log.untouched (told store.0) log.bytes_are;
        }))

    pub keep-replicas : (stores : List S) → stores ≡ map store_in now
        → KeepReplicas issuer prefix logs (journals_seen G olds stores) (begins issuer prefix logs olds loaded ready).books
        histories (in_doubt_after followed)
        (MayFollow issuer (histories_of (begins issuer prefix logs olds loaded ready).books) file read followed histories
        takes)
    keep-replicas stores stores_are =
        let books = begins issuer prefix logs olds loaded ready in
        let olds_count : length olds ≡ issuer.shards = ready.loaded.read_are ∙ ready.opened.stores_count in
        subst
        (λ (ss : List S). KeepReplicas issuer prefix logs (journals_seen G olds ss) books.books histories
        (in_doubt_after followed)
        (MayFollow issuer (histories_of books.books) file read followed histories takes)) (sym stores_are)
        (record {
          olds_are = mapped (store_seen G) olds ∙ olds_count;
          stores_are = mapped (store_seen G) (map store_in now) ∙ mapped store_in now ∙ after.count_is;
          first_are = books.has_run.stand.count_is ∙ before.count_is;
          histories_are = hold.count_is ∙ after.count_is;
          each = keeps-replica;
        })

-- ---- shards that were just loaded

module _ {S : Type 0} {G : Ghosts S} (issuer : Setup) (prefix : List ℕ) (logs : Logged) (olds : List S)
    (loaded : List (Shard S G)) (ready : IsReady issuer prefix logs olds loaded) where
  -- there is one for each number
  pub ready-are : AreShards issuer loaded
  ready-are = loaded-are issuer ready.old_stores olds ready.stores loaded ready.opened.stores_count ready.loaded

  -- they hold the histories that they were loaded to, and nothing is in doubt
  pub ready-hold : Hold issuer (λ number. false) loaded
      (histories_of (begins issuer prefix logs olds loaded ready).books)
  ready-hold =
      let books = begins issuer prefix logs olds loaded ready in
      let stand = books.has_run.stand in
      record {
        count_is = length-map books.books (λ (b : ShardBook). b.history) ∙ stand.count_is;
        each = λ number shard history shard_at history_at.
            let within = slice_get_within loaded number shard shard_at in
            let count = stand.count_is in
            let opened = ready.loaded.count_is in
            let olds_opened = ready.loaded.olds_are in
            let book = at-place books.books number (omega (arith, within, count)) in
            let store = at-place ready.stores number (omega (arith, within, opened)) in
            let old = at-place ready.old_stores number (omega (arith, within, opened, olds_opened)) in
            let its = stand.each number shard book.0 shard_at book.1 in
            let from = books.books_are number old.0 store.0 shard book.0 old.1 store.1 shard_at book.1 in
            let same : book.0.history ≡ history =
            same_Some book.0.history history
            (sym (slice_get-map (λ (b : ShardBook). b.history) books.books number
            ∙ ap (option_map (λ (b : ShardBook). b.history)) book.1) ∙ history_at) in
            subst (IsSettled issuer shard) same
            (record { stands = its.stands; settled = its.settled from.untold });
      }

  -- and their stores are as loading left them
  pub ready-stay : HasSoundParts issuer
      → ((store : S) → IfSome (G.disk store) (λ disk. G.bytes store ≡ Some disk.now.bytes))
      → (stores : List S) → stores ≡ map store_in loaded → StayLoaded issuer prefix logs (journals_seen G olds stores)
  ready-stay sound told stores stores_are =
      stay-loaded G issuer prefix logs olds stores
      (loaded-from issuer prefix logs olds loaded ready sound told stores stores_are)

  -- none of which failed
  pub ready-stood : HasSoundParts issuer
      → ((store : S) → IfSome (G.disk store) (λ disk. G.bytes store ≡ Some disk.now.bytes))
      → (stores : List S) → stores ≡ map store_in loaded → FailOnlyAt (map (store_seen G) stores) none_fails
  ready-stood sound told stores stores_are =
      stood-loaded G issuer prefix logs olds stores
      (loaded-from issuer prefix logs olds loaded ready sound told stores stores_are)

-- what of the feed was read, and what it makes
pub record ReadsFeed (issuer : Setup) (opening : List (List Entry)) (was now : Option (List ℕ)) (followed : Followed)
    (histories : List (List Entry)) : Type 0 where
  pub file : List ℕ
  pub read : List ℕ
  pub content : Tells was file
  pub was_read : WasRead file read now
  pub takes : TakesFeed issuer opening file read followed histories

-- what a feed that was taken makes of shards that were just loaded
module _ {S : Type 0} {G : Ghosts S} (issuer : Setup) (prefix : List ℕ) (logs : Logged) (olds : List S)
    (loaded : List (Shard S G)) (ready : IsReady issuer prefix logs olds loaded)
    (told : (store : S) → IfSome (G.disk store) (λ disk. G.bytes store ≡ Some disk.now.bytes))
    (old new : Standby S G) (begun : shards_in old ≡ loaded) (followed : Followed)
    (keeps : KeepsShards issuer (shards_in old) (fault_of followed) (shards_in new)) where
  -- the entries of the histories are records
  record-all : (shard : Shard S G) (history : List Entry) (in_doubt : Bool)
      → MatchBool in_doubt (IsReplicaOf issuer shard history) (IsSettled issuer shard history) → Each IsRecord history
  record-all shard history true replica = replica.journal_holds.records
  record-all shard history false settled = settled.stands.journal_holds.records

  records-held : (histories : List (List Entry)) → Hold issuer (in_doubt_after followed) (shards_in new) histories
      → (number : ℕ) (history : List Entry) → slice_get histories number ≡ Some history → Each IsRecord history
  records-held histories hold number history history_at =
      let within = slice_get_within histories number history history_at in
      let count = hold.count_is in
      let shard = at-place (shards_in new) number (omega (arith, within, count)) in
      record-all shard.0 history (in_doubt_after followed number) (hold.each number shard.0 history shard.1 history_at)

  pub took-feed : HasSoundParts issuer → (was now : Option (List ℕ)) (histories : List (List Entry))
      → FollowsFeed issuer (histories_of (begins issuer prefix logs olds loaded ready).books) was now old new followed
      histories
      → (stores : List S) → stores ≡ map store_in (shards_in new)
      → (reads : ReadsFeed issuer (histories_of (begins issuer prefix logs olds loaded ready).books) was now followed
      histories)
      × KeepReplicas issuer prefix logs (journals_seen G olds stores) (begins issuer prefix logs olds loaded ready).books
      histories (in_doubt_after followed)
      (MayFollow issuer (histories_of (begins issuer prefix logs olds loaded ready).books) reads.file reads.read followed
      histories reads.takes)
      × AreLawfulReplicas issuer histories
  took-feed sound was now histories follows stores stores_are = (
    record {
      file = follows.file;
      read = follows.read;
      content = follows.content;
      was_read = follows.was_read;
      takes = follows.takes;
    },
    keep-replicas issuer prefix logs olds loaded (shards_in new) ready (ready-are issuer prefix logs olds loaded ready)
        keeps.shards told followed histories follows.file follows.read follows.takes follows.in_hand follows.hold
        (subst
        (λ (shards : List (Shard S G)).
        LeavesBetween issuer (histories_of (begins issuer prefix logs olds loaded ready).books) histories shards
        (shards_in new)) begun follows.leaves)
        (subst (λ (shards : List (Shard S G)). KeepsShards issuer shards (fault_of followed) (shards_in new)) begun keeps)
        stores stores_are,
    lawful-replicas issuer sound (begins issuer prefix logs olds loaded ready).books
        (lawful-loaded issuer prefix logs olds loaded ready (ready-are issuer prefix logs olds loaded ready) sound)
        histories (follows.hold.count_is ∙ keeps.shards.count_is) (records-held histories follows.hold) follows.file
        follows.read followed follows.takes,
  )

-- ---- the ways that a standby ends

-- shards were loaded, of whose journals the desk tells the same
pub ready-same : {S : Type 0} {G : Ghosts S} (issuer : Setup) (prefix : List ℕ) (logs other : Logged) (olds : List S)
    (shards : List (Shard S G)) → logs ≡ other
    → IsReady issuer prefix logs olds shards → IsReady issuer prefix other olds shards
ready-same issuer prefix logs other olds shards same ready =
    subst (λ (l : Logged). IsReady issuer prefix l olds shards) same ready

module _ (config feed journal : List ℕ) (seen : Seen) (issuer : Setup) (said : SaysIssuer seen config issuer) where
  module _ (stay : StayLoaded issuer journal seen.desk.logs seen.journals)
      (counted : FailOnlyAt seen.journals.stores none_fails) where
    loads : LoadsToStandBy config journal seen
    loads = record { issuer = issuer; said = said; stay = stay; counted = counted }

    -- no memory was left to take a feed with
    pub ends_unfollowed : (ending : Ending) → OpenedConfigOnly seen → StopsAtOnce seen NoMemory ending
        → EndsBy (ways_to_stand_by config feed journal seen) seen ending
    unfolding loads
    ends_unfollowed ending opened stopping =
        ends_at_once (ways_to_stand_by config feed journal seen) seen NoMemory ending
        (inr (record { loaded = loads; opened = opened; last = refl })) stopping

    -- the desk gave no feed
    pub ends_no_feed : (T : Type 0) (other : Option FailedCall) (between : ℕ) (fault : DeskFault) (ending : Ending)
        → is_some seen.config ≡ true → is_some seen.requests ≡ false
        → between ≡ seen.desk.faults_before → CountsFaults between seen.desk.faults_after (is_fault {T = T} (Err fault))
        → seen.desk.last_fault ≡ last_after Read feed (is_fault {T = T} (Err fault)) other
        → StopsAtOnce seen (stop_of fault) ending → EndsBy (ways_to_stand_by config feed journal seen) seen ending
    unfolding loads
    ends_no_feed T other between Fault ending with_config no_requests stood desk_count last stopping =
        ends_at_once (ways_to_stand_by config feed journal seen) seen ReadStop ending
        (inr (inl (record {
          loaded = loads;
          fails = record {
            config_is = with_config;
            requests_is = no_requests;
            rose = subst (λ (n : ℕ). Rose n seen.desk.faults_after) stood desk_count.counted;
            call_is = last;
          };
          last = refl;
        })))
        stopping
    ends_no_feed T other between NoDeskRoom ending with_config no_requests stood desk_count last stopping =
        ends_unfollowed ending (record {
          config_is = with_config;
          requests_is = no_requests;
          desk_stood = desk_count.counted ∙ stood;
        }) stopping

  module _ (input : SeenInput) (left : Option (List ℕ)) (opened : OpenedBothInputs seen)
      (input_is : seen.requests ≡ Some input) (given : GivesInput (seen.desk.tells feed) left)
      (first : List ShardBook) (lawful : IsLawful issuer first first) where
    -- nothing was written
    unwritten : (held : Option (List ℕ)) → held ≡ seen.sink.held_before → Appends seen.sink.held_before held []
    unwritten held same =
        subst (λ (h : Option (List ℕ)). Appends seen.sink.held_before h []) (sym same)
        (Appends-nil seen.sink.held_before)

    -- the feed was taken, up to this end
    abbrev pub Took : Followed → List (List Entry) → Type 0
    Took followed histories =
        (reads : ReadsFeed issuer (histories_of first) left input.left followed histories)
        × KeepReplicas issuer journal seen.desk.logs seen.journals first histories (in_doubt_after followed)
        (MayFollow issuer (histories_of first) reads.file reads.read followed histories reads.takes)
        × AreLawfulReplicas issuer histories

    stands : (followed : Followed) (histories : List (List Entry)) → Took followed histories → StandsBy followed config feed journal seen
    stands followed histories took = record {
      issuer = issuer;
      said = said;
      opened = opened;
      input = input;
      input_is = input_is;
      file = took.0.file;
      read = took.0.read;
      held = told-given (seen.desk.tells feed) left took.0.file given took.0.content;
      was_read = took.0.was_read;
      first = first;
      lawful = lawful;
      histories = histories;
      takes = took.0.takes;
      last_lawful = took.2;
      kept = took.1;
    }

    -- how the run ends, by how taking the feed did
    pub ends_following : (followed : Followed) (histories : List (List Entry)) (ending : Ending)
        (held : Option (List ℕ)) (faults fresh : ℕ) → Took followed histories
        → WritesCounts followed seen.sink.held_before held (counts_text histories)
        → CountsFaults seen.sink.faults_before faults (write_failed followed)
        → fresh ≡ 0 → (read_failed followed ≡ true → Rose fresh input.faults)
        → EndsFollowing held seen.sink.held_after faults seen.sink.faults_after followed ending → EndsBy (ways_to_stand_by config feed journal seen) seen ending
    unfolding stands
    ends_following All histories ending held faults fresh took writes counts none failed ends =
        subst (EndsBy (ways_to_stand_by config feed journal seen) seen) (sym ends.ending_is) (
          counts_text histories,
          record { stands = stands All histories took; text_is = refl },
          subst (λ (h : Option (List ℕ)). Appends seen.sink.held_before h (counts_text histories)) (sym ends.same) writes,
        )
    ends_following WriteFault histories ending held faults fresh took writes counts none failed ends =
        subst (EndsBy (ways_to_stand_by config feed journal seen) seen) (sym ends.ending_is) (record {
          rose = subst (Rose seen.sink.faults_before) (sym ends.stood) counts.counted;
          text = counts_text histories;
          due = inr (record { stands = stands WriteFault histories took; text_is = refl });
          front =
              subst (λ (h : Option (List ℕ)). AppendsFront seen.sink.held_before h (counts_text histories))
              (sym ends.same) writes;
        })
    ends_following ReadFault histories ending held faults fresh took writes counts none failed ends =
        let rose : Rose 0 input.faults = subst (λ (n : ℕ). Rose n input.faults) none (failed refl) in
        ends_by_stop (ways_to_stand_by config feed journal seen) seen held faults ReadStop ending []
        (inr (inr (record {
          stands = stands ReadFault histories took;
          failed = Rose-from_none input.faults rose;
          last = refl;
        })))
        (unwritten held writes) counts.never_falls ends
    ends_following (TooLong line) histories ending held faults fresh took writes counts none failed ends =
        ends_by_stop (ways_to_stand_by config feed journal seen) seen held faults (LongStop line) ending []
        (inr (record { stands = stands (TooLong line) histories took; last = refl }))
        (unwritten held writes) counts.never_falls ends
    ends_following (BadFeed line) histories ending held faults fresh took writes counts none failed ends =
        ends_by_stop (ways_to_stand_by config feed journal seen) seen held faults (FeedStop line) ending []
        (inr (record { stands = stands (BadFeed line) histories took; last = refl }))
        (unwritten held writes) counts.never_falls ends
    ends_following (StoreFault shard) histories ending held faults fresh took writes counts none failed ends =
        ends_by_stop (ways_to_stand_by config feed journal seen) seen held faults (StoreStop shard) ending []
        (inr (record { stands = stands (StoreFault shard) histories took; last = refl }))
        (unwritten held writes) counts.never_falls ends
