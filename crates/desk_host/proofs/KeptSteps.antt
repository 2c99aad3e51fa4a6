-- The journals of a run: what they were and what they are.
use Rattle.std.proofs.Common.{◌≡◌, ℕ, List, length, Some, sym, ◌∙◌, subst, arith}
use Rattle.std.specs.Prelude.{slice_get, map, IfSome}
use Rattle.std.proofs.lemmas.Option.{slice_get_within}
use Rattle.issuer_base.specs.declared.answer.Answer.{Answer}
use Rattle.issuer_base.specs.declared.outside.store.Store.{Ghosts}
use Rattle.issuer_setup.specs.IssuerSetup.{Setup}
use Rattle.shard_book.specs.declared.shard.Shard.{Shard}
use Rattle.shard_book.specs.Shards.{store_in}
use Rattle.host_loading.specs.Books.{ShardBook}
use Rattle.host_loading.specs.Hosts.{AreShards, Stand}
use Rattle.one_caller.specs.OwnTails.{HaveOwnTails}
use Rattle.one_caller.specs.Runs.{HoldsOwnTail, LeaveBetween}
use Rattle.one_caller.proofs.OwnTails.{holds-own_tail}
use Rattle.one_caller.proofs.Running.{Begins, run-none, holds-journal}
use Rattle.desk_host.specs.SeenStores.{SeenStore, SeenJournals, store_seen, journals_seen, Logged}
use Rattle.desk_host.specs.Journals.{old_name, journal_name, IsReady}
use Rattle.desk_host.specs.Kept.{IsRunImage, KeepsJournal, KeepJournals, HoldOwnTails}
use Rattle.desk_host.proofs.CrashSteps.{crash-run, crash-since, leaves-now, stays-opened}
use Rattle.desk_host.proofs.SeenSteps.{at-place, journal-held, mapped, seen-at, seen-store}

module _ {S : Type 0} {G : Ghosts S} where
  -- the books of shards that were just loaded
  pub begins : (issuer : Setup) (prefix : List ℕ) (logs : Logged) (olds : List S) (loaded : List (Shard S G))
      (ready : IsReady issuer prefix logs olds loaded) → Begins issuer ready.old_stores ready.stores loaded
  begins issuer prefix logs olds loaded ready =
      run-none issuer ready.old_stores olds ready.stores loaded ready.opened.stores_count ready.loaded

  module _ (issuer : Setup) (prefix : List ℕ) (logs : Logged) (olds : List S) (loaded now : List (Shard S G))
      (ready : IsReady issuer prefix logs olds loaded)
      (before : AreShards issuer loaded) (after : AreShards issuer now)
      (told : (store : S) → IfSome (G.disk store) (λ disk. G.bytes store ≡ Some disk.now.bytes))
      (journals : SeenJournals) (journals_are : journals ≡ journals_seen G olds (map store_in now)) where
    module _ (last : List ShardBook) (stand : Stand issuer now last)
        (leave : LeaveBetween issuer (begins issuer prefix logs olds loaded ready).books last loaded now) where
      keeps-journal : (shard : ℕ) (was is : ShardBook) (old_seen seen : SeenStore)
          → slice_get (begins issuer prefix logs olds loaded ready).books shard ≡ Some was
          → slice_get last shard ≡ Some is → slice_get (map (store_seen G) olds) shard ≡ Some old_seen
          → slice_get (map (store_seen G) (map store_in now)) shard ≡ Some seen
          → KeepsJournal issuer shard (logs (old_name prefix shard)) (logs (journal_name prefix shard)) was is old_seen
          seen
      keeps-journal shard was is old_seen seen was_at is_at old_at seen_at =
          let books = begins issuer prefix logs olds loaded ready in
          let here = seen-at now shard seen seen_at in
          let old_here = seen-store G olds shard old_seen old_at in
          let within = slice_get_within books.books shard was was_at in
          let count = books.has_run.stand.count_is in
          let opened = ready.loaded.count_is in
          let olds_opened = ready.loaded.olds_are in
          let store = at-place ready.stores shard (omega (arith, within, count, opened)) in
          let old = at-place ready.old_stores shard (omega (arith, within, count, opened, olds_opened)) in
          let one = at-place loaded shard (omega (arith, within, count)) in
          let book = books.books_are shard old.0 store.0 one.0 was old.1 store.1 one.1 was_at in
          let log = ready.opened.stores_are shard store.0 store.1 in
          let old_log = ready.opened.olds_are shard old.0 old.1 in
          let read = ready.only_read.each shard old.0 old_here.0 old.1 old_here.1 in
          let from = ready.loaded.each shard old.0 old_here.0 store.0 one.0 old.1 old_here.1 store.1 one.1 in
          let holds = holds-journal issuer now last after stand shard here.0 is here.1 is_at in
          let old_held = logs (old_name prefix shard) in
          let held = logs (journal_name prefix shard) in
          subst (λ (s : SeenStore). KeepsJournal issuer shard old_held held was is old_seen s) here.2
          (subst (λ (s : SeenStore). KeepsJournal issuer shard old_held held was is s (store_seen G (store_in here.0)))
          old_here.2
          (record {
            old = book.old_history;
            was = record {
              journal_is =
                  journal-held issuer shard old_held held (G.bytes old.0) (G.bytes store.0) book.old_history
                  was.history old_log.bytes_are log.bytes_are book.journal_is;
              no_fault = book.counts.counted ∙ log.new;
              none_reported = book.untold;
            };
            old_stays = stays-opened told old_held old.0 old_here.0 old_log read.bytes_are read.disk_is;
            old_no_fault = from.old_counts.counted ∙ old_log.new;
            holds = holds;
            faults_are = (stand.each shard here.0 is here.1 is_at).faults_are;
            crash_now = leaves-now issuer shard is (G.bytes (store_in here.0)) (G.disk (store_in here.0)) holds;
            crash_since =
                crash-since (IsRunImage issuer shard book.old_history was.history is.history) held (G.bytes store.0)
                (G.disk store.0) (G.disk (store_in here.0))
                (crash-run issuer shard book.old_history was.history is.history (G.disk store.0)
                (G.disk (store_in one.0)) (G.disk (store_in here.0)) book.leaves
                (leave shard one.0 here.0 was is one.1 here.1 was_at is_at))
                log.untouched (told store.0) log.bytes_are;
          }))

      pub keep-journals : KeepJournals issuer prefix logs journals (begins issuer prefix logs olds loaded ready).books
          last
      keep-journals =
          let books = begins issuer prefix logs olds loaded ready in
          let olds_count : length olds ≡ issuer.shards = ready.loaded.read_are ∙ ready.opened.stores_count in
          subst (λ (js : SeenJournals). KeepJournals issuer prefix logs js books.books last) (sym journals_are)
          (record {
            olds_are = mapped (store_seen G) olds ∙ olds_count;
            stores_are = mapped (store_seen G) (map store_in now) ∙ mapped store_in now ∙ after.count_is;
            first_are = books.has_run.stand.count_is ∙ before.count_is;
            last_are = stand.count_is ∙ after.count_is;
            each = keeps-journal;
          })

  -- and each store what its shard has in doubt
  pub hold-own_tails : (issuer : Setup) (lines : List (List ℕ)) (answers : List Answer) (olds : List S)
      (now : List (Shard S G)) (last : List ShardBook) → Stand issuer now last
      → HaveOwnTails issuer lines answers last now
      → HoldOwnTails issuer lines answers (journals_seen G olds (map store_in now)) last
  hold-own_tails issuer lines answers olds now last stand own shard is seen is_at seen_at =
      let here = seen-at now shard seen seen_at in
      subst (λ (s : SeenStore). HoldsOwnTail issuer shard lines answers is.history s.bytes s.disk) here.2
      (holds-own_tail issuer lines answers last now stand own shard here.0 is here.1 is_at)
