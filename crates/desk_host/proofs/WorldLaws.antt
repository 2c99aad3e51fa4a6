-- What is sure of every run: the law of its histories, and of the worlds that come to them.
use Rattle.std.proofs.Common.{◌≡◌, ℕ, zero, suc, List, [], ◌∷◌, length, All, None, Some, refl, ◌∙◌}
use Rattle.std.specs.Prelude.{slice_get, slice_index_or}
use Rattle.std.proofs.lemmas.List.{length-map}
use Rattle.std.proofs.lemmas.List.Elements.{All-nil, All-weaker}
use Rattle.issuer_base.specs.declared.entry.Entry.{Entry}
use Rattle.card_history.specs.LegalRecords.{IsLegalHistory}
use Rattle.card_history.proofs.CommandsInOrder.{in_order}
use Rattle.issuer_setup.specs.IssuerSetup.{Setup}
use Rattle.journal_rec.specs.Record.{IsEntry, IsRecord}
use Rattle.shard_book.specs.Grounds.{grounds_of}
use Rattle.host_loading.specs.Books.{ShardBook, histories_of}
use Rattle.one_caller.specs.OneHistory.{AreLegalBooks, AreRecorded, GoOnLegally}
use Rattle.one_caller.proofs.LegalBooks.{legal-once}
use Rattle.one_caller.proofs.OneRun.{on-legal}
use Rattle.world_net.specs.Histories.{AreHeld, AreLegal}
use Rattle.world_net.proofs.Worlds.{sound-run, sound-safe}
use Rattle.world_net.proofs.KeptWorlds.{kept-run_end, kept-in_order}
use Rattle.world_net.proofs.FilledRuns.{histories-run}
use Rattle.desk_host.specs.Configuration.{HasSoundParts}
use Rattle.desk_host.specs.Lawful.{IsLawful}
use Rattle.desk_host.specs.Worlds.{HaveSafeWorlds}

-- what is true of each book's history, and of no records, is true of the history at any number
history-at : (books : List ShardBook) (shard : ℕ) (P : List Entry → Type 0)
    → ((book : ShardBook) → slice_get books shard ≡ Some book → P book.history)
    → P [] → P (slice_index_or (histories_of books) shard [])
history-at [] shard P each none = none
history-at (book ∷ books) zero P each none = each book refl
history-at (book ∷ books) (suc shard) P each none = history-at books shard P each none

-- no records are legal
legal-none : (issuer : Setup) (shard : ℕ) → IsLegalHistory (grounds_of issuer) shard []
legal-none issuer shard place entry is = absurd (let e : None ≡ Some entry = is in cc)

are-legal : (issuer : Setup) (books : List ShardBook) → length books ≡ issuer.shards → AreLegalBooks issuer books
    → AreLegal issuer (histories_of books)
are-legal issuer books count legal = record {
  count = length-map books (λ book. book.history) ∙ count;
  each =
      λ shard. history-at books shard (IsLegalHistory (grounds_of issuer) shard) (legal shard)
      (legal-none issuer shard);
}

-- records are entries as the program holds them
are-held : (books : List ShardBook) → AreRecorded books → AreHeld (histories_of books)
are-held books recorded shard =
    history-at books shard (All IsEntry)
    (λ book is. All-weaker IsRecord IsEntry (λ entry record_is. record_is.held) book.history (recorded shard book is))
    (All-nil IsEntry)

-- each world of the issuer is safe, and runs its cards' commands in order where it is genuine; and one has these
-- histories
safe-worlds : (issuer : Setup) (first last : List ShardBook) → HasSoundParts issuer → length first ≡ issuer.shards
    → length last ≡ length first
    → GoOnLegally issuer first last → AreRecorded last → HaveSafeWorlds issuer (histories_of last)
safe-worlds issuer first last sound count more on recorded =
    let legal = on-legal issuer first last (record { count_is = more; on = on }) in
    record {
      each_is_safe = λ events world run. sound-safe world (sound-run issuer events world sound.valid run);
      each_runs_in_order = λ events world run. kept-in_order world (kept-run_end issuer events world sound.valid run);
      some_run =
          histories-run issuer (histories_of last) sound.valid sound.keys (are-legal issuer last (more ∙ count) legal)
          (are-held last recorded);
    }

-- books that go on legally are those of a lawful run
pub is-lawful : (issuer : Setup) (first last : List ShardBook) → HasSoundParts issuer → length first ≡ issuer.shards
    → length last ≡ length first
    → GoOnLegally issuer first last → AreRecorded last → IsLawful issuer first last
is-lawful issuer first last sound count more on recorded = record {
  goes_on = on;
  once = legal-once issuer last (on-legal issuer first last (record { count_is = more; on = on }));
  in_order = λ card shard. in_order card (slice_index_or (histories_of last) shard []);
  worlds = safe-worlds issuer first last sound count more on recorded;
}
