-- A run of a host, one line more, and the records that its books hold.
use Rattle.std.proofs.Common.{ℕ, ◌<◌, List, [], ◌∷◌, ◌++◌, length, arith}
use Rattle.std.proofs.lemmas.Option.{slice_get_within}
use Rattle.issuer_base.specs.declared.answer.Answer.{Answer}
use Rattle.issuer_base.specs.declared.outside.store.Store.{Ghosts}
use Rattle.issuer_setup.specs.IssuerSetup.{Setup}
use Rattle.line_checks.specs.Reading.{reading}
use Rattle.shard_book.specs.declared.shard.Shard.{Shard}
use Rattle.host_loading.specs.Books.{ShardBook}
use Rattle.host_loading.specs.Hosts.{Stand}
use Rattle.one_caller.specs.OneHistory.{AreRecorded}
use Rattle.one_caller.specs.Runs.{HasRun, LeavesAnswering}
use Rattle.one_caller.specs.Turns.{Turn}
use Rattle.host_loading.proofs.Places.{read-within}
use Rattle.one_caller.proofs.Running.{has_run-more}

module _ {S : Type 0} {G : Ghosts S} where
  -- one line more is answered
  pub run-line : (issuer : Setup) (loaded : List (Shard S G)) (first : List ShardBook) (lines : List (List ℕ))
      (answers : List Answer)
      (now next : List (Shard S G)) (books : List ShardBook) (line : List ℕ) (answer : Answer)
      → HasRun issuer loaded first lines answers now books
      → ((books : List ShardBook) → Stand issuer now books
      → (after : List ShardBook) × Stand issuer next after × Turn issuer books (reading issuer line) answer after)
      → ((books : List ShardBook) → Stand issuer now books
      → LeavesAnswering issuer (reading issuer line) answer books now next)
      → (after : List ShardBook) × HasRun issuer loaded first (lines ++ line ∷ []) (answers ++ answer ∷ []) next after
  run-line issuer loaded first lines answers now next books line answer run turn leaves =
      let t = turn books run.stand in (
        t.0,
        has_run-more issuer loaded first lines answers now books run line answer next t.0 t.1 t.2
            (leaves books run.stand),
      )

  -- books that shards stand for hold records alone
  pub recorded : {issuer : Setup} {shards : List (Shard S G)} {books : List ShardBook} → Stand issuer shards books
      → AreRecorded books
  recorded {issuer} {shards} {books} stand number book is =
      let within = slice_get_within books number book is in
      let count = stand.count_is in
      let shard = read-within shards number (let w : number < length shards = omega arith in w) in
      (stand.each number shard.0 book shard.1 is).stands.journal_holds.records
