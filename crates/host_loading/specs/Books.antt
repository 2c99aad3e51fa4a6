-- What a host's shards hold: a book for each of them.
use Rattle.std.specs.Prelude.{ℕ, List, map}
use Rattle.issuer_base.specs.declared.entry.Entry.{Entry}

-- a shard's history, its store's fault count, and how many of the shard's answers since loading reported that the store
-- failed
pub record ShardBook : Type 0 where
  pub history : List Entry
  pub faults : ℕ
  pub reported : ℕ

-- the histories alone
abbrev pub histories_of : List ShardBook → List (List Entry)
histories_of books = map (λ book. book.history) books
