-- A feed: the records of journals as lines, each with its shard and its index.
use Rattle.std.specs.Prelude.{◌≡◌, ℕ, ◌^◌, ◌<◌, List, ◌∷◌, ◌++◌}
use Rattle.std.specs.Fmt.{decimal}
use Rattle.issuer_base.specs.declared.entry.Entry.{Entry}
use Rattle.journal_rec.specs.RecordText.{space, text_of}
use Rattle.feed_text.specs.declared.limits.TheConstants.{PLACE_END}

-- a shard and an index in shortest decimals, each followed by a space, and then this text
abbrev pub headed : ℕ → ℕ → List ℕ → List ℕ
headed shard place rest = decimal shard ++ space ∷ (decimal place ++ space ∷ rest)

-- the feed line of the record at this index of a shard's journal: the shard, the index, and the record's line
abbrev pub feed_line : ℕ → ℕ → Entry → List ℕ
feed_line shard place entry = headed shard place (text_of entry)

-- the line begins with this shard and this index, and this follows them
pub record HasHead (line : List ℕ) (shard place : ℕ) (rest : List ℕ) : Type 0 where
  pub line_is : line ≡ headed shard place rest
  pub shard_fits : shard < 2 ^ 64
  pub place_fits : place < PLACE_END
