-- Whole lines of a feed that were read ahead of their turns. A line is given without its newline.
use Rattle.std.specs.Prelude.{◌≡◌, ◌⊎◌, ℕ, ◌<◌, ◌≤◌, List, [], length, Option, None, Result, Err}
use Rattle.std.specs.List.{AllByRecursion, AllZip}
use Rattle.issuer_base.specs.declared.answer.Refusal.{Refusal}
use Rattle.issuer_base.specs.declared.answer.Refusal.TheVariants.{UnknownCard}
use Rattle.issuer_base.specs.declared.entry.Entry.{Entry}
use Rattle.arpc_methods.specs.Batch.{answers_at}
use Rattle.arpc_methods.specs.declared.ahead.AnswerParts.{AnswerParts}
use Rattle.arpc_methods.specs.declared.batch.TheConstants.{FEWEST_IN_LANES}
use Rattle.issuer_setup.specs.IssuerSetup.{Setup}
use Rattle.journal_rec.specs.Record.{IsLineOf, IsRecord}
use Rattle.journal_rec.specs.RecordText.{text_of}
use Rattle.line_checks.specs.declared.looked_up.LookedUp.{LookedUp}
use Rattle.line_reader.specs.Lines.{IsUnbroken}
use Rattle.shard_book.specs.Answers.{answer_of}
use Rattle.shard_book.specs.Taking.{IsReadRecord}
use Rattle.standby_node.specs.declared.feed_lines.FeedLines.{FeedLines}
use Rattle.standby_node.specs.declared.line.ReadLine.{ReadLine}
use Rattle.standby_node.specs.declared.line.ReadLine.TheVariants.{Bad, Behind, NoRecord, Record}
use Rattle.standby_node.specs.FeedLines.{HasNoHead, IsFor, IsTooLong, NamesNoShard}

-- ---- what a line was read as

-- the line is bad, whatever records the shards have
abbrev pub IsBadAnyway : List (List Entry) → List ℕ → Type 0
IsBadAnyway histories line = IsTooLong line ⊎ HasNoHead line ⊎ NamesNoShard histories line

-- its shard has a record with its index
pub record IsBehind (histories : List (List Entry)) (line : List ℕ) : Type 0 where
  pub shard : ℕ
  pub place : ℕ
  pub rest : List ℕ
  pub history : List Entry
  pub is_for : IsFor histories line shard place rest history
  pub behind : place < length history

-- the line is for this shard, with this index, and what follows them is so
pub record IsAt (histories : List (List Entry)) (line : List ℕ) (shard place : ℕ) (IsRest : List ℕ → Type 0)
    : Type 0 where
  pub rest : List ℕ
  pub history : List Entry
  pub is_for : IsFor histories line shard place rest history
  pub rest_is : IsRest rest

-- the text is the line of no record
abbrev pub IsNoLine : List ℕ → Type 0
IsNoLine text = (entry : Entry) → IsLineOf entry text → ⊥

-- what the line was read as is so of shards with these histories
abbrev pub IsReadAs : List (List Entry) → List ℕ → ReadLine → Type 0
IsReadAs histories line Bad = IsBadAnyway histories line
IsReadAs histories line Behind = IsBehind histories line
IsReadAs histories line (NoRecord shard place) = IsAt histories line shard place IsNoLine
IsReadAs histories line (Record shard place entry) = IsAt histories line shard place (IsLineOf entry)

-- the lines that were read ahead are these
pub record AreAhead (histories : List (List Entry)) (lines : List (List ℕ)) (ahead : FeedLines) : Type 0 where
  pub whole : AllByRecursion IsUnbroken lines
  pub read : AllZip (IsReadAs histories) lines ahead.lines.items

-- no line was read ahead
pub record IsNoneAhead (ahead : FeedLines) : Type 0 where
  pub no_lines : ahead.lines.items ≡ []
  pub none_found : ahead.found.items ≡ []

-- ---- what it takes to take them

-- its shard is one of the issuer's, and its record is well formed
abbrev pub IsFormed : Setup → ReadLine → Type 0
IsFormed issuer (NoRecord shard place) = shard < issuer.shards
IsFormed issuer (Record shard place entry) = (shard < issuer.shards) × IsRecord entry
IsFormed issuer line = Unit {0}

-- and this was looked up for the record
abbrev pub IsReady : Setup → ReadLine → Result LookedUp Refusal → Type 0
IsReady issuer (NoRecord shard place) found = (shard < issuer.shards) × (found ≡ Err UnknownCard)
IsReady issuer (Record shard place entry) found =
    (shard < issuer.shards) × IsReadRecord issuer entry (text_of entry) found
IsReady issuer line found = found ≡ Err UnknownCard

-- so it is of each line that was read ahead
abbrev pub AreReady : Setup → FeedLines → Type 0
AreReady issuer ahead = AllZip (IsReady issuer) ahead.lines.items ahead.found.items

-- ---- what is made ahead of their turns

-- what the issuer authentication data of a line's record are made of, if it has one that they are made of
abbrev pub answer_of_line : Setup → ReadLine → Result LookedUp Refusal → Option AnswerParts
answer_of_line issuer (Record shard place entry) found = answer_of issuer entry found
answer_of_line issuer line found = None

-- with enough answers their data are made: those of each line, by its index
abbrev pub AreMade : Setup → FeedLines → Type 0
AreMade issuer ahead =
    FEWEST_IN_LANES ≤ answers_at (answer_of_line issuer) ahead.lines.items ahead.found.items
    → ahead.answers.made ≡ length ahead.lines.items
