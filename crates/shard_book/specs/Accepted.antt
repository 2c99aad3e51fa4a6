-- A record that the rows of a shard accepted, and what it takes to apply it.
use Rattle.std.specs.Prelude.{◌≡◌, ℕ, IsTrue}
use Rattle.issuer_base.specs.declared.entry.Entry.{Entry}
use Rattle.issuer_base.specs.declared.entry.Entry.TheVariants.{Decided}
use Rattle.card_history.specs.Records.{card_in}
use Rattle.issuer_setup.specs.IssuerSetup.{Setup}
use Rattle.journal_rec.specs.Record.{is_record}
use Rattle.line_checks.specs.AtHand.{IsCardAtHand, number_of_order, record_of}
use Rattle.shard_book.specs.declared.accepting.AcceptedRecord.{AcceptedRecord}
use Rattle.shard_book.specs.declared.accepting.AcceptedRecord.TheVariants.{Decision, Order}
use Rattle.shard_book.specs.ShardRows.{ShardRows, IsHome}
use Rattle.shard_book.specs.Steps.{IsLaunchAt}

-- the record
abbrev pub record_accepted : AcceptedRecord → Entry
record_accepted (Decision found reply launch) = Decided found.request reply.now
record_accepted (Order order) = record_of order.now

-- the number of its card
abbrev pub card_accepted : AcceptedRecord → ℕ
card_accepted (Decision found reply launch) = found.card
card_accepted (Order order) = number_of_order order.now

-- the rows can apply it: its card is one of the shard's, a decision comes with the launch of its card's row, and an
-- order has the form of a record
abbrev pub IsReady : ShardRows → AcceptedRecord → Type 0
IsReady rows (Decision found reply launch) = IsHome rows found.card × IsLaunchAt rows found launch
IsReady rows (Order order) = IsHome rows (number_of_order order.now) × IsTrue (is_record (record_of order.now))

-- it is this record, the rows can apply it, and its card is at hand
pub record IsAccepted (issuer : Setup) (rows : ShardRows) (entry : Entry) (accepted : AcceptedRecord) : Type 0 where
  pub record_is : record_accepted accepted ≡ entry
  pub ready : IsReady rows accepted
  pub card_is : IsCardAtHand issuer (card_in entry) (card_accepted accepted)
