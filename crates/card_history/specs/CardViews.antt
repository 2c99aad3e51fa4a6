-- What is shown of a card.
use Rattle.std.specs.Prelude.{List, length}
use Rattle.issuer_base.specs.declared.entry.Entry.{Entry}
use Rattle.card_history.specs.declared.card_view.CardView.{CardView}
use Rattle.issuer_base.specs.CardNames.{CardName}
use Rattle.card_history.specs.Records.{decided, greatest_atc, status_of}
use Rattle.card_history.specs.Scripts.{scripts_of}

-- a card after the history of its shard: its greatest ATC, its status, how many commands were ever queued for it and
-- are done, its batch in flight, and whether its scripts are halted
abbrev pub card_shown : CardName → List Entry → CardView
card_shown card history = record {
  hi = greatest_atc (decided card history);
  status = status_of card history;
  queued = length (scripts_of card history).queue;
  done = (scripts_of card history).done;
  flight = (scripts_of card history).flight;
  halted = (scripts_of card history).halted;
}
