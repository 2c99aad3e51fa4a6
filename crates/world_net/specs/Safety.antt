-- When a world is safe.
use Rattle.std.specs.Prelude.{◌≡◌, ◌≤◌, ℕ, ◌+◌, ◌%◌, false, List, ◌++◌, length, slice_get, Some, Contains}
use Rattle.std.specs.Option.{option_map_or}
use Rattle.issuer_base.specs.declared.command.Command.{Command}
use Rattle.issuer_base.specs.declared.answer.Reply.{Reply}
use Rattle.issuer_base.specs.declared.entry.Entry.{Entry}
use Rattle.issuer_base.specs.declared.entry.Entry.TheVariants.{Decided}
use Rattle.issuer_base.specs.CardNames.{CardName}
use Rattle.card_history.specs.Records.{queue}
use Rattle.card_history.specs.Scripts.{scripts_of}
use Rattle.card_history.specs.OneReply.{IsOncePerCounter}
use Rattle.issuer_setup.specs.declared.card.CardInfo.{CardInfo}
use Rattle.issuer_setup.specs.CardList.{name_of}
use Rattle.card_model.specs.Application.{CardState}
use Rattle.world_net.specs.declared.parts.Exchange.{Exchange}
use Rattle.world_net.specs.WorldState.{WorldState, shard_at, histories_of, record_in}

-- each reply that was sent is that of its record, and so all replies to one request are the same
pub record HasOneReply (world : WorldState) : Type 0 where
  pub recorded : (exchange : Exchange) → Contains world.sent exchange
      → (shard : ℕ) × (place : ℕ) × (record_in world shard place ≡ Some (Decided exchange.request exchange.reply))
  pub of_record : (exchange : Exchange) (shard place : ℕ) (reply : Reply) → Contains world.sent exchange
      → record_in world shard place ≡ Some (Decided exchange.request reply) → exchange.reply ≡ reply
  pub same : (first second : Exchange) → Contains world.sent first → Contains world.sent second
      → first.request ≡ second.request
      → first.reply ≡ second.reply

-- what holds in each run: no two decided records name the same card and counter, and each request has one reply
pub record IsSafe (world : WorldState) : Type 0 where
  pub once : IsOncePerCounter (histories_of world)
  pub one_reply : HasOneReply world

-- the commands that a card ran are a prefix of its queue, in order, each once: all that are done, and none after those
-- in flight; and the card's scripts aren't halted
pub record RanInOrder (name : CardName) (history : List Entry) (ran : List Command) : Type 0 where
  pub rest : List Command
  pub front : queue name history ≡ ran ++ rest
  pub at_least : (scripts_of name history).done ≤ length ran
  pub at_most : length ran ≤ (scripts_of name history).done + option_map_or (λ flight. flight.size)
      (scripts_of name history).flight 0
  pub goes_on : (scripts_of name history).halted ≡ false

-- what also holds in a genuine run: each card ran its commands in order
abbrev pub RunsInOrder : WorldState → Type 0
RunsInOrder world =
    (number : ℕ) (info : CardInfo) (card : CardState) → slice_get world.issuer.cards number ≡ Some info
    → slice_get world.cards number ≡ Some card
    → RanInOrder (name_of info) (shard_at world (number % world.issuer.shards)).history card.ran
