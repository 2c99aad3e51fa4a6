-- The recorded ATCs of a shard's cards.
use Rattle.std.specs.Prelude.{◌≡◌, ◌↔◌, ℕ, ◌%◌, ◌<◌, ◌≤◌, List, ◌++◌, slice_get, Some, Contains}
use Rattle.counter_bits.specs.CounterSets.{times}
use Rattle.issuer_base.specs.declared.entry.Entry.{Entry}
use Rattle.card_history.specs.declared.decision.Decision.{Decision}
use Rattle.card_history.specs.Records.{decided}
use Rattle.issuer_setup.specs.declared.card.CardInfo.{CardInfo}
use Rattle.issuer_setup.specs.CardList.{name_of}
use Rattle.issuer_setup.specs.IssuerSetup.{Setup}

-- the history has a decision on this ATC of the shard's card with this number
pub record IsRecorded (issuer : Setup) (shard : ℕ) (history : List Entry) (number counter : ℕ) : Type 0 where
  pub card : CardInfo
  pub card_is : slice_get issuer.cards number ≡ Some card
  pub home : number % issuer.shards ≡ shard
  pub decision : Decision
  pub is_decided : Contains (decided (name_of card) history) decision
  pub on_counter : decision.request.atc ≡ counter

-- the longer list appends the recorded ATCs of the shard's cards, each once, with its card's number
pub record AddsRecorded (issuer : Setup) (shard : ℕ) (history : List Entry) (list longer : List (ℕ × ℕ)) : Type 0 where
  pub added : List (ℕ × ℕ)
  pub behind : longer ≡ list ++ added
  pub once : (number counter : ℕ) → times number counter added ≤ 1
  pub exact : (number counter : ℕ) → ((0 < times number counter added) ↔ IsRecorded issuer shard history number counter)
