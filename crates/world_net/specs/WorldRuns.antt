-- The runs of worlds, and when a run is genuine.
use Rattle.std.specs.Prelude.{◌≡◌, ℕ, true, List, [], ◌∷◌, ◌++◌, length, replicate, slice_get, Some, Contains}
use Rattle.issuer_base.specs.declared.answer.Method.TheVariants.{One}
use Rattle.issuer_base.specs.declared.command.Command.{Command}
use Rattle.issuer_base.specs.declared.request.Request.{Request}
use Rattle.issuer_base.specs.declared.request.Suite.{Suite}
use Rattle.issuer_base.specs.declared.answer.Reply.{Reply}
use Rattle.issuer_base.specs.declared.entry.Entry.TheVariants.{Decided}
use Rattle.card_history.specs.Records.{card_of}
use Rattle.card_history.specs.ScriptOrder.{IsSentAt}
use Rattle.tlv_objects.specs.Writing.{object_text}
use Rattle.key_derive.specs.declared.card.KeySet.{KeySet}
use Rattle.key_derive.specs.declared.card.CardKeys.{CardKeys}
use Rattle.key_derive.specs.CardKey.{card_keys}
use Rattle.issuer_setup.specs.declared.card.CardInfo.{CardInfo}
use Rattle.issuer_setup.specs.CardList.{AreCards, number_of}
use Rattle.issuer_setup.specs.IssuerSetup.{Setup}
use Rattle.issuer_setup.specs.Shards.{are_shards}
use Rattle.card_model.specs.Application.{CardState}
use Rattle.card_model.specs.CardSteps.{new_card}
use Rattle.world_net.specs.declared.event.Event.{Event}
use Rattle.world_net.specs.declared.event.Event.TheVariants.{Authenticate, Run}
use Rattle.world_net.specs.declared.parts.Exchange.{Exchange}
use Rattle.world_net.specs.WorldState.{WorldState, no_shard, record_in, history_for}
use Rattle.world_net.specs.WorldSteps.{IsStep}

-- a possible issuer: 1 to 16 shards, and cards with different names
pub record IsIssuer (issuer : Setup) : Type 0 where
  pub shards : are_shards issuer.shards ≡ true
  pub cards : AreCards issuer.cards

-- a new card of this suite, whose keys are derived from this key set
pub record IsCardUnder (set : KeySet) (suite : Suite) (info : CardInfo) (card : CardState) : Type 0 where
  pub keys : CardKeys
  pub derived : card_keys set suite info.pan info.psn ≡ Some keys
  pub card_is : card ≡ new_card info.pan info.psn set.dki info.method keys

-- a new card of the issuer, of one suite and under one of its key sets
pub record IsNewCard (issuer : Setup) (info : CardInfo) (card : CardState) : Type 0 where
  pub set : KeySet
  pub known : Contains issuer.keys set
  pub suite : Suite
  pub under : IsCardUnder set suite info card

-- the world before any event: its cards are new, and all else is empty
pub record IsNewWorld (issuer : Setup) (world : WorldState) : Type 0 where
  pub issuer_is : world.issuer ≡ issuer
  pub count : length world.cards ≡ length issuer.cards
  pub cards : (number : ℕ) (info : CardInfo) → slice_get issuer.cards number ≡ Some info
      → (card : CardState) × (slice_get world.cards number ≡ Some card) × IsNewCard issuer info card
  pub made : world.made ≡ []
  pub shards : world.shards ≡ replicate issuer.shards no_shard
  pub claims : world.claims ≡ []
  pub sent : world.sent ≡ []

-- these events, one after another, turn a world into another
abbrev pub IsRunFrom : WorldState → List Event → WorldState → Type 0
IsRunFrom before [] after = after ≡ before
IsRunFrom before (event ∷ events) after = (between : WorldState) × IsStep before event between
    × IsRunFrom between events after

-- a run: these events turn a new world of the issuer into this world
abbrev pub IsRun : Setup → List Event → WorldState → Type 0
IsRun issuer events world = (start : WorldState) × IsNewWorld issuer start × IsRunFrom start events world

-- the card of the request made it
pub record IsMade (world : WorldState) (request : Request) : Type 0 where
  pub number : ℕ
  pub number_is : number_of (card_of request) world.issuer.cards ≡ Some number
  pub made : Contains world.made (record { card = number; request = request })

-- each request that a record decides was made by its card before the record was appended
abbrev pub DecidesMade : WorldState → WorldState → Type 0
DecidesMade before after =
    (shard place : ℕ) (request : Request) (reply : Reply) → record_in after shard place ≡ Some (Decided request reply)
    → IsMade before request

-- the bytes of the reply have this value of tag 91, after tag 8A with the response code: EMV 4.3 Book 3, Annex A
pub record HasValue (reply : Reply) (value : List ℕ) : Type 0 where
  pub rest : List ℕ
  pub bytes_are : reply.bytes.items ≡ object_text 0x8A reply.arc ++ object_text 0x91 value ++ rest

-- the card accepted the value of a reply that was sent to its open request, and by method 1 that reply's response code
pub record IsAnswered (world : WorldState) (card : CardState) (value arc : List ℕ) : Type 0 where
  pub exchange : Exchange
  pub sent : Contains world.sent exchange
  pub opened : card.open_request ≡ Some exchange.request
  pub value_is : HasValue exchange.reply value
  pub code_is : card.method ≡ One → arc ≡ exchange.reply.arc

-- the command that a card ran is the next one, by the card's count, of the batch in the record of its open request
pub record IsOfBatch (world : WorldState) (card moved : CardState) : Type 0 where
  pub request : Request
  pub opened : card.open_request ≡ Some request
  pub place : ℕ
  pub first : ℕ
  pub batch : List Command
  pub batch_is : IsSentAt (card_of request) (history_for world request) place first batch
  pub record_is : batch_is.request ≡ request
  pub command : Command
  pub command_is : slice_get batch card.count ≡ Some command
  pub ran : moved.ran ≡ card.ran ++ command ∷ []

-- a cryptogram that a card accepts in this step is genuine
abbrev pub IsAcceptedRight : (world : WorldState) (event : Event) (after : WorldState)
    → IsStep world event after → Type 0
IsAcceptedRight world (Authenticate number value arc) after step =
    step.right ≡ true → IsAnswered world step.card value.items arc
IsAcceptedRight world (Run number bytes) after step = step.right ≡ true → IsOfBatch world step.card step.moved
IsAcceptedRight world _ after step = Unit {0}

-- a genuine step: it decides requests that cards made, and a card accepts what the host made for it
pub record IsGenuineStep (world : WorldState) (event : Event) (after : WorldState) : Type 0 where
  pub step : IsStep world event after
  pub decides : DecidesMade world after
  pub accepts : IsAcceptedRight world event after step

-- these events turn a world into another by genuine steps alone
abbrev pub IsGenuineFrom : WorldState → List Event → WorldState → Type 0
IsGenuineFrom before [] after = after ≡ before
IsGenuineFrom before (event ∷ events) after = (between : WorldState) × IsGenuineStep before event between
    × IsGenuineFrom between events after

-- a genuine run
abbrev pub IsGenuineRun : Setup → List Event → WorldState → Type 0
IsGenuineRun issuer events world = (start : WorldState) × IsNewWorld issuer start × IsGenuineFrom start events world
