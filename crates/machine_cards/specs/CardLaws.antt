-- What holds of cards after every run of an issuer's machines.
use Rattle.std.specs.Prelude.{◌≡◌, ◌<◌, ℕ, List, length, slice_index_or, Contains}
use Rattle.issuer_base.specs.declared.request.Request.{Request}
use Rattle.issuer_base.specs.declared.answer.Reply.{Reply}
use Rattle.issuer_base.specs.declared.entry.Entry.{Entry}
use Rattle.issuer_base.specs.declared.entry.Entry.TheVariants.{Decided}
use Rattle.card_history.specs.Records.{card_of}
use Rattle.issuer_setup.specs.IssuerSetup.{Setup}
use Rattle.journal_rec.specs.Record.{IsLineOf}
use Rattle.one_history.specs.Prefixes.{IsPrefix}
use Rattle.one_history.specs.Streams.{Text, Word}
use Rattle.one_history.specs.Machines.{Answer, World, count_at, count_of}
use Rattle.world_net.specs.declared.parts.Exchange.{Exchange}
use Rattle.world_net.specs.WorldState.{WorldState, histories_of}
use Rattle.world_net.specs.Histories.{HasRun}
use Rattle.world_net.specs.Safety.{IsSafe}
use Rattle.world_model.specs.Stepping.{IsReached}
use Rattle.world_model.specs.FallBack.{CanFallBack, fallen_back, IsGenuinelyReached, KeepsLaws}
use Rattle.machine_cards.specs.CardRecords.{AreRecords}

-- the texts are those of the histories at the end of a run of a world of cards, callers and a network, which is safe
pub record HasWorld (issuer : Setup) (texts : ℕ → List Text) : Type 0 where
  pub histories : List (List Entry)
  pub records : AreRecords issuer texts histories
  pub ran : HasRun issuer histories
  pub safe : IsSafe ran.world

-- what counts at each place of the stream has such a world, and so have the journals of each machine
pub record HaveWorlds (issuer : Setup) (machines : World) : Type 0 where
  pub counted : (place : ℕ) → HasWorld issuer (count_at machines place).histories
  pub journals : (name : Word) → HasWorld issuer (machines.machines name).journals

-- the answer names the record of this decision, in a shard of the issuer
pub record Names (issuer : Setup) (answer : Answer) (request : Request) (reply : Reply) : Type 0 where
  pub shard : answer.shard < issuer.shards
  pub line : IsLineOf (Decided request reply) answer.text

-- two replies on one ATC of a card, by whichever machines, name one record: so they are the same reply
pub record HasOneReply (issuer : Setup) (machines : World) : Type 0 where
  pub same : (first second : Answer) (request other : Request) (reply other_reply : Reply)
      → Contains machines.sent first → Contains machines.sent second
      → Names issuer first request reply → Names issuer second other other_reply
      → card_of request ≡ card_of other → request.atc ≡ other.atc → first ≡ second

-- a world of cards whose host has the journals of the machine with this name, and whose replies are replies of machines
pub record IsWorldOf (issuer : Setup) (machines : World) (name : Word) (world : WorldState) : Type 0 where
  pub issuer_is : world.issuer ≡ issuer
  pub records : AreRecords issuer (machines.machines name).journals (histories_of world)
  pub sent : (exchange : Exchange) → Contains world.sent exchange
      → (answer : Answer) × Contains machines.sent answer × Names issuer answer exchange.request exchange.reply

-- how many records of each shard count
pub record AreCounted (issuer : Setup) (machines : World) (keep : List ℕ) : Type 0 where
  pub count : length keep ≡ issuer.shards
  pub each : (shard : ℕ) → shard < issuer.shards
      → slice_index_or keep shard 0 ≡ length ((count_of machines).histories shard)

-- the world may fall back to these numbers of records, and then the laws of worlds hold of it
pub record FallsBack (world : WorldState) (keep : List ℕ) : Type 0 where
  pub can : CanFallBack world keep
  pub reached : IsReached world → IsReached (fallen_back keep world)
  pub genuine : IsGenuinelyReached world → IsGenuinelyReached (fallen_back keep world)
  pub laws : IsReached world → KeepsLaws world (fallen_back keep world)

-- if a machine is lost whose journals have all that counts, as the active one has, its host's world falls back to
-- what counts
pub record MayFallBack (issuer : Setup) (machines : World) : Type 0 where
  pub falls : (name : Word) (world : WorldState) (keep : List ℕ)
      → ((shard : ℕ) → IsPrefix ((count_of machines).histories shard) ((machines.machines name).journals shard))
      → IsWorldOf issuer machines name world → AreCounted issuer machines keep → FallsBack world keep
