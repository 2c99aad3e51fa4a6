-- The room of a run's stores and the place for its counts: what each move and each step may use of them.
use Rattle.std.specs.Prelude.{◌≡◌, ℕ, zero, suc, ◌+◌, ◌*◌, ◌%◌, ◌<◌, ◌≤◌, ◌==◌, if◌then◌else◌, List, [], length, slice_get, Option, None, Some}
use Rattle.store_edge.specs.RoomStores.{RoomState}
use Rattle.issuer_base.specs.declared.request.Parts.{Parts}
use Rattle.issuer_setup.specs.IssuerSetup.{Setup}
use Rattle.journal_rec.specs.declared.limits.TheConstants.{MOST_QUEUED_BYTES, MOST_RECORD_BYTES}
use Rattle.card_model.specs.Application.{CardState}
use Rattle.line_checks.specs.Reading.{reading}
use Rattle.terminal_kernel.specs.ChipText.{request_line}
use Rattle.host_loading.specs.StoreRoom.{HaveRoom, StoresHaveRoom}
use Rattle.one_caller.specs.Room.{added_at, added_by}
use Rattle.world_net.specs.WorldRuns.{IsIssuer}
use Rattle.world_play.specs.declared.house.House.{House}
use Rattle.world_play.specs.declared.moves.Move.{Move}
use Rattle.world_play.specs.declared.moves.Move.TheVariants.{Queue, Ask, AskSpoiled}
use Rattle.world_play.specs.declared.player.Player.{Player}
use Rattle.world_play.specs.declared.setting.Step.{Step}
use Rattle.world_play.specs.declared.summary.Summary.{Summary}
use Rattle.world_play.specs.Play.{Makes}
use Rattle.world_play.specs.Reaching.{Reaches}
use Rattle.world_play.specs.Cards.{IsIssued, IsRight}
use Rattle.world_play.specs.Setting.{issuer}

-- ---- the stores at the start

-- how many bytes of room a store has for each step of its shard's cards: more than a step's records have
abbrev pub step_room : ℕ
step_room = 1024

-- one where the step with this number is one of a card of this shard, and else none
abbrev pub one_of : ℕ → ℕ → ℕ → ℕ
one_of cards shard index = if shard == index % cards % 4 then 1 else 0

-- how many of the first steps are those of cards of this shard
abbrev pub steps_of : ℕ → ℕ → ℕ → ℕ
steps_of cards shard zero = 0
steps_of cards shard (suc index) = steps_of cards shard index + one_of cards shard index

-- the store of this shard is empty, never failed, and has room for so many steps
pub record IsOpened (cards steps shard : ℕ) (store : RoomState) : Type 0 where
  pub empty : store.held ≡ []
  pub faults_are : store.faults ≡ 0
  pub room_is : store.room ≡ 64 + step_room * steps_of cards shard steps

-- the stores are empty
abbrev pub AreEmpty : List RoomState → Type 0
AreEmpty stores = (shard : ℕ) (store : RoomState) → slice_get stores shard ≡ Some store → store.held ≡ []

-- the old stores and the stores have the room that a load may need, and so many more bytes, by the shard's number
abbrev pub HaveRoomToLoad : (ℕ → ℕ) → List RoomState → List RoomState → Type 0
HaveRoomToLoad spare olds stores =
    StoresHaveRoom (λ store. length store.held) (λ store. Some store.room) spare olds stores

-- ---- what is used

-- the stores of a host have room for so many bytes, by the shard's number
abbrev pub RoomFor : (ℕ → ℕ) → House → Type 0
RoomFor bytes house = HaveRoom bytes house.host.shards.items

-- at most so many bytes of room are used, by the shard's number
abbrev pub UsesAtMost : (ℕ → ℕ) → House → House → Type 0
UsesAtMost bytes old new = (spare : ℕ → ℕ) → RoomFor (λ number. bytes number + spare number) old → RoomFor spare new

-- how many bytes the answer to the line of a request in hand, changed so, adds at most, by the shard's number
abbrev pub asked_bytes : Setup → (Parts → Parts) → Option Parts → ℕ → ℕ
asked_bytes issuer change None number = 0
asked_bytes issuer change (Some request) number = added_by issuer
    (reading issuer (request_line (change request))) number

-- how many bytes a move adds to its card's shard at most
abbrev pub moved_bytes : Move → ℕ
moved_bytes (Queue number) = MOST_QUEUED_BYTES
moved_bytes Ask = MOST_RECORD_BYTES
moved_bytes AskSpoiled = MOST_RECORD_BYTES
moved_bytes _ = 0

-- no count is greater than this
pub record CountsWithin (most : ℕ) (tally : Summary) : Type 0 where
  pub taps : tally.taps ≤ most
  pub fresh : tally.fresh ≤ most
  pub approved : tally.approved ≤ most
  pub kept : tally.kept ≤ most
  pub refused : tally.refused ≤ most
  pub authenticated : tally.authenticated ≤ most
  pub unauthenticated : tally.unauthenticated ≤ most
  pub queued : tally.queued ≤ most

-- each count is at most so much greater
abbrev pub CountsAtMost : ℕ → House → House → Type 0
CountsAtMost more old new = (most : ℕ) → CountsWithin most old.tally → CountsWithin (most + more) new.tally

-- up to here all counts have a place
abbrev pub most_counted : ℕ
most_counted = 4000000

-- each count can grow so often
pub record CanCount (times : ℕ) (tally : Summary) : Type 0 where
  pub most : ℕ
  pub few : most + times ≤ most_counted
  pub within : CountsWithin most tally

-- ---- whose turn it is

-- it is the card with this number, and its requests in hand and held back are its own
pub record IsOwn (cards number : ℕ) (card : CardState) (request held : Option Parts) : Type 0 where
  pub issued : IsIssued number card
  pub counter : card.atc ≤ 65535
  pub register : card.register ≤ 65535
  pub asks : (parts : Parts) → request ≡ Some parts → IsRight cards number parts
  pub holds : (parts : Parts) → held ≡ Some parts → IsRight cards number parts

abbrev pub IsOf : ℕ → ℕ → Player → Type 0
IsOf cards number player = IsOwn cards number player.card player.request player.held

-- whichever card of a run it was, it is that one
abbrev pub StaysOf : Player → Player → Type 0
StaysOf before after = (cards number : ℕ) → IsIssuer (issuer cards) → number < cards → IsOf cards number before
    → IsOf cards number after

-- the host is that of a run, and it is the turn of one of its cards
pub record IsTurn (step : Step) (house : House) (player : Player) : Type 0 where
  pub cards : ℕ
  pub valid : IsIssuer (issuer cards)
  pub below : step.card < cards
  pub issuer_is : house.host.issuer ≡ issuer cards
  pub own : IsOf cards step.card player

-- a move is made within its bytes, and each count is at most one greater
pub record IsMade (step : Step) (next : Move) (old : House) (before : Player) (new : House)
    (after : Player) : Type 0 where
  pub reached : Reaches (Makes old.host.issuer step next) old before new after
  pub own : StaysOf before after
  pub room : UsesAtMost (added_at (step.card % 4) (moved_bytes next)) old new
  pub counts : CountsAtMost 1 old new
