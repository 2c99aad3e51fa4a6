-- The script commands of a reply, one after another, as events of a world of a played run.
use Rattle.std.proofs.Common.{◌≡◌, ℕ, zero, suc, ◌+◌, ◌<◌, Bool, true, false, List, [], ◌∷◌, ◌++◌, length, take, drop, Some, None}
use Rattle.std.proofs.Common.{refl, ap, sym, ◌∙◌, subst, inl, inr, arith}
use Rattle.std.specs.Prelude.{slice_get, nat_lt}
use Rattle.std.proofs.lemmas.Bool.{cases_Bool, cond-true, cond-false, false≢true, ltb-true}
use Rattle.std.proofs.lemmas.Option.{slice_get_within}
use Rattle.issuer_base.specs.declared.command.Command.{Command}
use Rattle.issuer_base.specs.declared.entry.Entry.TheVariants.{Decided}
use Rattle.issuer_base.specs.declared.request.Request.{Request}
use Rattle.card_history.specs.Records.{card_of}
use Rattle.card_history.specs.ScriptOrder.{IsSentAt}
use Rattle.key_derive.specs.declared.card.CardKeys.{CardKeys}
use Rattle.key_derive.specs.SessionKey.{session_sm}
use Rattle.issuer_base.specs.declared.request.Suite.{Suite}
use Rattle.secure_msg.specs.Batch.{sealed_commands}
use Rattle.secure_msg.specs.Sealing.{command_mac, sealed_command, opened_command}
use Rattle.secure_msg.proofs.Opening.{opened_command-AreSealed, length-command_mac}
use Rattle.card_model.specs.Application.{CardState}
use Rattle.card_model.specs.CardSteps.{CardStep, Run as IsRun, opened_within, after_command, with_command, with_failure}
use Rattle.card_model.proofs.Steps.{command-ran, command-refused}
use Rattle.host_loading.proofs.Places.{read-written, read-other}
use Rattle.world_net.specs.declared.event.Event.{Event}
use Rattle.world_net.specs.declared.event.Event.TheVariants.{Run}
use Rattle.world_net.specs.WorldState.{WorldState, history_for, with_card}
use Rattle.world_net.specs.WorldRuns.{IsIssuer, IsGenuineStep}
use Rattle.world_play.specs.Handing.{after_commands}
use Rattle.world_play.specs.Setting.{issuer}
use Rattle.world_play.specs.Cards.{IsIssued}
use Rattle.world_play.proofs.PlayedRequests.{issued-command, issued-failure}
use Rattle.world_play.proofs.PlayedWorlds.{IsPlayed, IsSendable, IsLater, later-then, later-same, played-moved}

-- ---- the worlds of one card that moves

-- the world after events of this card alone, of which it is the second card
pub record IsMoved (cards number : ℕ) (world : WorldState) (card moved : CardState) (after : WorldState) : Type 0 where
  pub played : IsPlayed cards after
  pub card_is : slice_get after.cards number ≡ Some moved
  pub later : IsLater number world after
  pub shards_are : after.shards ≡ world.shards
  pub sent_are : after.sent ≡ world.sent
  pub counter : moved.atc ≡ card.atc
  pub opened : moved.open_request ≡ card.open_request

abbrev pub HasMoved : ℕ → ℕ → WorldState → CardState → CardState → Type 0
HasMoved cards number world card moved = (after : WorldState) × IsMoved cards number world card moved after

-- no event
pub moved-none : (cards number : ℕ) (world : WorldState) (card : CardState) → IsPlayed cards world → slice_get world.cards number ≡ Some card
    → HasMoved cards number world card card
moved-none cards number world card played card_is = (
  world,
  record {
    played = played;
    card_is = card_is;
    later = later-same number world;
    shards_are = refl;
    sent_are = refl;
    counter = refl;
    opened = refl;
  },
)

-- one event
pub moved-once : (cards number : ℕ) → IsIssuer (issuer cards) → (world : WorldState) (card moved : CardState) (event : Event) → IsPlayed cards world
    → slice_get world.cards number ≡ Some card → IsGenuineStep world event (with_card world number moved) → IsIssued number moved
    → moved.atc ≡ card.atc → moved.open_request ≡ card.open_request → IsMoved cards number world card moved (with_card world number moved)
moved-once cards number valid world card moved event played card_is step issued counter opened =
    let within = slice_get_within world.cards number card card_is in
    record {
      played = played-moved cards valid world played number moved event within step issued;
      card_is = read-written world.cards number moved within;
      later = record { others = λ other apart. read-other world.cards number moved other apart; made = λ made here. here };
      shards_are = refl;
      sent_are = refl;
      counter = counter;
      opened = opened;
    }

-- and then others
pub moved-then : (cards number : ℕ) (world between : WorldState) (card middle last : CardState) → IsMoved cards number world card middle between
    → HasMoved cards number between middle last → HasMoved cards number world card last
moved-then cards number world between card middle last one other = (
  other.0,
  record {
    played = other.1.played;
    card_is = other.1.card_is;
    later = later-then number world between other.0 one.later other.1.later;
    shards_are = other.1.shards_are ∙ one.shards_are;
    sent_are = other.1.sent_are ∙ one.sent_are;
    counter = other.1.counter ∙ one.counter;
    opened = other.1.opened ∙ one.opened;
  },
)

-- ---- one command

within-more : (count : ℕ) (suite : Suite) (key chain bytes : List ℕ) (found : Command × List ℕ) → nat_lt count 15 ≡ true
    → opened_command suite key chain bytes ≡ Some found → Some found ≡ opened_within count suite key chain bytes
unfolding opened_within
within-more count suite key chain bytes found more is = sym (cond-true (nat_lt count 15) (opened_command suite key chain bytes) None more ∙ is)

within-full : (count : ℕ) (suite : Suite) (key chain bytes : List ℕ) → nat_lt count 15 ≡ false → None ≡ opened_within count suite key chain bytes
unfolding opened_within
within-full count suite key chain bytes full = sym (cond-false (nat_lt count 15) (opened_command suite key chain bytes) None full)

step-moved : (card : CardState) (bytes : List ℕ) (right : Bool) (moved : CardState) → CardStep card (IsRun bytes right) moved
    → (after_command card bytes).1 ≡ moved
unfolding CardStep
step-moved card bytes right moved step = ap (λ (p : Bool × CardState). p.1) (sym step)

-- what is known of a card that may run commands
pub record CanRun (number : ℕ) (card : CardState) (request : Request) (chain : List ℕ) : Type 0 where
  pub issued : IsIssued number card
  pub opened : card.open_request ≡ Some request
  pub chained : card.chain ≡ Some chain

can-run : (number : ℕ) (card : CardState) (request : Request) (chain : List ℕ) (command : Command) (next : List ℕ) → card.count < 15
    → CanRun number card request chain → CanRun number (with_command card command next) request next
unfolding with_command
can-run number card request chain command next more can =
    record { issued = issued-command number card can.issued command next more; opened = can.opened; chained = refl }

can-fail : (number : ℕ) (card : CardState) (request : Request) (chain : List ℕ) → CanRun number card request chain
    → CanRun number (with_failure card) request chain
unfolding with_failure
can-fail number card request chain can = record { issued = issued-failure number card can.issued; opened = can.opened; chained = can.chained }

ran-one : (card : CardState) (command : Command) (next : List ℕ) → (with_command card command next).ran ≡ card.ran ++ command ∷ []
unfolding with_command
ran-one card command next = refl

command-stays : (card : CardState) (command : Command) (next : List ℕ)
    → ((with_command card command next).atc ≡ card.atc) × ((with_command card command next).open_request ≡ card.open_request)
    × ((with_command card command next).keys ≡ card.keys) × ((with_command card command next).count ≡ card.count + 1)
unfolding with_command
command-stays card command next = (refl, refl, refl, refl)

failure-stays : (card : CardState) → ((with_failure card).atc ≡ card.atc) × ((with_failure card).open_request ≡ card.open_request)
    × ((with_failure card).count ≡ card.count)
unfolding with_failure
failure-stays card = (refl, refl, refl)

-- ---- all commands

module _ {X : Type 0} where
  drop-found : (xs : List X) (n : ℕ) (x : X) (rest : List X) → drop n xs ≡ x ∷ rest → slice_get xs n ≡ Some x
  drop-found [] zero x rest is = absurd (cc)
  drop-found [] (suc n) x rest is = absurd (cc)
  drop-found (y ∷ xs) zero x rest is = ap (λ (ys : List X). slice_get ys 0) is
  drop-found (y ∷ xs) (suc n) x rest is = drop-found xs n x rest is

  drop-left : (xs : List X) (n : ℕ) (x : X) (rest : List X) → drop n xs ≡ x ∷ rest → drop (suc n) xs ≡ rest
  drop-left [] zero x rest is = absurd (cc)
  drop-left [] (suc n) x rest is = absurd (cc)
  drop-left (y ∷ xs) zero x rest is = ap (λ (ys : List X). drop 1 ys) is
  drop-left (y ∷ xs) (suc n) x rest is = drop-left xs n x rest is

  -- what stands behind a count begins with the element at it
  drop-read : (xs : List X) (n : ℕ) (x : X) (rest : List X) → drop n xs ≡ x ∷ rest → (slice_get xs n ≡ Some x) × (drop (n + 1) xs ≡ rest)
  drop-read xs n x rest is =
      (drop-found xs n x rest is, subst (λ m. drop m xs ≡ rest) (let e : suc n ≡ n + 1 = omega arith in e) (drop-left xs n x rest is))

abbrev pub AreSendable : List Command → Type 0
AreSendable [] = Unit {0}
AreSendable (command ∷ commands) = IsSendable command × AreSendable commands

-- what is known of the card that ran some
pub record IsRunning (cards number : ℕ) (world : WorldState) (card moved : CardState) : Type 0 where
  pub has : HasMoved cards number world card moved
  pub chain : List ℕ
  pub chained : moved.chain ≡ Some chain

module _ (cards number : ℕ) (valid : IsIssuer (issuer cards)) (request : Request) where
  -- a command that isn't opened
  fails : (world : WorldState) (card : CardState) (chain bytes : List ℕ) → IsPlayed cards world → slice_get world.cards number ≡ Some card
      → CanRun number card request chain → CardStep card (IsRun bytes false) (with_failure card)
      → IsMoved cards number world card (with_failure card) (with_card world number (with_failure card))
  fails world card chain bytes played card_is can step =
      let stays = failure-stays card in
      moved-once cards number valid world card (with_failure card) (Run number (record { items = bytes })) played card_is (record {
        step = record { card = card; moved = with_failure card; right = false; card_is = card_is; step = step; after_is = refl };
        decides = λ shard place other reply is. played.records shard place (Decided other reply) is;
        accepts = λ right. absurd (false≢true right);
      }) (can-fail number card request chain can).issued stays.0 stays.1

  -- commands at a full count
  all-fail : (list : List (List ℕ)) (world : WorldState) (card : CardState) (chain : List ℕ) → IsPlayed cards world → slice_get world.cards number ≡ Some card
      → CanRun number card request chain → nat_lt card.count 15 ≡ false → IsRunning cards number world card (after_commands card list)
  all-fail [] world card chain played card_is can full =
      record { has = moved-none cards number world card played card_is; chain = chain; chained = can.chained }
  all-fail (bytes ∷ list) world card chain played card_is can full =
      let step = command-refused card request chain bytes can.opened can.chained
      (within-full card.count card.keys.suite (session_sm card.keys.suite card.keys.smi.0 request.ac) chain bytes full) in
      let one = fails world card chain bytes played card_is can step in
      let still : nat_lt (with_failure card).count 15 ≡ false = ap (λ n. nat_lt n 15) (failure-stays card).2 ∙ full in
      let rest = all-fail list (with_card world number (with_failure card)) (with_failure card) chain one.played one.card_is
      (can-fail number card request chain can) still in
      subst (λ (next : CardState). IsRunning cards number world card (after_commands next list)) (sym (step-moved card bytes false (with_failure card) step))
      (record {
        has = moved-then cards number world (with_card world number (with_failure card)) card (with_failure card)
            (after_commands (with_failure card) list) one rest.has;
        chain = rest.chain;
        chained = rest.chained;
      })

  -- the sealed commands of a batch, from the one that the card's count says on
  pub run-all : (rest : List Command) (k : ℕ) (chain : List ℕ) (world : WorldState) (card : CardState) (place first : ℕ) (batch : List Command)
      (keys : CardKeys) → length (session_sm keys.suite keys.smi.0 request.ac) ≡ 16
      → IsPlayed cards world → slice_get world.cards number ≡ Some card → CanRun number card request chain → card.keys ≡ keys
      → (sent : IsSentAt (card_of request) (history_for world request) place first batch) → sent.request ≡ request
      → drop card.count batch ≡ rest → AreSendable rest
      → IsRunning cards number world card (after_commands card (take k (sealed_commands keys.suite (session_sm keys.suite keys.smi.0 request.ac) chain rest)))
  unfolding sealed_commands
  run-all [] zero chain world card place first batch keys sixteen played card_is can same sent sent_is behind fit =
      record { has = moved-none cards number world card played card_is; chain = chain; chained = can.chained }
  run-all [] (suc k) chain world card place first batch keys sixteen played card_is can same sent sent_is behind fit =
      record { has = moved-none cards number world card played card_is; chain = chain; chained = can.chained }
  run-all (command ∷ rest) zero chain world card place first batch keys sixteen played card_is can same sent sent_is behind fit =
      record { has = moved-none cards number world card played card_is; chain = chain; chained = can.chained }
  run-all (command ∷ rest) (suc k) chain world card place first batch keys sixteen played card_is can same sent sent_is behind fit =
      let suite = keys.suite in
      let key = session_sm suite keys.smi.0 request.ac in
      let next = command_mac suite key chain command in
      let bytes = sealed_command suite key chain command in
      let later = take k (sealed_commands suite key next rest) in
      elim (cases_Bool (nat_lt card.count 15)) [
        | inl more ↦
            let eight = length-command_mac suite key chain command sixteen in
            let found : opened_command card.keys.suite (session_sm card.keys.suite card.keys.smi.0 request.ac) chain bytes ≡ Some (command, next) =
            ap (λ (keys : CardKeys). opened_command keys.suite (session_sm keys.suite keys.smi.0 request.ac) chain bytes) same
            ∙ opened_command-AreSealed suite key chain bytes next command
            (record { form = fit.0.form; room = fit.0.room; spelled = refl; chained = refl; eight = eight }) in
            let step = command-ran card request chain bytes command next can.opened can.chained
            (within-more card.count card.keys.suite (session_sm card.keys.suite card.keys.smi.0 request.ac) chain bytes (command, next) more found) in
            let few : card.count < 15 = ltb-true card.count 15 more in
            let moved = with_command card command next in
            let stays = command-stays card command next in
            let read = drop-read batch card.count command rest behind in
            let one = moved-once cards number valid world card moved (Run number (record { items = bytes })) played card_is (record {
              step = record { card = card; moved = moved; right = true; card_is = card_is; step = step; after_is = refl };
              decides = λ shard place other reply is. played.records shard place (Decided other reply) is;
              accepts = λ right. record {
                request = request;
                opened = can.opened;
                place = place;
                first = first;
                batch = batch;
                batch_is = sent;
                record_is = sent_is;
                command = command;
                command_is = read.0;
                ran = ran-one card command next;
              };
            }) (can-run number card request chain command next few can).issued stays.0 stays.1 in
            let behind' : drop moved.count batch ≡ rest = ap (λ n. drop n batch) stays.3 ∙ read.1 in
            let others = run-all rest k next (with_card world number moved) moved place first batch keys sixteen one.played one.card_is
            (can-run number card request chain command next few can) (stays.2 ∙ same) sent sent_is behind' fit.1 in
            subst (λ (after : CardState). IsRunning cards number world card (after_commands after later)) (sym (step-moved card bytes true moved step))
            (record {
              has = moved-then cards number world (with_card world number moved) card moved (after_commands moved later) one others.has;
              chain = others.chain;
              chained = others.chained;
            })
        | inr full ↦ all-fail (bytes ∷ later) world card chain played card_is can full
      ]
