-- A reply that reaches a card of a played run: the issuer's answer, and the script commands behind it.
use Rattle.std.proofs.Common.{◌≡◌, ℕ, zero, suc, Bool, true, false, List, [], ◌∷◌, length, take, drop, Option, Some, None}
use Rattle.std.proofs.Common.{Contains, refl, ap, ap₂, sym, ◌∙◌, subst, inl, inr, ◌⊎◌, cond}
use Rattle.std.specs.List.{cons_option}
use Rattle.std.specs.Prelude.{slice_get}
use Rattle.std.specs.Option.{option_map_or}
use Rattle.std.proofs.lemmas.Bool.{false≢true}
use Rattle.std.proofs.lemmas.Option.{same_Some}
use Rattle.issuer_base.specs.declared.answer.Method.{Method}
use Rattle.issuer_base.specs.declared.answer.Reply.{Reply}
use Rattle.issuer_base.specs.declared.command.Command.{Command}
use Rattle.issuer_base.specs.declared.request.Request.{Request}
use Rattle.issuer_base.specs.declared.entry.Entry.{Entry}
use Rattle.issuer_base.specs.declared.entry.Entry.TheVariants.{Decided, Queued, Status}
use Rattle.cvr_settle.specs.declared.settlement.Flight.{Flight}
use Rattle.cvr_settle.specs.declared.settlement.Settled.TheVariants.{Ran, Nothing, Halt}
use Rattle.cvr_settle.specs.Settlement.{settled}
use Rattle.issuer_base.specs.ChipData.{last_online, script_count}
use Rattle.issuer_base.specs.CardNames.{CardName}
use Rattle.card_history.specs.Records.{card_of, queue, has_numbers}
use Rattle.card_history.specs.Scripts.{Scripts, scripts_of, batch_of, first_of, is_newest, in_flight, with_newest, launched, settled_by, undone}
use Rattle.card_history.specs.ScriptOrder.{IsSentAt}
use Rattle.card_history.proofs.CardNames.{is_of-card_of}
use Rattle.card_history.proofs.ScriptSteps.{scripts-queue}
use Rattle.issuer_setup.specs.declared.card.CardInfo.{CardInfo}
use Rattle.issuer_setup.specs.CardList.{number_of}
use Rattle.issuer_setup.specs.IssuerSetup.{Setup, keys_of}
use Rattle.key_derive.specs.CardKey.{des_keys}
use Rattle.key_derive.specs.SessionKey.{session_ac, session_sm}
use Rattle.key_derive.proofs.Lengths.{length-des_session_ac, length-des_session_sm}
use Rattle.issuer_base.specs.declared.request.Suite.TheVariants.{TripleDes}
use Rattle.key_derive.specs.declared.card.CardKeys.{CardKeys}
use Rattle.arpc_methods.specs.Arpc.{value91}
use Rattle.secure_msg.specs.Batch.{sealed_commands}
use Rattle.row_core.specs.Accepting.{told_update}
use Rattle.row_core.specs.Replying.{script_bytes}
use Rattle.card_model.specs.Application.{CardState, is_answer}
use Rattle.card_model.specs.CardSteps.{CardStep, Authenticate as IsAuthenticate, authenticated, answered_at, with_answer}
use Rattle.card_model.proofs.Steps.{answer-right, answer-wrong}
use Rattle.world_net.specs.declared.event.Event.TheVariants.{Authenticate}
use Rattle.world_net.specs.WorldState.{WorldState, shard_at, home_of, history_for, with_card}
use Rattle.world_net.specs.WorldRuns.{IsIssuer}
use Rattle.world_net.proofs.Worlds.{home-shard}
use Rattle.world_play.specs.Handing.{answer_in, commands_in, spoil_first, after_commands, where_right, after_answer}
use Rattle.world_play.specs.Setting.{key_set, card_info, issuer}
use Rattle.world_play.proofs.PlayedCards.{card-at}
use Rattle.world_play.proofs.PlayedReplies.{reply_text, answer-found, commands-found, answer_to, answer-accepted, spoiled-wrong}
use Rattle.world_play.specs.Cards.{IsIssued, IsRight}
use Rattle.world_play.proofs.PlayedRequests.{issued-answer}
use Rattle.world_play.proofs.PlayedWorlds.{IsPlayed, IsSendable, played-sound}
use Rattle.world_play.proofs.PlayedAnswers.{right-known}
use Rattle.world_play.proofs.PlayedRuns.{IsMoved, HasMoved, moved-once, moved-then, IsRunning, AreSendable, CanRun, run-all}

-- ---- the commands of a batch can be opened

-- what is queued for a card in fit records can be sent
queue-sendable : (name : CardName) (history : List Entry)
    → ((place : ℕ) (pan : List ℕ) (psn : ℕ) (command : Command) → slice_get history place ≡ Some (Queued pan psn command) → IsSendable command)
    → AreSendable (queue name history)
queue-sendable name [] each = tt
queue-sendable name (Decided request reply ∷ records) each =
    queue-sendable name records (λ place pan psn command is. each (suc place) pan psn command is)
queue-sendable name (Status pan psn status ∷ records) each =
    queue-sendable name records (λ place pan psn command is. each (suc place) pan psn command is)
queue-sendable name (Queued pan psn command ∷ records) each =
    let rest = queue-sendable name records (λ place pan psn command is. each (suc place) pan psn command is) in
    elim (has_numbers name pan psn) as (λ its. AreSendable (cons_option (cond its (Some command) None) (queue name records))) [
      | true ↦ (each zero pan psn command refl, rest)
      | false ↦ rest
    ]

sendable-take : (n : ℕ) (commands : List Command) → AreSendable commands → AreSendable (take n commands)
sendable-take zero [] all = tt
sendable-take zero (command ∷ commands) all = tt
sendable-take (suc n) [] all = tt
sendable-take (suc n) (command ∷ commands) all = (all.0, sendable-take n commands all.1)

sendable-drop : (n : ℕ) (commands : List Command) → AreSendable commands → AreSendable (drop n commands)
sendable-drop zero [] all = tt
sendable-drop zero (command ∷ commands) all = all
sendable-drop (suc n) [] all = tt
sendable-drop (suc n) (command ∷ commands) all = sendable-drop n commands all.1

sendable-flight : (scripts : Scripts) (flight : Option Flight) → AreSendable scripts.queue
    → AreSendable (option_map_or (λ flight. take flight.size (undone scripts)) flight [])
sendable-flight scripts None all = tt
sendable-flight scripts (Some flight) all = sendable-take flight.size (undone scripts) (sendable-drop scripts.done scripts.queue all)

newest-queue : (request : Request) (scripts : Scripts) → (with_newest request scripts).queue ≡ scripts.queue
newest-queue request scripts =
    elim (settled scripts.flight (last_online request)
    (script_count request)) as (λ told. (launched request.atc (settled_by told scripts)).queue ≡ scripts.queue) [
      | Ran count ↦ refl
      | Nothing ↦ refl
      | Halt ↦ refl
    ]

batch-sendable : (request : Request) (scripts : Scripts) → AreSendable scripts.queue → AreSendable (batch_of request scripts)
batch-sendable request scripts all =
    elim (is_newest request.atc scripts.hi) as (λ newest. AreSendable (cond newest (in_flight (with_newest request scripts)) [])) [
      | true ↦ sendable-flight (with_newest request scripts) (with_newest request scripts).flight
          (subst AreSendable (sym (newest-queue request scripts)) all)
      | false ↦ tt
    ]

-- ---- a reply that was sent

-- the master keys of a card
abbrev pub master_keys : ℕ → CardKeys
master_keys number = des_keys key_set (card_info number).pan 0

-- the issuer's answer to a request of the card with this number
abbrev pub value_to : ℕ → Request → List ℕ → List ℕ → List ℕ
value_to number request arc csu =
    value91 TripleDes (card_info number).method (session_ac TripleDes (master_keys number).ac.0 request.atc) request.ac arc csu

-- its commands, sealed
abbrev pub sealed_to : ℕ → Request → List Command → List (List ℕ)
sealed_to number request batch = sealed_commands TripleDes (session_sm TripleDes (master_keys number).smi.0 request.ac) request.ac batch

-- what a reply is, and the record that it belongs to
pub record IsReplied (number : ℕ) (world : WorldState) (request : Request) (reply : Reply) : Type 0 where
  pub place : ℕ
  pub first : ℕ
  pub batch : List Command
  pub csu : List ℕ
  pub four : length csu ≡ 4
  pub bytes_are : reply.bytes.items
      ≡ reply_text reply.arc (value_to number request reply.arc csu)
      (script_bytes TripleDes (master_keys number).smi.0 request.ac first batch)
  pub sent : IsSentAt (card_of request) (history_for world request) place first batch
  pub sent_is : sent.request ≡ request
  pub fit : AreSendable batch

abbrev HasSent : CardName → List Entry → ℕ → ℕ → List Command → Request → Type 0
HasSent name history place first batch request = (sent : IsSentAt name history place first batch) × (sent.request ≡ request)

front-place : (history : List Entry) (last place : ℕ) (entry : Entry) → slice_get (take last history) place ≡ Some entry → slice_get history place ≡ Some entry
front-place [] zero place entry is = is
front-place [] (suc last) place entry is = is
front-place (first ∷ history) zero place entry is = absurd (cc)
front-place (first ∷ history) (suc last) zero entry is = is
front-place (first ∷ history) (suc last) (suc place) entry is = front-place history last place entry is

pub reply-made : (cards number : ℕ) → IsIssuer (issuer cards) → (world : WorldState) (played : IsPlayed cards world) (request : Request) (reply : Reply)
    → IsRight cards number request → Contains world.sent (record { request = request; reply = reply }) → IsReplied number world request reply
reply-made cards number valid world played request reply right here =
    let sound = played-sound cards world valid played in
    let found = sound.sent.each (record { request = request; reply = reply }) here in
    let shard = found.0 in
    let place = found.1 in
    let legal = sound.shards.legal shard place (Decided request reply) found.2 in
    let home : home_of world request ≡ shard = home-shard world request shard legal.of_a_card in
    let history = (shard_at world shard).history in
    let before = take place history in
    let name = card_of request in
    let made = legal.is_the_issuers_reply in
    let known : number_of name world.issuer.cards ≡ Some number =
    ap (λ (setup : Setup). number_of name setup.cards) played.issuer_is ∙ right-known cards number request right valid in
    let number_is : made.number ≡ number = same_Some _ _ (sym made.number_is ∙ known) in
    let card_is : made.card ≡ card_info number = same_Some _ _ (sym made.card_is ∙ ap (slice_get world.issuer.cards) number_is
    ∙ ap (λ (setup : Setup). slice_get setup.cards number) played.issuer_is ∙ card-at cards number right.below) in
    let keys_are : made.keys ≡ master_keys number = same_Some _ _ (sym made.keys_are ∙ ap (λ n. keys_of world.issuer n request) number_is
    ∙ ap (λ (setup : Setup). keys_of setup number request) played.issuer_is ∙ right.keys_are) in
    let scripts = scripts_of name before in
    let csu = told_update reply.bytes.items in
    let both : HasSent name (history_for world request) place (first_of request scripts) (batch_of request scripts) request =
    subst (λ shard. HasSent name (shard_at world shard).history place (first_of request scripts) (batch_of request scripts) request) (sym home) (
      record { request = request; reply = reply; record_is = found.2; its = is_of-card_of request; first_is = refl; commands_are = refl },
      refl,
    ) in
    record {
      place = place;
      first = first_of request scripts;
      batch = batch_of request scripts;
      csu = csu;
      four = refl;
      bytes_are = made.made.bytes_are
          ∙ ap₂ (λ (card : CardInfo) (keys : CardKeys). reply_text reply.arc (value91 keys.suite card.method (session_ac keys.suite keys.ac.0 request.atc)
          request.ac reply.arc csu) (script_bytes keys.suite keys.smi.0 request.ac (first_of request scripts) (batch_of request scripts))) card_is keys_are;
      sent = both.0;
      sent_is = both.1;
      fit = batch-sendable request scripts (subst AreSendable (sym (scripts-queue name before))
          (queue-sendable name before (λ index pan psn command is.
          played.records shard index (Queued pan psn command) (front-place history place index (Queued pan psn command) is))));
    }

-- ---- the reply reaches the card

-- the card has this request open, and found no answer right yet; or it found one right
abbrev pub IsOpen : CardState → Request → Type 0
IsOpen card request = ((card.open_request ≡ Some request) × (card.chain ≡ None)) ⊎ ((chain : List ℕ) × (card.chain ≡ Some chain))

-- the card after a reply, which still is open so
pub record IsHanded (cards number : ℕ) (world : WorldState) (card : CardState) (request : Request) (moved : CardState) : Type 0 where
  pub has : HasMoved cards number world card moved
  pub still : IsOpen moved request

closed-at : (asked : Option Request) (chain : List ℕ) (card : CardState) (value arc : List ℕ) → (false, card) ≡ answered_at asked (Some chain) card value arc
unfolding answered_at
closed-at None chain card value arc = refl
closed-at (Some request) chain card value arc = refl

-- a card that found one right finds no other right
closed-step : (card : CardState) (chain value arc : List ℕ) → card.chain ≡ Some chain → CardStep card (IsAuthenticate value arc false) card
unfolding CardStep authenticated
closed-step card chain value arc is =
    closed-at card.open_request chain card value arc ∙ ap (λ chained. answered_at card.open_request chained card value arc) (sym is)

found-by : (card : CardState) (value arc : List ℕ) (right : Bool) (moved : CardState) → CardStep card (IsAuthenticate value arc right) moved
    → authenticated card value arc ≡ (right, moved)
unfolding CardStep
found-by card value arc right moved step = sym step

answer-stays : (card : CardState) (request : Request)
    → ((with_answer card request).atc ≡ card.atc) × ((with_answer card request).open_request ≡ card.open_request)
    × ((with_answer card request).keys ≡ card.keys) × ((with_answer card request).count ≡ 0) × ((with_answer card request).chain ≡ Some request.ac)
unfolding with_answer
answer-stays card request = (refl, refl, refl, refl, refl)

module _ (cards number : ℕ) (valid : IsIssuer (issuer cards)) (world : WorldState) (played : IsPlayed cards world) (card : CardState)
    (card_is : slice_get world.cards number ≡ Some card) where
  -- a value that the card finds wrong
  wrong-value : (request : Request) (value arc : List ℕ) (commands : List (List ℕ)) → IsOpen card request
      → CardStep card (IsAuthenticate value arc false) card → IsHanded cards number world card request (after_answer card value arc commands)
  wrong-value request value arc commands opening step =
      let one : IsMoved cards number world card card (with_card world number card) =
      moved-once cards number valid world card card (Authenticate number (record { items = value }) arc) played card_is (record {
        step = record { card = card; moved = card; right = false; card_is = card_is; step = step; after_is = refl };
        decides = λ shard place other told is. played.records shard place (Decided other told) is;
        accepts = λ right. absurd (false≢true right);
      }) (played.issued number card card_is) refl refl in
      subst (λ (found : Bool × CardState). IsHanded cards number world card request (where_right found commands))
      (sym (found-by card value arc false card step))
      (record { has = (with_card world number card, one); still = opening })

  module _ (request : Request) (reply : Reply) (right : IsRight cards number request) (sent : Contains world.sent (record { request = request; reply = reply }))
      (told : IsReplied number world request reply) where
    issued : IsIssued number card
    issued = played.issued number card card_is

    abbrev value : List ℕ
    value = value_to number request reply.arc told.csu

    abbrev sealed : List (List ℕ)
    sealed = sealed_to number request told.batch

    value-is : value ≡ answer_to card request reply.arc told.csu
    value-is = ap₂ (λ (method : Method) (keys : CardKeys). value91 keys.suite method (session_ac keys.suite keys.ac.0 request.atc) request.ac reply.arc told.csu)
        (sym issued.method_is) (sym issued.keys_are)

    -- the card's session key for cryptograms has sixteen bytes
    session-long : length (session_ac card.keys.suite card.keys.ac.0 request.atc) ≡ 16
    session-long = ap (λ (keys : CardKeys). length (session_ac keys.suite keys.ac.0 request.atc)) issued.keys_are
        ∙ length-des_session_ac (master_keys number).ac.0 request.atc

    -- what a terminal finds in the reply
    pub value-found : answer_in reply.bytes.items ≡ Some value
    value-found = ap answer_in told.bytes_are ∙ answer-found reply.arc value (script_bytes TripleDes (master_keys number).smi.0 request.ac told.first told.batch)

    pub sealed-found : commands_in reply.bytes.items ≡ sealed
    sealed-found = ap commands_in told.bytes_are ∙ commands-found TripleDes reply.arc value (master_keys number).smi.0 request.ac told.first told.batch

    -- the first time that the issuer's answer reaches the card, with some of the commands
    pub handed-first : (k : ℕ) → card.open_request ≡ Some request → card.chain ≡ None
        → IsRunning cards number world card (after_answer card value reply.arc (take k sealed))
    handed-first k opened unchained =
        let arc = reply.arc in
        let moved = with_answer card request in
        let stays = answer-stays card request in
        let accepted : is_answer card request value arc ≡ true =
        ap (λ (v : List ℕ). is_answer card request v arc) value-is ∙ answer-accepted card request arc told.csu session-long told.four in
        let step = answer-right card request value arc opened unchained accepted in
        let scripts = script_bytes TripleDes (master_keys number).smi.0 request.ac told.first told.batch in
        let one : IsMoved cards number world card moved (with_card world number moved) =
        moved-once cards number valid world card moved (Authenticate number (record { items = value }) arc) played card_is (record {
          step = record { card = card; moved = moved; right = true; card_is = card_is; step = step; after_is = refl };
          decides = λ shard place other told is. played.records shard place (Decided other told) is;
          accepts = λ _. record {
            exchange = record { request = request; reply = reply };
            sent = sent;
            opened = opened;
            value_is = record { rest = scripts; bytes_are = told.bytes_are };
            code_is = λ _. refl;
          };
        }) (issued-answer number card issued request) stays.0 stays.1 in
        let can : CanRun number moved request request.ac =
        record { issued = issued-answer number card issued request; opened = stays.1 ∙ opened; chained = stays.4 } in
        let keys : moved.keys ≡ master_keys number = stays.2 ∙ issued.keys_are in
        let sixteen = length-des_session_sm (master_keys number).smi.0 request.ac in
        let behind : drop moved.count told.batch ≡ told.batch = ap (λ n. drop n told.batch) stays.3 in
        let ran = run-all cards number valid request told.batch k request.ac (with_card world number moved) moved told.place told.first told.batch
        (master_keys number) sixteen one.played one.card_is can keys told.sent told.sent_is behind told.fit in
        subst (λ (found : Bool × CardState). IsRunning cards number world card (where_right found (take k sealed)))
        (sym (found-by card value arc true moved step))
        (record {
          has = moved-then cards number world (with_card world number moved) card moved (after_commands moved (take k sealed)) one ran.has;
          chain = ran.chain;
          chained = ran.chained;
        })

    -- whenever it does
    pub handed-some : (k : ℕ) → IsOpen card request → IsHanded cards number world card request (after_answer card value reply.arc (take k sealed))
    handed-some k (inl (opened, unchained)) =
        let it = handed-first k opened unchained in record { has = it.has; still = inr (it.chain, it.chained) }
    handed-some k (inr (chain, chained)) =
        wrong-value request value reply.arc (take k sealed) (inr (chain, chained)) (closed-step card chain value reply.arc chained)

    -- and with a changed first byte
    pub handed-spoiled : (commands : List (List ℕ)) → IsOpen card request
        → IsHanded cards number world card request (after_answer card (spoil_first value) reply.arc commands)
    handed-spoiled commands (inl (opened, unchained)) =
        let wrong : is_answer card request (spoil_first value) reply.arc ≡ false =
        ap (λ (v : List ℕ). is_answer card request (spoil_first v) reply.arc) value-is ∙ spoiled-wrong card request reply.arc told.csu session-long told.four in
        wrong-value request (spoil_first value) reply.arc commands (inl (opened, unchained))
        (answer-wrong card request (spoil_first value) reply.arc opened unchained wrong)
    handed-spoiled commands (inr (chain, chained)) =
        wrong-value request (spoil_first value) reply.arc commands (inr (chain, chained)) (closed-step card chain (spoil_first value) reply.arc chained)
