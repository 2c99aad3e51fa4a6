-- The room and the counts that a move uses.
use Rattle.std.proofs.Common.{◌≡◌, ℕ, ◌+◌, ◌%◌, ◌<◌, ◌≤◌, ◌==◌, Bool, true, false, List, [], ◌∷◌, Option, None, Some, Result, Ok, Err, refl, sym, ap, ap₂}
use Rattle.std.proofs.Common.{subst, ◌∙◌, arith}
use Rattle.std.specs.Prelude.{if◌then◌else◌, IfOk, nat_lt}
use Rattle.std.proofs.lemmas.Bool.{ltb-true, eqb-false}
use Rattle.card_model.specs.declared.card.TheConstants.{MOST_COUNTED}
use Rattle.secure_msg.specs.Sealing.{opened_command}
use Rattle.issuer_base.specs.declared.answer.Answer.{Answer}
use Rattle.issuer_base.specs.declared.answer.Answer.TheVariants.{Fresh, Kept, Queued, Set, Refused}
use Rattle.issuer_base.specs.declared.answer.Refusal.{Refusal}
use Rattle.issuer_base.specs.declared.answer.Reply.{Reply}
use Rattle.issuer_base.specs.declared.request.Parts.{Parts}
use Rattle.journal_rec.specs.declared.limits.TheConstants.{MOST_QUEUED_BYTES, MOST_RECORD_BYTES}
use Rattle.card_history.specs.declared.decision.Asked.{Asked}
use Rattle.issuer_base.specs.CardNames.{CardName, named}
use Rattle.card_history.specs.Records.{card_of}
use Rattle.card_model.specs.Application.{CardState, next_request, is_answer}
use Rattle.card_model.specs.CardSteps.{CardStep, Tap as TapEvent, tapped, authenticated, answered_at, after_command, command_at, after_opening, opened_within}
use Rattle.card_model.specs.CardSteps.{with_open, with_answer, with_command, with_failure}
use Rattle.card_model.specs.declared.terminal.Terminal.{Terminal}
use Rattle.issuer_base.specs.declared.command.Command.{Command}
use Rattle.key_derive.specs.SessionKey.{session_sm}
use Rattle.issuer_setup.specs.CardList.{name_of}
use Rattle.issuer_setup.specs.IssuerSetup.{Setup, shard_of}
use Rattle.issuer_setup.proofs.Shards.{shard_of-known}
use Rattle.line_checks.specs.Reading.{reading}
use Rattle.shard_book.proofs.Rooms.{room-less}
use Rattle.host_loading.specs.StoreRoom.{HaveRoom}
use Rattle.one_caller.specs.Room.{added_at, added_by}
use Rattle.terminal_kernel.specs.ChipText.{request_line}
use Rattle.world_net.specs.WorldRuns.{IsIssuer}
use Rattle.world_play.specs.declared.house.House.{House}
use Rattle.world_play.specs.declared.player.Player.{Player}
use Rattle.world_play.specs.declared.setting.Step.{Step}
use Rattle.world_play.specs.declared.summary.Summary.{Summary}
use Rattle.world_play.specs.Handing.{commands_in, after_commands, where_right}
use Rattle.world_play.specs.Play.{Makes, spoiled, given_card, given_tally, with_answer as with_answered, with_finding, with_tap}
use Rattle.world_play.specs.Reaching.{Reaches}
use Rattle.world_play.specs.declared.moves.Move.{Move}
use Rattle.world_play.specs.declared.moves.Move.TheVariants.{Queue, Ask, AskSpoiled, Hold, TakeHeld}
use Rattle.world_play.specs.Room.{RoomFor, UsesAtMost, CountsWithin, CountsAtMost, asked_bytes, moved_bytes, IsOwn, StaysOf, IsTurn, IsMade}
use Rattle.world_play.specs.Cards.{IsIssued, IsRight}
use Rattle.world_play.specs.Setting.{card_info, issuer, queue_line, terminal_of}
use Rattle.world_play.proofs.PlayedCards.{number-known}
use Rattle.world_play.proofs.PlayedQueues.{line-queues}
use Rattle.world_play.proofs.PlayedRequests.{issued-open, issued-answer, issued-command, issued-failure, right-next}

-- ---- room

-- less room than there is
pub less-room : (more less : ℕ → ℕ) (house : House) → ((number : ℕ) → less number ≤ more number) → RoomFor more house → RoomFor less house
less-room more less house enough have = record {
  each = λ number shard is. room-less (more number) (less number) _ _ (enough number) (have.each number shard is);
}

-- what uses less uses at most more
pub uses-less : (less more : ℕ → ℕ) (old new : House) → ((number : ℕ) → less number ≤ more number) → UsesAtMost less old new → UsesAtMost more old new
uses-less less more old new enough uses spare have =
    uses spare (less-room (λ number. more number + spare number) (λ number. less number + spare number) old
    (λ number. let here = enough number in omega (arith, here)) have)

-- the host is as it was
pub uses-none : (bytes : ℕ → ℕ) (old new : House) → new.host ≡ old.host → UsesAtMost bytes old new
uses-none bytes old new same spare have =
    subst (λ host. HaveRoom spare host.shards.items) (sym same)
    (less-room (λ number. bytes number + spare number) spare old (λ number. omega arith) have)

-- one use after another
pub uses-then : (first second : ℕ → ℕ) (old between new : House) → UsesAtMost first old between → UsesAtMost second between new
    → UsesAtMost (λ number. first number + second number) old new
uses-then first second old between new one other spare have =
    other spare (one (λ number. second number + spare number)
    (less-room (λ number. first number + second number + spare number) (λ number. first number + (second number + spare number)) old
    (λ number. omega arith) have))

-- ---- what lines add

-- the shard of a card of a run
home : (setup : Setup) (cards card : ℕ) (name : CardName) → IsIssuer (issuer cards) → card < cards → setup ≡ issuer cards → name ≡ name_of (card_info card)
    → shard_of setup name ≡ card % 4
home setup cards card name valid below same named =
    ap₂ (λ (setup : Setup) (name : CardName). shard_of setup name) same named
    ∙ shard_of-known (issuer cards) (name_of (card_info card)) card (number-known cards card valid below)

-- the request in hand adds a record of the step's card, and a spoiled one adds nothing
module _ (step : Step) (house : House) (player : Player) (turn : IsTurn step house player) (number : ℕ) where
  asks-within : (request : Option Parts) → ((parts : Parts) → request ≡ Some parts → IsRight turn.cards step.card parts)
      → asked_bytes house.host.issuer (λ request. request) request number ≤ added_at (step.card % 4) MOST_RECORD_BYTES number
  asks-within None right = omega arith
  asks-within (Some parts) right =
      let its = right parts refl in
      let reads = ap (λ (setup : Setup). added_by setup (reading setup (request_line parts)) number) turn.issuer_is
      ∙ ap (λ (asked : Result Asked Refusal). added_by (issuer turn.cards) asked number) its.read
      ∙ ap (λ shard. added_at shard MOST_RECORD_BYTES number)
      (home (issuer turn.cards) turn.cards step.card (card_of parts) turn.valid turn.below refl its.its) in
      omega (arith, reads)

  spoils-within : (request : Option Parts) → ((parts : Parts) → request ≡ Some parts → IsRight turn.cards step.card parts)
      → asked_bytes house.host.issuer spoiled request number ≤ added_at (step.card % 4) MOST_RECORD_BYTES number
  spoils-within None right = omega arith
  spoils-within (Some parts) right =
      let its = right parts refl in
      let reads = ap (λ (setup : Setup). added_by setup (reading setup (request_line (spoiled parts))) number) turn.issuer_is
      ∙ ap (λ (asked : Result Asked Refusal). added_by (issuer turn.cards) asked number) its.spoils in
      omega (arith, reads)

-- a line that queues a command is for the step's card
pub turn-queues : (step : Step) (house : House) (player : Player) (k : ℕ) → k < 256 → IsTurn step house player → (number : ℕ)
    → added_by house.host.issuer (reading house.host.issuer (queue_line step k)) number ≡ added_at (step.card % 4) MOST_QUEUED_BYTES number
turn-queues step house player k small turn number =
    ap (λ (setup : Setup). added_by setup (reading setup (queue_line step k)) number) turn.issuer_is
    ∙ ap (λ (asked : Result Asked Refusal). added_by (issuer turn.cards) asked number) (line-queues turn.cards turn.valid step k small turn.below)
    ∙ ap (λ (shard : ℕ). added_at shard MOST_QUEUED_BYTES number)
    (home (issuer turn.cards) turn.cards step.card (name_of (card_info step.card)) turn.valid turn.below refl refl)

-- ---- counts

counts-answer : (tally : Summary) (answer : Answer) (most : ℕ) → CountsWithin most tally → CountsWithin (most + 1) (with_answered tally answer)
counts-answer tally (Fresh shard place reply) most all = elim reply.approve as (λ approves. CountsWithin (most + 1)
    (record tally { fresh = tally.fresh + 1; approved = if approves then tally.approved + 1 else tally.approved })) [
      | true ↦ record {
        taps = omega (arith, all.taps);
        fresh = omega (arith, all.fresh);
        approved = omega (arith, all.approved);
        kept = omega
            (arith, all.kept);
        refused = omega (arith, all.refused);
        authenticated = omega (arith, all.authenticated);
        unauthenticated = omega
            (arith, all.unauthenticated);
        queued = omega (arith, all.queued);
      }
      | false ↦ record {
        taps = omega (arith, all.taps);
        fresh = omega (arith, all.fresh);
        approved = omega (arith, all.approved);
        kept = omega
            (arith, all.kept);
        refused = omega (arith, all.refused);
        authenticated = omega (arith, all.authenticated);
        unauthenticated = omega
            (arith, all.unauthenticated);
        queued = omega (arith, all.queued);
      }
    ]
counts-answer tally (Kept shard place reply) most all =
    record {
      taps = omega (arith, all.taps);
      fresh = omega (arith, all.fresh);
      approved = omega (arith, all.approved);
      kept = omega
          (arith, all.kept);
      refused = omega (arith, all.refused);
      authenticated = omega (arith, all.authenticated);
      unauthenticated = omega
          (arith, all.unauthenticated);
      queued = omega (arith, all.queued);
    }
counts-answer tally (Queued shard place) most all =
    record {
      taps = omega (arith, all.taps);
      fresh = omega (arith, all.fresh);
      approved = omega (arith, all.approved);
      kept = omega
          (arith, all.kept);
      refused = omega (arith, all.refused);
      authenticated = omega (arith, all.authenticated);
      unauthenticated = omega
          (arith, all.unauthenticated);
      queued = omega (arith, all.queued);
    }
counts-answer tally (Set shard place) most all =
    record {
      taps = omega (arith, all.taps);
      fresh = omega (arith, all.fresh);
      approved = omega (arith, all.approved);
      kept = omega
          (arith, all.kept);
      refused = omega (arith, all.refused);
      authenticated = omega (arith, all.authenticated);
      unauthenticated = omega
          (arith, all.unauthenticated);
      queued = omega (arith, all.queued);
    }
counts-answer tally (Refused refusal) most all =
    record {
      taps = omega (arith, all.taps);
      fresh = omega (arith, all.fresh);
      approved = omega (arith, all.approved);
      kept = omega
          (arith, all.kept);
      refused = omega (arith, all.refused);
      authenticated = omega (arith, all.authenticated);
      unauthenticated = omega
          (arith, all.unauthenticated);
      queued = omega (arith, all.queued);
    }

counts-finding : (tally : Summary) (found : Bool) (most : ℕ) → CountsWithin most tally → CountsWithin (most + 1) (with_finding tally found)
counts-finding tally true most all =
    record {
      taps = omega (arith, all.taps);
      fresh = omega (arith, all.fresh);
      approved = omega (arith, all.approved);
      kept = omega
          (arith, all.kept);
      refused = omega (arith, all.refused);
      authenticated = omega (arith, all.authenticated);
      unauthenticated = omega
          (arith, all.unauthenticated);
      queued = omega (arith, all.queued);
    }
counts-finding tally false most all =
    record {
      taps = omega (arith, all.taps);
      fresh = omega (arith, all.fresh);
      approved = omega (arith, all.approved);
      kept = omega
          (arith, all.kept);
      refused = omega (arith, all.refused);
      authenticated = omega (arith, all.authenticated);
      unauthenticated = omega
          (arith, all.unauthenticated);
      queued = omega (arith, all.queued);
    }

counts-found : (tally : Summary) (request : Option Parts) (most : ℕ) → CountsWithin most tally → CountsWithin (most + 1) (with_tap tally request)
counts-found tally None most all =
    record {
      taps = omega (arith, all.taps);
      fresh = omega (arith, all.fresh);
      approved = omega (arith, all.approved);
      kept = omega
          (arith, all.kept);
      refused = omega (arith, all.refused);
      authenticated = omega (arith, all.authenticated);
      unauthenticated = omega
          (arith, all.unauthenticated);
      queued = omega (arith, all.queued);
    }
counts-found tally (Some request) most all =
    record {
      taps = omega (arith, all.taps);
      fresh = omega (arith, all.fresh);
      approved = omega (arith, all.approved);
      kept = omega
          (arith, all.kept);
      refused = omega (arith, all.refused);
      authenticated = omega (arith, all.authenticated);
      unauthenticated = omega
          (arith, all.unauthenticated);
      queued = omega (arith, all.queued);
    }

counts-given : (change : List ℕ → List ℕ) (reply : Reply) (found : Option (List ℕ)) (card : CardState) (tally : Summary) (most : ℕ)
    → CountsWithin most tally → CountsWithin (most + 1) (given_tally change reply found card tally)
counts-given change reply None card tally most all =
    record {
      taps = omega (arith, all.taps);
      fresh = omega (arith, all.fresh);
      approved = omega (arith, all.approved);
      kept = omega
          (arith, all.kept);
      refused = omega (arith, all.refused);
      authenticated = omega (arith, all.authenticated);
      unauthenticated = omega
          (arith, all.unauthenticated);
      queued = omega (arith, all.queued);
    }
counts-given change reply (Some answer) card tally most all = counts-finding tally (authenticated card (change answer) reply.arc).0 most all

-- counts as they were
pub counts-stay : (old new : House) → new.tally ≡ old.tally → CountsAtMost 1 old new
counts-stay old new same most all =
    subst (λ (tally : Summary). CountsWithin (most + 1) tally) (sym same)
    (record {
      taps = omega (arith, all.taps);
      fresh = omega (arith, all.fresh);
      approved = omega (arith, all.approved);
      kept = omega
          (arith, all.kept);
      refused = omega (arith, all.refused);
      authenticated = omega (arith, all.authenticated);
      unauthenticated = omega
          (arith, all.unauthenticated);
      queued = omega (arith, all.queued);
    })

-- an answer is counted
pub counts-answered : (old new : House) (answer : Answer) → new.tally ≡ with_answered old.tally answer → CountsAtMost 1 old new
counts-answered old new answer is most all = subst (CountsWithin (most + 1)) (sym is) (counts-answer old.tally answer most all)

-- a tap is counted
pub counts-tapped : (old new : House) (request : Option Parts) → new.tally ≡ with_tap old.tally request → CountsAtMost 1 old new
counts-tapped old new request is most all = subst (CountsWithin (most + 1)) (sym is) (counts-found old.tally request most all)

-- what a card found is counted
pub counts-handed : (old new : House) (change : List ℕ → List ℕ) (reply : Reply) (found : Option (List ℕ)) (card : CardState)
    → new.tally ≡ given_tally change reply found card old.tally → CountsAtMost 1 old new
counts-handed old new change reply found card is most all =
    subst (CountsWithin (most + 1)) (sym is) (counts-given change reply found card old.tally most all)

-- ---- cards

-- the card is the one with this number, and its counter and register have a place
record IsCard (number : ℕ) (card : CardState) : Type 0 where
  issued : IsIssued number card
  counter : card.atc ≤ 65535
  register : card.register ≤ 65535

module _ (number : ℕ) where
  card-opening : (card : CardState) (key chain bytes : List ℕ) (test : Bool) → IsCard number card → nat_lt card.count MOST_COUNTED ≡ test
      → (opening : Option (Command × List ℕ)) → IsCard number (after_opening card (if test then opening else None)).1
  unfolding after_opening with_failure with_command
  card-opening card key chain bytes true it less None = record { issued = issued-failure number card it.issued; counter = it.counter; register = it.register }
  card-opening card key chain bytes true it less (Some (command, next)) =
      let small = ltb-true card.count 15 less in
      record { issued = issued-command number card it.issued command next small; counter = it.counter; register = it.register }
  card-opening card key chain bytes false it less opening =
      record { issued = issued-failure number card it.issued; counter = it.counter; register = it.register }

  card-at : (card : CardState) (request : Option Parts) (chain : Option (List ℕ)) (bytes : List ℕ) → IsCard number card
      → IsCard number (command_at request chain card bytes).1
  unfolding command_at opened_within
  card-at card None None bytes it = it
  card-at card None (Some chain) bytes it = it
  card-at card (Some request) None bytes it = it
  card-at card (Some request) (Some chain) bytes it =
      let key = session_sm card.keys.suite card.keys.smi.0 request.ac in
      card-opening card key chain bytes (nat_lt card.count MOST_COUNTED) it refl (opened_command card.keys.suite key chain bytes)

  card-command : (card : CardState) (bytes : List ℕ) → IsCard number card → IsCard number (after_command card bytes).1
  unfolding after_command
  card-command card bytes it = card-at card card.open_request card.chain bytes it

  card-commands : (card : CardState) (commands : List (List ℕ)) → IsCard number card → IsCard number (after_commands card commands)
  card-commands card [] it = it
  card-commands card (command ∷ commands) it = card-commands (after_command card command).1 commands (card-command card command it)

  card-found : (card : CardState) (request : Parts) (right : Bool) → IsCard number card
      → IsCard number (let found : Bool × CardState = if right then (true, with_answer card request) else (false, card) in found.1)
  unfolding with_answer
  card-found card request true it = record { issued = issued-answer number card it.issued request; counter = it.counter; register = it.counter }
  card-found card request false it = it

  card-answered : (card : CardState) (request : Option Parts) (chain : Option (List ℕ)) (value arc : List ℕ) → IsCard number card
      → IsCard number (answered_at request chain card value arc).1
  unfolding answered_at
  card-answered card None None value arc it = it
  card-answered card None (Some chain) value arc it = it
  card-answered card (Some request) (Some chain) value arc it = it
  card-answered card (Some request) None value arc it = card-found card request (is_answer card request value arc) it

  card-authenticated : (card : CardState) (value arc : List ℕ) → IsCard number card → IsCard number (authenticated card value arc).1
  unfolding authenticated
  card-authenticated card value arc it = card-answered card card.open_request card.chain value arc it

  card-right : (card : CardState) (right : Bool) (commands : List (List ℕ)) → IsCard number card → IsCard number (where_right (right, card) commands)
  card-right card true commands it = card-commands card commands it
  card-right card false commands it = it

  card-given : (change : List ℕ → List ℕ) (choose : List (List ℕ) → List (List ℕ)) (reply : Reply) (found : Option (List ℕ)) (card : CardState)
      → IsCard number card → IsCard number (given_card change choose reply found card)
  card-given change choose reply None card it = it
  card-given change choose reply (Some answer) card it =
      let found = authenticated card (change answer) reply.arc in
      card-right found.1 found.0 (choose (commands_in reply.bytes.items)) (card-authenticated card (change answer) reply.arc it)

-- a card that was given a reply
pub stays-given : (change : List ℕ → List ℕ) (choose : List (List ℕ) → List (List ℕ)) (reply : Reply) (found : Option (List ℕ)) (before after : Player)
    → after.card ≡ given_card change choose reply found before.card → after.request ≡ before.request → after.held ≡ before.held → StaysOf before after
stays-given change choose reply found before after card_is request_is held_is cards number valid below own =
    let it = subst (IsCard number) (sym card_is) (card-given number change choose reply found before.card
    (record { issued = own.issued; counter = own.counter; register = own.register })) in
    record {
      issued = it.issued;
      counter = it.counter;
      register = it.register;
      asks = λ parts is. own.asks parts (sym request_is ∙ is);
      holds = λ parts is. own.holds parts (sym held_is ∙ is);
    }

-- a card that was tapped
tapped-own : (cards number : ℕ) → IsIssuer (issuer cards) → number < cards → (card : CardState) (step : Step) (held : Option Parts) (test : Bool)
    → (card.atc == 65535) ≡ test → IsCard number card → ((parts : Parts) → held ≡ Some parts → IsRight cards number parts)
    → (found : Option Parts × CardState)
    → found ≡ (if test then (None, card) else (Some (next_request card (terminal_of step)), with_open card (next_request card (terminal_of step))))
    → IsOwn cards number found.1 found.0 held
unfolding with_open
tapped-own cards number valid below card step held true last it holds found is =
    subst (λ (found : Option Parts × CardState). IsOwn cards number found.1 found.0 held) (sym is) (record {
      issued = it.issued;
      counter = it.counter;
      register = it.register;
      asks = λ parts has. absurd (let e : None ≡ Some parts = has in cc);
      holds = holds;
    })
tapped-own cards number valid below card step held false last it holds found is =
    let apart = eqb-false card.atc 65535 last in
    let more : card.atc < 65535 = omega (arith, apart, it.counter) in
    let right = right-next cards number card step valid below it.issued it.register more in
    subst (λ (found : Option Parts × CardState). IsOwn cards number found.1 found.0 held) (sym is) (record {
      issued = issued-open number card it.issued (next_request card (terminal_of step));
      counter = omega (arith, more);
      register = it.register;
      asks = λ parts has.
          let e : Some (next_request card (terminal_of step)) ≡ Some parts = has in
          let w : next_request card (terminal_of step) ≡ parts = cc in subst (IsRight cards number) w right;
      holds = holds;
    })

pub stays-tapped : (step : Step) (terminal : Terminal) (before after : Player) → terminal ≡ terminal_of step
    → CardStep before.card (TapEvent terminal after.request) after.card → after.held ≡ before.held → StaysOf before after
unfolding CardStep tapped
stays-tapped step terminal before after at moved held_is cards number valid below own =
    let moves = subst (λ (terminal : Terminal). CardStep before.card (TapEvent terminal after.request) after.card) at moved in
    tapped-own cards number valid below before.card step after.held (before.card.atc == 65535) refl
    (record { issued = own.issued; counter = own.counter; register = own.register }) (λ parts is. own.holds parts (sym held_is ∙ is))
    (after.request, after.card) moves

-- a request that is held back, and one that is taken again
own-held : (cards number : ℕ) (card : CardState) (request held : Option Parts) → IsOwn cards number card request held → IsOwn cards number card None request
own-held cards number card request held own = record {
  issued = own.issued;
  counter = own.counter;
  register = own.register;
  asks = λ parts has. absurd (let e : None ≡ Some parts = has in cc);
  holds = own.asks;
}

own-taken : (cards number : ℕ) (card : CardState) (request held : Option Parts) → IsOwn cards number card request held → IsOwn cards number card held None
own-taken cards number card request held own = record {
  issued = own.issued;
  counter = own.counter;
  register = own.register;
  asks = own.holds;
  holds = λ parts has. absurd (let e : None ≡ Some parts = has in cc);
}

-- a card that was given a reply, where memory was left
pub stays-handed : {T E : Type 0} (result : Result T E) (change : List ℕ → List ℕ) (choose : List (List ℕ) → List (List ℕ)) (reply : Reply)
    (found : Option (List ℕ)) (before : Player) (card : CardState) → IfOk result (λ _. card ≡ given_card change choose reply found before.card)
    → IfOk result (λ _. StaysOf before (record { card = card; request = before.request; reply = before.reply; held = before.held }))
stays-handed (Ok done) change choose reply found before card is =
    stays-given change choose reply found before (record { card = card; request = before.request; reply = before.reply; held = before.held }) is refl refl
stays-handed (Err fault) change choose reply found before card is = tt

-- the line of the request in hand
pub asked-line : (setup : Setup) (change : Parts → Parts) (held : Option Parts) (request : Parts) (line : List ℕ) → held ≡ Some request
    → line ≡ request_line (change request) → (number : ℕ) → added_by setup (reading setup line) number ≤ asked_bytes setup change held number
asked-line setup change held request line held_is line_is number =
    let reads = ap (λ (line : List ℕ). added_by setup (reading setup line) number) line_is in
    subst (λ (held : Option Parts). added_by setup (reading setup line) number ≤ asked_bytes setup change held number) (sym held_is) (omega (arith, reads))

-- ---- one move

-- what a move makes
pub made : (step : Step) (next other : Move) (old : House) (before : Player) (new : House) (after : Player) → next ≡ other
    → Reaches (Makes old.host.issuer step other) old before new after → StaysOf before after
    → UsesAtMost (added_at (step.card % 4) (moved_bytes next)) old new → CountsAtMost 1 old new → IsMade step next old before new after
made step next other old before new after is reached own room counts = record {
  reached = subst (λ (next : Move). Reaches (Makes old.host.issuer step next) old before new after) (sym is) reached;
  own = own;
  room = room;
  counts = counts;
}

-- without the host, where memory was left
pub made-handed : {T E : Type 0} (result : Result T E) (step : Step) (next other : Move) (old : House) (before : Player) (new : House) (after : Player)
    → next ≡ other → new.host ≡ old.host → IfOk result (λ _. Reaches (Makes old.host.issuer step other) old before new after)
    → IfOk result (λ _. StaysOf before after) → IfOk result (λ _. CountsAtMost 1 old new) → IfOk result (λ _. IsMade step next old before new after)
made-handed (Ok done) step next other old before new after is same reached own counts =
    made step next other old before new after is reached own (uses-none (added_at (step.card % 4) (moved_bytes next)) old new same) counts
made-handed (Err fault) step next other old before new after is same reached own counts = tt

-- what is held back
pub made-held : (step : Step) (next : Move) (house : House) (before after : Player) → next ≡ Hold
    → after ≡ record before { held = before.request; request = None } → IsMade step next house before house after
made-held step next house before after is held =
    subst (λ (after : Player). IsMade step next house before house after) (sym held)
    (made step next Hold house before house (record before { held = before.request; request = None }) is
    (record { issuer_is = refl; leads = λ books stand. (books, stand, refl) })
    (λ cards number valid below own. own-held cards number before.card before.request before.held own)
    (uses-none (added_at (step.card % 4) (moved_bytes next)) house house refl) (counts-stay house house refl))

-- and taken again
pub made-taken : (step : Step) (next : Move) (house : House) (before after : Player) → next ≡ TakeHeld
    → after ≡ record before { request = before.held; reply = None; held = None } → IsMade step next house before house after
made-taken step next house before after is taken =
    subst (λ (after : Player). IsMade step next house before house after) (sym taken)
    (made step next TakeHeld house before house (record before { request = before.held; reply = None; held = None }) is
    (record { issuer_is = refl; leads = λ books stand. (books, stand, refl) })
    (λ cards number valid below own. own-taken cards number before.card before.request before.held own)
    (uses-none (added_at (step.card % 4) (moved_bytes next)) house house refl) (counts-stay house house refl))

-- what the line of a command adds
pub queue-adds : (step : Step) (next : Move) (house : House) (player : Player) (k : ℕ) (line : List ℕ) → next ≡ Queue k → k < 256 → IsTurn step house player
    → line ≡ queue_line step k → (number : ℕ)
    → added_by house.host.issuer (reading house.host.issuer line) number ≤ added_at (step.card % 4) (moved_bytes next) number
queue-adds step next house player k line is small turn line_is number =
    let adds = turn-queues step house player k small turn number in
    subst (λ (next : Move). added_by house.host.issuer (reading house.host.issuer line) number ≤ added_at (step.card % 4) (moved_bytes next) number) (sym is)
    (subst (λ (line : List ℕ). added_by house.host.issuer (reading house.host.issuer line) number ≤ added_at (step.card % 4) MOST_QUEUED_BYTES number)
    (sym line_is) (omega (arith, adds)))

-- and that of the request in hand, right or spoiled
pub ask-adds : (step : Step) (next : Move) (house : House) (player : Player) → next ≡ Ask → IsTurn step house player → (number : ℕ)
    → asked_bytes house.host.issuer (λ request. request) player.request number ≤ added_at (step.card % 4) (moved_bytes next) number
ask-adds step next house player is turn number =
    subst (λ (next : Move). asked_bytes house.host.issuer (λ request. request) player.request number ≤ added_at (step.card % 4) (moved_bytes next) number)
    (sym is)
    (asks-within step house player turn number player.request turn.own.asks)

pub spoil-adds : (step : Step) (next : Move) (house : House) (player : Player) → next ≡ AskSpoiled → IsTurn step house player → (number : ℕ)
    → asked_bytes house.host.issuer spoiled player.request number ≤ added_at (step.card % 4) (moved_bytes next) number
spoil-adds step next house player is turn number =
    subst (λ (next : Move). asked_bytes house.host.issuer spoiled player.request number ≤ added_at (step.card % 4) (moved_bytes next) number) (sym is)
    (spoils-within step house player turn number player.request turn.own.asks)
