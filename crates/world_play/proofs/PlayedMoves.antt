-- The moves of a step, each as events of a world of a played run.
use Rattle.std.proofs.Common.{◌≡◌, ◌≢◌, ℕ, ◌+◌, ◌<◌, ◌≤◌, true, false, List, [], ◌∷◌, length, map, cond, take, Option, Some, None, Result}
use Rattle.std.proofs.Common.{Contains, refl, ap, ap₂, sym, ◌∙◌, subst, inl, inr, arith}
use Rattle.std.specs.Prelude.{slice_get}
use Rattle.std.proofs.lemmas.Bool.{ne_eqb, true≢false}
use Rattle.std.proofs.lemmas.List.{take_all}
use Rattle.std.proofs.lemmas.List.Elements.{Contains-push, Contains-append_left}
use Rattle.std.proofs.lemmas.Option.{same_Some, none-some, slice_get_within}
use Rattle.issuer_base.specs.declared.answer.Answer.{Answer}
use Rattle.issuer_base.specs.declared.answer.Answer.TheVariants.{Fresh, Kept, Queued as IsQueuedAnswer, Set as IsSetAnswer, Refused}
use Rattle.issuer_base.specs.declared.answer.Refusal.{Refusal}
use Rattle.issuer_base.specs.declared.answer.Refusal.TheVariants.{BadLine, BadTlv, Missing, BadField, Repeated, UnknownCard, NotArqc, UnknownKey, BadCryptogram}
use Rattle.issuer_base.specs.declared.answer.Refusal.TheVariants.{Below, Taken, Pending, QueueFull, BadCommand, StoreFault}
use Rattle.issuer_base.specs.declared.answer.Reply.{Reply}
use Rattle.issuer_base.specs.declared.request.Parts.{Parts}
use Rattle.issuer_base.specs.declared.request.Request.{Request}
use Rattle.issuer_base.specs.declared.entry.Entry.{Entry}
use Rattle.issuer_base.specs.declared.entry.Entry.TheVariants.{Decided}
use Rattle.card_history.specs.declared.decision.Asked.{Asked}
use Rattle.card_history.specs.declared.decision.Decision.{Decision}
use Rattle.card_history.specs.OneReply.{reply_in}
use Rattle.issuer_base.specs.CardNames.{CardName}
use Rattle.card_history.specs.Records.{card_of, greatest_atc}
use Rattle.card_history.specs.Turns.{decided_for}
use Rattle.card_history.proofs.RecordPlaces.{decided-recorded}
use Rattle.card_history.proofs.CardNames.{is_of-names}
use Rattle.card_model.specs.declared.card.TheConstants.{LAST_COUNTER}
use Rattle.card_model.specs.declared.terminal.Terminal.{Terminal}
use Rattle.card_model.specs.Application.{CardState, next_fields, next_request}
use Rattle.card_model.specs.CardSteps.{tapped, with_open}
use Rattle.issuer_setup.specs.CardList.{number_of}
use Rattle.issuer_setup.specs.IssuerSetup.{Setup, shard_of}
use Rattle.row_core.specs.Replying.{reply_to}
use Rattle.shard_book.specs.Answering.{is_store_fault, AnswersClaimed}
use Rattle.terminal_kernel.specs.ChipText.{request_line}
use Rattle.host_loading.specs.Books.{ShardBook, histories_of as book_histories}
use Rattle.one_caller.specs.Turns.{Turn, AnswersIn}
use Rattle.host_loading.proofs.Places.{read-written, read-other}
use Rattle.world_net.specs.declared.parts.MadeRequest.{MadeRequest}
use Rattle.world_net.specs.WorldState.{WorldState, ShardState, shard_at, home_of, history_for, histories_of}
use Rattle.world_net.specs.WorldRuns.{IsIssuer}
use Rattle.world_net.proofs.Batches.{greatest-one}
use Rattle.world_net.proofs.KeptWorlds.{Made}
use Rattle.world_play.specs.declared.setting.Step.{Step}
use Rattle.world_play.specs.declared.summary.Summary.{Summary}
use Rattle.world_play.specs.declared.moves.Move.TheVariants.{Queue, Tap, Ask, AskSpoiled, Hold, TakeHeld, Hand, HandFirst, HandSpoiled}
use Rattle.world_play.specs.Handing.{answer_in, commands_in, spoil_first, after_answer}
use Rattle.world_play.specs.Play.{Stage, IsAnswered, IsAsked, Makes, answered, given_card, given_tally, handed, spoiled, with_tap}
use Rattle.world_play.specs.Setting.{card_info, issuer, terminal_of}
use Rattle.world_play.proofs.PlayedCards.{card-at}
use Rattle.world_play.specs.Cards.{IsRight}
use Rattle.world_play.proofs.PlayedRequests.{issued-open, right-next, amount-decimal}
use Rattle.world_play.proofs.PlayedWorlds.{IsPlayed, IsLater, later-same, later-then, played-kept, played-tapped, after_tapped}
use Rattle.world_play.proofs.PlayedAnswers.{book-history, right-known, IsAfterAnswer, answered-world}
use Rattle.world_play.proofs.PlayedQueues.{line-queues, queued_command, command-sendable, queued-world}
use Rattle.world_play.proofs.PlayedRuns.{IsMoved, IsRunning}
use Rattle.world_play.proofs.PlayedHands.{IsOpen, IsHanded, value_to, sealed_to, reply-made, value-found, sealed-found, handed-first, handed-some}
use Rattle.world_play.proofs.PlayedHands.{handed-spoiled}

-- ---- a world and a stage

-- a request was made by this card
abbrev pub MadeBy : ℕ → WorldState → Request → Type 0
MadeBy number world request = Contains world.made (record { card = number; request = request })

-- the world has the stage's card and histories, the request that is held back was made, and the card's counter isn't above this
pub record IsIdle (cards number most : ℕ) (world : WorldState) (stage : Stage) : Type 0 where
  pub played : IsPlayed cards world
  pub card_is : slice_get world.cards number ≡ Some stage.player.card
  pub histories : histories_of world ≡ book_histories stage.books
  pub held : (request : Request) → stage.player.held ≡ Some request → MadeBy number world request
  pub counter : stage.player.card.atc ≤ most

-- besides, a request is in hand that the card made, the last reply is one that was sent to it, and the card has it open
pub record IsAsking (cards number most : ℕ) (world : WorldState) (stage : Stage) (request : Request) : Type 0 where
  pub idle : IsIdle cards number most world stage
  pub request_is : stage.player.request ≡ Some request
  pub made : MadeBy number world request
  pub replied : (reply : Reply) → stage.player.reply ≡ Some reply → Contains world.sent (record { request = request; reply = reply })
  pub still : IsOpen stage.player.card request

-- some later world is so
abbrev pub GoesTo : ℕ → WorldState → (WorldState → Type 0) → Type 0
GoesTo number world Holds = (after : WorldState) × IsLater number world after × Holds after

pub goes-then : (number : ℕ) (world : WorldState) (Holds Then : WorldState → Type 0) → (one : GoesTo number world Holds)
    → GoesTo number one.0 Then → GoesTo number world Then
goes-then number world Holds Then one other = (other.0, later-then number world one.0 other.0 one.1 other.1, other.2)

cards-later : (number : ℕ) (world after : WorldState) → after.cards ≡ world.cards
    → ((made : MadeRequest) → Contains world.made made → Contains after.made made) → IsLater number world after
cards-later number world after same made = record {
  others = λ other apart. ap (λ (cards : List CardState). slice_get cards other) same;
  made = made;
}

module _ (cards number : ℕ) (valid : IsIssuer (issuer cards)) (below : number < cards) where
  -- ---- a command is queued

  pub queue-move : (most k : ℕ) (step : Step) (world : WorldState) (before after : Stage) → step.card ≡ number → k < 256
      → IsIdle cards number most world before → Makes (issuer cards) step (Queue k) before after
      → GoesTo number world (λ later. IsIdle cards number most later after)
  queue-move most k step world before after its small idle made =
      let here : step.card < cards = omega (arith, its) in
      let read = line-queues cards valid step k small here in
      let turn = subst (λ (said : Result Asked Refusal). Turn (issuer cards) before.books said made.answer made.books) read made.turn in
      let it = queued-world cards step.card valid here world idle.played before.books made.books idle.histories (queued_command step k)
      (command-sendable step k) made.answer made.works turn in (
        it.0,
        cards-later number world it.0 it.1.cards_are it.1.made,
        subst (λ (stage : Stage). IsIdle cards number most it.0 stage) (sym made.after_is) (record {
          played = it.1.played;
          card_is = ap (λ (cards : List CardState). slice_get cards number) it.1.cards_are ∙ idle.card_is;
          histories = it.1.histories;
          held = λ request is. it.1.made (record { card = number; request = request }) (idle.held request is);
          counter = idle.counter;
        }),
      )

  -- ---- a tap

  -- all decided requests of the card are on lower counters
  abbrev pub IsNewest : WorldState → Request → Type 0
  IsNewest world request =
      (decision : Decision) → Contains (decided_for request (history_for world request)) decision → decision.request.atc < request.atc

  -- the stage after a tap: a new request is in hand, which the card has open, and nothing was replied to it
  pub record IsTapped (most : ℕ) (world : WorldState) (stage : Stage) (request : Request) : Type 0 where
    pub asking : IsAsking cards number most world stage request
    pub opened : stage.player.card.open_request ≡ Some request
    pub unchained : stage.player.card.chain ≡ None
    pub newest : IsNewest world request

  tapped-next : (card : CardState) (terminal : Terminal) → card.atc ≢ LAST_COUNTER
      → tapped card terminal ≡ (Some (next_request card terminal), with_open card (next_request card terminal))
  unfolding tapped
  tapped-next card terminal more =
      let last : Option Parts × CardState = (None, card) in
      ap (λ at_last. cond at_last last (Some (next_request card terminal), with_open card (next_request card terminal)))
      (ne_eqb card.atc LAST_COUNTER more)

  open-stays : (card : CardState) (request : Request)
      → ((with_open card request).atc ≡ card.atc + 1) × ((with_open card request).open_request ≡ Some request) × ((with_open card request).chain ≡ None)
  unfolding with_open
  open-stays card request = (refl, refl, refl)

  next-atc : (card : CardState) (terminal : Terminal) → (next_request card terminal).atc ≡ card.atc + 1
  unfolding next_request next_fields
  next-atc card terminal = refl

  newest-made : (world : WorldState) (played : IsPlayed cards world) (card : CardState) (request : Request) → slice_get world.cards number ≡ Some card
      → IsRight cards number request → card.atc < request.atc → IsNewest world request
  newest-made world played card request card_is right above decision here =
      let kept = played-kept cards world valid played in
      let found = decided-recorded (card_of request) (history_for world request) decision here in
      let made = played.records (home_of world request) decision.place (Decided decision.request decision.reply) found.0 in
      let same : card_of request ≡ card_of decision.request = is_of-names (card_of request) decision.request found.1 in
      let known : number_of (card_of request) world.issuer.cards ≡ Some number =
      ap (λ (setup : Setup). number_of (card_of request) setup.cards) played.issuer_is ∙ right-known cards number request right valid in
      let number_is : made.number ≡ number =
      same_Some _ _ (sym made.number_is ∙ ap (λ (name : CardName). number_of name world.issuer.cards) (sym same) ∙ known) in
      let here : Made world.made number decision.request = subst (λ n. Made world.made n decision.request) number_is made.made in
      let info : slice_get world.issuer.cards number ≡ Some (card_info number) =
      ap (λ (setup : Setup). slice_get setup.cards number) played.issuer_is ∙ card-at cards number below in
      let most = ((kept.each number (card_info number) card info card_is).requests.counters decision.request here).1 in
      omega arith

  pub tap-move : (most : ℕ) (step : Step) (world : WorldState) (before after : Stage) → most < 65535 → IsIdle cards number most world before
      → Makes (issuer cards) step Tap before after
      → GoesTo number world (λ later. (request : Request) × IsTapped (most + 1) later after request)
  tap-move most step world before after few idle made =
      let card = before.player.card in
      let terminal = terminal_of step in
      let request = next_request card terminal in
      let counter = idle.counter in
      let more : card.atc ≢ LAST_COUNTER = (λ last. absurd (omega (arith, last, counter))) in
      let issued = idle.played.issued number card idle.card_is in
      let kept = played-kept cards world valid idle.played in
      let info : slice_get world.issuer.cards number ≡ Some (card_info number) =
      ap (λ (setup : Setup). slice_get setup.cards number) idle.played.issuer_is ∙ card-at cards number below in
      let register = (kept.each number (card_info number) card info idle.card_is).requests.within in
      let right = right-next cards number card step valid below issued (omega arith) (omega arith) in
      let within = slice_get_within world.cards number card idle.card_is in
      let moved = with_open card request in
      let played = played-tapped cards valid world idle.played number card terminal idle.card_is within (amount-decimal step) more right
      (issued-open number card issued request) in
      let later = after_tapped cards valid world idle.played number card request in
      let one : MadeRequest = record { card = number; request = request } in
      let keeps : IsLater number world later = record {
        others = λ other apart. read-other world.cards number moved other apart;
        made = λ made here. Contains-append_left world.made (one ∷ []) made here;
      } in
      let stays = open-stays card request in
      let next = next-atc card terminal in
      let at_stage : Option Parts × CardState → Stage = λ found. record before {
        player = record before.player { card = found.1; request = found.0; reply = None };
        tally = with_tap before.tally found.0;
      } in
      let stage_is : after ≡ at_stage (Some request, moved) = made ∙ ap at_stage (tapped-next card terminal more) in (
        later,
        keeps,
        (
          request,
          subst (λ (stage : Stage). IsTapped (most + 1) later stage request) (sym stage_is) (record {
            asking = record {
              idle = record {
                played = played;
                card_is = read-written world.cards number moved within;
                histories = idle.histories;
                held = λ held is. keeps.made (record { card = number; request = held }) (idle.held held is);
                counter = let now = stays.0 in omega arith;
              };
              request_is = refl;
              made = Contains-push world.made one;
              replied = λ reply is. absurd (none-some reply is);
              still = inl (stays.1, stays.2);
            };
            opened = stays.1;
            unchained = stays.2;
            newest = newest-made world idle.played card request idle.card_is right (omega arith);
          }),
        ),
      )

  -- ---- a line is answered

  asked-stage : (most : ℕ) (world later : WorldState) (before : Stage) (answer : Answer) (books : List ShardBook) (request : Request)
      → IsAsking cards number most world before request → IsAfterAnswer cards world request answer books later
      → IsAsking cards number most later (answered before answer books) request
  asked-stage most world later before answer books request asking it = record {
    idle = record {
      played = it.played;
      card_is = ap (λ (cards : List CardState). slice_get cards number) it.cards_are ∙ asking.idle.card_is;
      histories = it.histories;
      held = λ held is. it.made (record { card = number; request = held }) (asking.idle.held held is);
      counter = asking.idle.counter;
    };
    request_is = asking.request_is;
    made = it.made (record { card = number; request = request }) asking.made;
    replied = it.sent;
    still = asking.still;
  }

  -- what the line of a request was answered
  asked-turn : (world : WorldState) (played : IsPlayed cards world) (before after : Stage) (request : Request) → MadeBy number world request
      → (it : IsAnswered (issuer cards) (request_line request) before after)
      → AnswersIn (issuer cards) before.books (card_of request) it.answer
      (λ shard old new. AnswersClaimed shard (reply_to (issuer cards)) true old request it.answer new) it.books
  asked-turn world played before after request made it =
      subst (λ (said : Result Asked Refusal). Turn (issuer cards) before.books said it.answer it.books) (played.made number request made).read it.turn

  ask-some : (most : ℕ) (world : WorldState) (before after : Stage) (request : Request) → IsAsking cards number most world before request
      → IsAnswered (issuer cards) (request_line request) before after → GoesTo number world (λ later. IsAsking cards number most later after request)
  ask-some most world before after request asking it =
      let turn = asked-turn world asking.idle.played before after request asking.made it in
      let done = answered-world cards number valid world asking.idle.played before.books it.books asking.idle.histories request asking.made it.answer it.works
      turn in (
        done.0,
        cards-later number world done.0 done.1.cards_are done.1.made,
        subst (λ (stage : Stage). IsAsking cards number most done.0 stage request) (sym it.after_is)
            (asked-stage most world done.0 before it.answer it.books request asking done.1),
      )

  pub ask-move : (most : ℕ) (step : Step) (world : WorldState) (before after : Stage) (request : Request) → IsAsking cards number most world before request
      → Makes (issuer cards) step Ask before after → GoesTo number world (λ later. IsAsking cards number most later after request)
  ask-move most step world before after request asking made =
      ask-some most world before after request asking
      (subst (λ (asked : Option Parts). IsAsked (issuer cards) (λ request. request) asked before after) asking.request_is made)

  -- a line with a changed cryptogram is refused
  pub spoil-move : (most : ℕ) (step : Step) (world : WorldState) (before after : Stage) (request : Request) → IsAsking cards number most world before request
      → Makes (issuer cards) step AskSpoiled before after → GoesTo number world (λ later. IsAsking cards number most later after request)
  spoil-move most step world before after request asking made =
      let it : IsAnswered (issuer cards) (request_line (spoiled request)) before after =
      subst (λ (asked : Option Parts). IsAsked (issuer cards) spoiled asked before after) asking.request_is made in
      let right = asking.idle.played.made number request asking.made in
      let turn = subst (λ (said : Result Asked Refusal). Turn (issuer cards) before.books said it.answer it.books) right.spoils it.turn in
      let stage_is : after ≡ answered before (Refused BadCryptogram) before.books =
      it.after_is ∙ ap₂ (λ (answer : Answer) (books : List ShardBook). answered before answer books) turn.0 turn.1 in (
        world,
        later-same number world,
        subst (λ (stage : Stage). IsAsking cards number most world stage request) (sym stage_is) (record {
          idle = record {
            played = asking.idle.played;
            card_is = asking.idle.card_is;
            histories = asking.idle.histories;
            held = asking.idle.held;
            counter = asking.idle.counter;
          };
          request_is = asking.request_is;
          made = asking.made;
          replied = λ reply is. absurd (none-some reply is);
          still = asking.still;
        }),
      )

  -- the newest request is decided
  newest-greatest : (world : WorldState) (request : Request) (top : ℕ) → IsNewest world request
      → greatest_atc (decided_for request (history_for world request)) ≡ Some top → top < request.atc
  newest-greatest world request top newest is =
      let it = greatest-one (decided_for request (history_for world request)) top is in
      let lower = newest it.0 it.1 in
      omega (arith, it.2, lower)

  abbrev Replies : Answer → Type 0
  Replies answer = (reply : Reply) × (reply_in answer ≡ Some reply)

  newest-refused : (world : WorldState) (request : Request) (history new : List Entry) (refusal : Refusal) → IsNewest world request
      → history_for world request ≡ history → is_store_fault (Refused refusal) ≡ false
      → AnswersClaimed (shard_of (issuer cards) (card_of request)) (reply_to (issuer cards)) true history request (Refused refusal) new
      → Replies (Refused refusal)
  newest-refused world request history new (BadLine column) newest same works it = absurd it
  newest-refused world request history new (BadTlv place) newest same works it = absurd it
  newest-refused world request history new (Missing tag) newest same works it = absurd it
  newest-refused world request history new (BadField tag) newest same works it = absurd it
  newest-refused world request history new (Repeated tag) newest same works it = absurd it
  newest-refused world request history new UnknownCard newest same works it = absurd it
  newest-refused world request history new NotArqc newest same works it = absurd it
  newest-refused world request history new (UnknownKey index) newest same works it = absurd it
  newest-refused world request history new BadCryptogram newest same works it = absurd it
  newest-refused world request history new (Below top) newest same works it =
      let lower = newest-greatest world request top newest (ap (λ (history : List Entry). greatest_atc (decided_for request history)) same ∙ it.0.greatest_is) in
      let old = it.0.below in
      absurd (omega (arith, lower, old))
  newest-refused world request history new (Taken at place) newest same works it =
      let used = it.0.1 in
      let lower = newest it.0.0 (subst (λ (history : List Entry). Contains (decided_for request history) it.0.0) (sym same) used.recorded) in
      absurd (omega (arith, lower, used.same_counter))
  newest-refused world request history new Pending newest same works it = absurd (true≢false it.0)
  newest-refused world request history new QueueFull newest same works it = absurd it
  newest-refused world request history new BadCommand newest same works it = absurd it
  newest-refused world request history new StoreFault newest same works it = absurd (true≢false works)

  newest-answered : (world : WorldState) (request : Request) (history new : List Entry) (answer : Answer) → IsNewest world request
      → history_for world request ≡ history → is_store_fault answer ≡ false
      → AnswersClaimed (shard_of (issuer cards) (card_of request)) (reply_to (issuer cards)) true history request answer new → Replies answer
  newest-answered world request history new (Fresh at place reply) newest same works it = (reply, refl)
  newest-answered world request history new (Kept at place reply) newest same works it = (reply, refl)
  newest-answered world request history new (IsQueuedAnswer at place) newest same works it = absurd it
  newest-answered world request history new (IsSetAnswer at place) newest same works it = absurd it
  newest-answered world request history new (Refused refusal) newest same works it = newest-refused world request history new refusal newest same works it

  -- the stage after the line of a new request was answered: there is a reply
  pub record IsReplying (most : ℕ) (world : WorldState) (stage : Stage) (request : Request) : Type 0 where
    pub asking : IsAsking cards number most world stage request
    pub opened : stage.player.card.open_request ≡ Some request
    pub unchained : stage.player.card.chain ≡ None
    pub reply : Reply
    pub reply_is : stage.player.reply ≡ Some reply

  pub ask-newest : (most : ℕ) (step : Step) (world : WorldState) (before after : Stage) (request : Request) → IsTapped most world before request
      → Makes (issuer cards) step Ask before after → GoesTo number world (λ later. IsReplying most later after request)
  ask-newest most step world before after request first made =
      let asking = first.asking in
      let it : IsAnswered (issuer cards) (request_line request) before after =
      subst (λ (asked : Option Parts). IsAsked (issuer cards) (λ request. request) asked before after) asking.request_is made in
      let turn = asked-turn world asking.idle.played before after request asking.made it in
      let shard = shard_of (issuer cards) (card_of request) in
      let same : history_for world request ≡ turn.old.history =
      ap (λ (setup : Setup). (shard_at world (shard_of setup (card_of request))).history) asking.idle.played.issuer_is
      ∙ book-history world before.books asking.idle.histories shard turn.old turn.old_is in
      let reply = newest-answered world request turn.old.history turn.new.history it.answer first.newest same it.works turn.changes in
      let done = ask-some most world before after request asking it in (
        done.0,
        done.1,
        record {
          asking = done.2;
          opened = ap (λ (stage : Stage). stage.player.card.open_request) it.after_is ∙ first.opened;
          unchained = ap (λ (stage : Stage). stage.player.card.chain) it.after_is ∙ first.unchained;
          reply = reply.0;
          reply_is = ap (λ (stage : Stage). stage.player.reply) it.after_is ∙ reply.1;
        },
      )

  -- ---- a reply arrives

  handed-stage : (most : ℕ) (world later : WorldState) (before : Stage) (card : CardState) (tally : Summary) (request : Request)
      → IsAsking cards number most world before request → IsMoved cards number world before.player.card card later → IsOpen card request
      → IsAsking cards number most later (record before { player = record before.player { card = card }; tally = tally }) request
  handed-stage most world later before card tally request asking it still = record {
    idle = record {
      played = it.played;
      card_is = it.card_is;
      histories = ap (λ shards. map (λ (s : ShardState). s.history) shards) it.shards_are ∙ asking.idle.histories;
      held = λ held is. it.later.made (record { card = number; request = held }) (asking.idle.held held is);
      counter = let now = it.counter in let was = asking.idle.counter in omega (arith, now, was);
    };
    request_is = asking.request_is;
    made = it.later.made (record { card = number; request = request }) asking.made;
    replied = λ reply is. subst (λ sent. Contains sent (record { request = request; reply = reply })) (sym it.sent_are) (asking.replied reply is);
    still = still;
  }

  -- what a terminal gives of a reply: the answer changed so, and some of the commands
  given-is : (change : List ℕ → List ℕ) (choose : List (List ℕ) → List (List ℕ)) (reply : Reply) (value : List ℕ) (commands : List (List ℕ)) (card : CardState)
      → answer_in reply.bytes.items ≡ Some value → commands_in reply.bytes.items ≡ commands
      → given_card change choose reply (answer_in reply.bytes.items) card ≡ after_answer card (change value) reply.arc (choose commands)
  given-is change choose reply value commands card value_is commands_are =
      ap (λ (found : Option (List ℕ)). given_card change choose reply found card) value_is
      ∙ ap (λ (commands : List (List ℕ)). after_answer card (change value) reply.arc (choose commands)) commands_are

  take-whole : (commands : List (List ℕ)) → commands ≡ take (length commands) commands
  take-whole commands = sym (take_all (length commands) commands (omega arith))

  module _ (most : ℕ) (world : WorldState) (before after : Stage) (request : Request) (asking : IsAsking cards number most world before request) where
    right : IsRight cards number request
    right = asking.idle.played.made number request asking.made

    abbrev Gives : Type 0
    Gives = GoesTo number world (λ later. IsAsking cards number most later after request)

    -- with a reply
    gives : (change : List ℕ → List ℕ) (choose : List (List ℕ) → List (List ℕ)) (reply : Reply)
        → IsHanded cards number world before.player.card request (given_card change choose reply (answer_in reply.bytes.items) before.player.card)
        → after ≡ handed change choose (Some reply) before → Gives
    gives change choose reply it is = (
      it.has.0,
      it.has.1.later,
      subst (λ (stage : Stage). IsAsking cards number most it.has.0 stage request) (sym is)
          (handed-stage most world it.has.0 before (given_card change choose reply (answer_in reply.bytes.items) before.player.card)
          (given_tally change reply (answer_in reply.bytes.items) before.player.card before.tally) request asking it.has.1 it.still),
    )

    -- all commands, or the first alone
    hands : (choose : List (List ℕ) → List (List ℕ)) (count : List (List ℕ) → ℕ)
        → ((commands : List (List ℕ)) → choose commands ≡ take (count commands) commands)
        → (reply : Option Reply) → before.player.reply ≡ reply → after ≡ handed (λ answer. answer) choose reply before → Gives
    hands choose count picks None reply_is is =
        (world, later-same number world, subst (λ (stage : Stage). IsAsking cards number most world stage request) (sym is) asking)
    hands choose count picks (Some reply) reply_is is =
        let sent = asking.replied reply reply_is in
        let told = reply-made cards number valid world asking.idle.played request reply right sent in
        let card = before.player.card in
        let value = value_to number request reply.arc told.csu in
        let sealed = sealed_to number request told.batch in
        let value_is = value-found cards number valid world asking.idle.played card asking.idle.card_is request reply right sent told in
        let sealed_is = sealed-found cards number valid world asking.idle.played card asking.idle.card_is request reply right sent told in
        let some = handed-some cards number valid world asking.idle.played card asking.idle.card_is request reply right sent told (count sealed) asking.still in
        let given_is : given_card (λ answer. answer) choose reply (answer_in reply.bytes.items) card
        ≡ after_answer card value reply.arc (take (count sealed) sealed) =
        given-is (λ answer. answer) choose reply value sealed card value_is sealed_is
        ∙ ap (λ (commands : List (List ℕ)). after_answer card value reply.arc commands) (picks sealed) in
        gives (λ answer. answer) choose reply
        (subst (λ (card : CardState). IsHanded cards number world before.player.card request card) (sym given_is) some) is

    -- with a changed answer
    spoils : (reply : Option Reply) → before.player.reply ≡ reply → after ≡ handed spoil_first (λ commands. commands) reply before → Gives
    spoils None reply_is is =
        (world, later-same number world, subst (λ (stage : Stage). IsAsking cards number most world stage request) (sym is) asking)
    spoils (Some reply) reply_is is =
        let sent = asking.replied reply reply_is in
        let told = reply-made cards number valid world asking.idle.played request reply right sent in
        let card = before.player.card in
        let value = value_to number request reply.arc told.csu in
        let sealed = sealed_to number request told.batch in
        let value_is = value-found cards number valid world asking.idle.played card asking.idle.card_is request reply right sent told in
        let sealed_is = sealed-found cards number valid world asking.idle.played card asking.idle.card_is request reply right sent told in
        let some = handed-spoiled cards number valid world asking.idle.played card asking.idle.card_is request reply right sent told sealed asking.still in
        let given_is = given-is spoil_first (λ commands. commands) reply value sealed card value_is sealed_is in
        gives spoil_first (λ commands. commands) reply
        (subst (λ (card : CardState). IsHanded cards number world before.player.card request card) (sym given_is) some) is

  pub hand-move : (most : ℕ) (step : Step) (world : WorldState) (before after : Stage) (request : Request) → IsAsking cards number most world before request
      → Makes (issuer cards) step Hand before after → GoesTo number world (λ later. IsAsking cards number most later after request)
  hand-move most step world before after request asking made =
      hands most world before after request asking (λ commands. commands) (λ commands. length commands) take-whole before.player.reply refl made

  pub first-move : (most : ℕ) (step : Step) (world : WorldState) (before after : Stage) (request : Request) → IsAsking cards number most world before request
      → Makes (issuer cards) step HandFirst before after → GoesTo number world (λ later. IsAsking cards number most later after request)
  first-move most step world before after request asking made =
      hands most world before after request asking (take 1) (λ commands. 1) (λ commands. refl) before.player.reply refl made

  pub wrong-move : (most : ℕ) (step : Step) (world : WorldState) (before after : Stage) (request : Request) → IsAsking cards number most world before request
      → Makes (issuer cards) step HandSpoiled before after → GoesTo number world (λ later. IsAsking cards number most later after request)
  wrong-move most step world before after request asking made = spoils most world before after request asking before.player.reply refl made

  -- the first reply to a new request: the card finds its answer right
  pub hand-newest : (most : ℕ) (step : Step) (world : WorldState) (before after : Stage) (request : Request) → IsReplying most world before request
      → Makes (issuer cards) step Hand before after
      → GoesTo number world (λ later. IsIdle cards number most later after × ((chain : List ℕ) × (after.player.card.chain ≡ Some chain)))
  hand-newest most step world before after request first made =
      let asking = first.asking in
      let reply = first.reply in
      let card = before.player.card in
      let right = asking.idle.played.made number request asking.made in
      let sent = asking.replied reply first.reply_is in
      let told = reply-made cards number valid world asking.idle.played request reply right sent in
      let value = value_to number request reply.arc told.csu in
      let sealed = sealed_to number request told.batch in
      let value_is = value-found cards number valid world asking.idle.played card asking.idle.card_is request reply right sent told in
      let sealed_is = sealed-found cards number valid world asking.idle.played card asking.idle.card_is request reply right sent told in
      let ran = handed-first cards number valid world asking.idle.played card asking.idle.card_is request reply right sent told (length sealed)
      first.opened first.unchained in
      let given = given_card (λ answer. answer) (λ commands. commands) reply (answer_in reply.bytes.items) card in
      let given_is : given ≡ after_answer card value reply.arc (take (length sealed) sealed) =
      given-is (λ answer. answer) (λ commands. commands) reply value sealed card value_is sealed_is
      ∙ ap (λ (commands : List (List ℕ)). after_answer card value reply.arc commands) (take-whole sealed) in
      let it = subst (λ (moved : CardState). IsRunning cards number world card moved) (sym given_is) ran in
      let stage_is : after ≡ handed (λ answer. answer) (λ commands. commands) (Some reply) before =
      made ∙ ap (λ (reply : Option Reply). handed (λ answer. answer) (λ commands. commands) reply before) first.reply_is in
      let asks = handed-stage most world it.has.0 before given (given_tally (λ answer. answer) reply
      (answer_in reply.bytes.items) card before.tally) request asking it.has.1 (inr (it.chain, it.chained)) in (
        it.has.0,
        it.has.1.later,
        (
          subst (λ (stage : Stage). IsIdle cards number most it.has.0 stage) (sym stage_is) asks.idle,
          (it.chain, ap (λ (stage : Stage). stage.player.card.chain) stage_is ∙ it.chained),
        ),
      )

  -- ---- requests that are held back

  pub hold-move : (most : ℕ) (step : Step) (world : WorldState) (before after : Stage) (request : Request) → IsAsking cards number most world before request
      → Makes (issuer cards) step Hold before after → GoesTo number world (λ later. IsIdle cards number most later after)
  hold-move most step world before after request asking made = (
    world,
    later-same number world,
    subst (λ (stage : Stage). IsIdle cards number most world stage) (sym made) (record {
      played = asking.idle.played;
      card_is = asking.idle.card_is;
      histories = asking.idle.histories;
      held = λ held is. subst (MadeBy number world) (same_Some _ _ (sym asking.request_is ∙ is)) asking.made;
      counter = asking.idle.counter;
    }),
  )

  -- a request that was held back is in hand, once the card found an answer right
  pub take-move : (most : ℕ) (step : Step) (world : WorldState) (before after : Stage) (held : Request) → IsIdle cards number most world before
      → (chain : List ℕ) → before.player.card.chain ≡ Some chain → before.player.held ≡ Some held → Makes (issuer cards) step TakeHeld before after
      → IsAsking cards number most world after held
  take-move most step world before after held idle chain chained held_is made =
      subst (λ (stage : Stage). IsAsking cards number most world stage held) (sym made) (record {
        idle = record {
          played = idle.played;
          card_is = idle.card_is;
          histories = idle.histories;
          held = λ request is. absurd (none-some request is);
          counter = idle.counter;
        };
        request_is = held_is;
        made = idle.held held held_is;
        replied = λ reply is. absurd (none-some reply is);
        still = inr (chain, chained);
      })

  -- or none is, and nothing is asked and given
  pub none-held : (most : ℕ) (step : Step) (world : WorldState) (before taken asked after : Stage) → IsIdle cards number most world before
      → before.player.held ≡ None → Makes (issuer cards) step TakeHeld before taken → Makes (issuer cards) step Ask taken asked
      → Makes (issuer cards) step Hand asked after → IsIdle cards number most world after
  none-held most step world before taken asked after idle none takes asks hands =
      let none_in : taken.player.request ≡ None = ap (λ (stage : Stage). stage.player.request) takes ∙ none in
      let none_reported : taken.player.reply ≡ None = ap (λ (stage : Stage). stage.player.reply) takes in
      let asked_is : asked ≡ taken = subst (λ (request : Option Parts). IsAsked (issuer cards) (λ request. request) request taken asked) none_in asks in
      let after_is : after ≡ asked =
      hands ∙ ap (λ (reply : Option Reply). handed (λ answer. answer) (λ commands. commands) reply asked)
      (ap (λ (stage : Stage). stage.player.reply) asked_is ∙ none_reported) in
      subst (λ (stage : Stage). IsIdle cards number most world stage) (sym (after_is ∙ asked_is ∙ takes)) (record {
        played = idle.played;
        card_is = idle.card_is;
        histories = idle.histories;
        held = λ request is. absurd (none-some request is);
        counter = idle.counter;
      })
