-- What each step does to the shards, to the claims and to the cards, as a run needs it that goes without the records that are lost.
use Rattle.std.proofs.Common.{◌≡◌, ℕ, ◌%◌, ◌<◌, Bool, true, false, not, ◌==◌, List, [], ◌∷◌, ◌++◌, length, set, Option, Some, None}
use Rattle.std.proofs.Common.{Contains, Ok, refl, ap, sym, ◌∙◌, subst, inl, inr, ◌⊎◌, arith}
use Rattle.std.proofs.lemmas.Bool.{cases_eq}
use Rattle.std.proofs.lemmas.List.Elements.{All-filter, All-push, Contains-append_left}
use Rattle.std.proofs.lemmas.Option.{none-some, same_Some, slice_get_within}
use Rattle.std.specs.List.{slice_get, All}
use Rattle.issuer_base.specs.declared.request.Request.{Request}
use Rattle.issuer_base.specs.declared.entry.Entry.{Entry}
use Rattle.issuer_base.specs.declared.entry.Entry.TheVariants.{Decided, Queued as IsQueued, Status as IsStatus}
use Rattle.card_history.specs.LegalRecords.{IsLegal, IsLegalDecision}
use Rattle.card_history.proofs.LongerHistories.{Stays}
use Rattle.chip_request.specs.Reading.{request_of}
use Rattle.issuer_setup.specs.IssuerSetup.{Setup}
use Rattle.card_model.specs.Application.{CardState}
use Rattle.issuer_base.specs.declared.command.Command.{Command}
use Rattle.issuer_base.specs.declared.request.Parts.{Parts}
use Rattle.card_model.specs.CardSteps.{CardStep, Authenticate as IsAuthenticate, Run as IsRun, with_open, with_answer, with_command, with_failure}
use Rattle.shard_book.specs.Grounds.{grounds_of}
use Rattle.world_net.specs.declared.event.Event.{Event}
use Rattle.world_net.specs.declared.event.Event.TheVariants.{Tap, Claim, Release, Write, Send, Authenticate, Run, Queue, Status, Restart}
use Rattle.world_net.specs.declared.parts.OpenClaim.{OpenClaim}
use Rattle.world_net.specs.declared.parts.Exchange.{Exchange}
use Rattle.world_net.specs.WorldState.{WorldState, ShardState, home_of, without, with_record, with_doubt}
use Rattle.world_net.specs.WorldSteps.{IsStep, Claims, Releases, Writes, Queues, Sets, written, settled_at, settled_in, restarted, first_doubtful}
use Rattle.world_net.specs.WorldRuns.{IsRunFrom, IsGenuineStep, IsAnswered}
use Rattle.world_net.proofs.CardMoves.{tap-moves, right-moves, wrong-stays, ran-moves, refused-moves}
use Rattle.world_net.proofs.Hosts.{at, recorded, doubted, each-shard, recorded-stays, doubted-stays}
use Rattle.world_model.proofs.NetWrites.{found-all}
use Rattle.world_net.proofs.Worlds.{IsSound, put-there, put-elsewhere, shard-within, sound-step}

-- chip data are parsed as the request
pub record IsSaid (request : Request) : Type 0 where
  pub bytes : List ℕ
  pub read : request_of bytes ≡ Ok request

-- so are the request's of the record, if it is a decision
abbrev pub SaidIn : Entry → Type 0
SaidIn (Decided request reply) = IsSaid request
SaidIn (IsQueued pan psn command) = Unit {0}
SaidIn (IsStatus pan psn status) = Unit {0}

-- so are those of what is in doubt
abbrev pub SaidDoubt : Option Exchange → Type 0
SaidDoubt doubt = (exchange : Exchange) → doubt ≡ Some exchange → IsSaid exchange.request

-- each claim is of a request that chip data say
abbrev pub SaidClaims : List OpenClaim → Type 0
SaidClaims claims = All (λ claim. IsSaid claim.request) claims

-- so are all requests that are claimed or in doubt
pub record AreSaid (world : WorldState) : Type 0 where
  pub claims : SaidClaims world.claims
  pub doubts : (shard : ℕ) → SaidDoubt (at world.shards shard).doubt

-- one more record
pub record AddsRecord (issuer : Setup) (before after : List ShardState) : Type 0 where
  pub shard : ℕ
  pub entry : Entry
  pub within : shard < length before
  pub legal : IsLegal (grounds_of issuer) shard (at before shard).history entry
  pub said : SaidIn entry
  pub after_is : after ≡ recorded before shard entry

-- another decision in doubt, or none
pub record ChangesDoubt (before after : List ShardState) : Type 0 where
  pub shard : ℕ
  pub doubt : Option Exchange
  pub within : shard < length before
  pub said : SaidDoubt doubt
  pub after_is : after ≡ doubted before shard doubt

-- what a step of the host leaves of a world
pub record IsOfHost (world after : WorldState) : Type 0 where
  pub issuer_is : after.issuer ≡ world.issuer
  pub cards_are : after.cards ≡ world.cards
  pub made_are : after.made ≡ world.made
  pub sent_are : after.sent ≡ world.sent
  pub claims : SaidClaims after.claims
  pub change : (after.shards ≡ world.shards) ⊎ (AddsRecord world.issuer world.shards after.shards ⊎ ChangesDoubt world.shards after.shards)

none-said : SaidClaims []
none-said k claim below = absurd (omega arith)

without-said : (caller : ℕ) (claims : List OpenClaim) → SaidClaims claims → SaidClaims (without caller claims)
without-said caller claims all = All-filter (λ claim. not (claim.caller == caller)) (λ claim. IsSaid claim.request) claims all

-- other claims
of-claims : (world : WorldState) (claims : List OpenClaim) → SaidClaims claims → IsOfHost world (record world { claims = claims })
of-claims world claims said = record {
  issuer_is = refl;
  cards_are = refl;
  made_are = refl;
  sent_are = refl;
  claims = said;
  change = inl refl;
}

module _ (world : WorldState) (sound : IsSound world) (said : AreSaid world) where
  of-record : (shard : ℕ) (entry : Entry) (claims : List OpenClaim) → IsLegal (grounds_of world.issuer) shard (at world.shards shard).history entry
      → SaidIn entry → SaidClaims claims → IsOfHost world (record (with_record world shard entry) { claims = claims })
  of-record shard entry claims legal its all = record {
    issuer_is = refl;
    cards_are = refl;
    made_are = refl;
    sent_are = refl;
    claims = all;
    change = inr (inl (record {
      shard = shard;
      entry = entry;
      within = shard-within world sound shard entry legal;
      legal = legal;
      said = its;
      after_is = refl;
    }));
  }

  of-doubt : (shard : ℕ) (doubt : Option Exchange) → shard < length world.shards → SaidDoubt doubt → IsOfHost world (with_doubt world shard doubt)
  of-doubt shard doubt within its = record {
    issuer_is = refl;
    cards_are = refl;
    made_are = refl;
    sent_are = refl;
    claims = said.claims;
    change = inr (inr (record { shard = shard; doubt = doubt; within = within; said = its; after_is = refl }));
  }

  of-written : (stored : Bool) (caller shard : ℕ) (exchange : Exchange)
      → IsLegalDecision (grounds_of world.issuer) shard (at world.shards shard).history exchange.request exchange.reply
      → IsSaid exchange.request → IsOfHost world (written stored world caller shard exchange)
  of-written true caller shard exchange legal its =
      of-record shard (Decided exchange.request exchange.reply) (without caller world.claims) legal its (without-said caller world.claims said.claims)
  of-written false caller shard exchange legal its =
      of-doubt shard (Some exchange) (shard-within world sound shard (Decided exchange.request exchange.reply) legal)
      (λ other is. subst (λ (e : Exchange). IsSaid e.request) (same_Some _ _ is) its)

  of-settled_at : (kept : Bool) (shard : ℕ) (doubt : Option Exchange) → (at world.shards shard).doubt ≡ doubt
      → IsOfHost world (settled_at kept world shard doubt)
  of-settled_at kept shard None is = of-claims world world.claims said.claims
  of-settled_at true shard (Some exchange) is =
      of-record shard (Decided exchange.request exchange.reply) world.claims (sound.shards.doubtful shard exchange is) (said.doubts shard exchange is)
      said.claims
  of-settled_at false shard (Some exchange) is =
      of-doubt shard None
      (shard-within world sound shard (Decided exchange.request exchange.reply) (sound.shards.doubtful shard exchange is))
      (λ other none. absurd (none-some other none))

  of-settled_in : (kept : Bool) (shard : Option ℕ) → IsOfHost world (settled_in kept world shard)
  of-settled_in kept None = of-claims world world.claims said.claims
  of-settled_in kept (Some shard) = of-settled_at kept shard (at world.shards shard).doubt refl

  pub of-claim : (caller : ℕ) (bytes : List ℕ) (after : WorldState) → Claims world caller bytes after → IsOfHost world after
  of-claim caller bytes after step =
      let claim : OpenClaim = record { caller = caller; request = step.can.request } in
      subst (IsOfHost world) (sym step.after_is)
      (of-claims world (world.claims ++ claim ∷ [])
      (All-push (λ claim. IsSaid claim.request) world.claims claim said.claims (record { bytes = bytes; read = step.can.read })))

  pub of-release : (caller : ℕ) (after : WorldState) → Releases world caller after → IsOfHost world after
  of-release caller after step =
      subst (IsOfHost world) (sym step.after_is)
      (of-claims world (without caller world.claims) (without-said caller world.claims said.claims))

  pub of-write : (caller : ℕ) (stored : Bool) (after : WorldState) → Writes world caller stored after → IsOfHost world after
  of-write caller stored after step =
      subst (IsOfHost world) (sym step.after_is)
      (of-written stored caller (home_of world step.claim.request) (record { request = step.claim.request; reply = step.reply }) step.legal
      (found-all (λ claim. claim.caller == caller) (λ claim. IsSaid claim.request) world.claims step.claim step.claim_is said.claims))

  pub of-queue : (number : ℕ) (command : Command) (after : WorldState) → Queues world number command after → IsOfHost world after
  of-queue number command after step =
      subst (IsOfHost world) (sym step.after_is)
      (of-record (number % world.issuer.shards) (IsQueued step.can.card.pan step.can.card.psn command) world.claims step.can.legal tt said.claims)

  pub of-status : (number status : ℕ) (after : WorldState) → Sets world number status after → IsOfHost world after
  of-status number status after step =
      subst (IsOfHost world) (sym step.after_is)
      (of-record (number % world.issuer.shards) (IsStatus step.can.card.pan step.can.card.psn status) world.claims step.can.legal tt said.claims)

  pub of-restart : (kept : Bool) (after : WorldState) → after ≡ restarted kept world → IsOfHost world after
  of-restart kept after step =
      let it = of-settled_in kept (first_doubtful world.shards) in
      subst (IsOfHost world) (sym step) (record {
        issuer_is = it.issuer_is;
        cards_are = it.cards_are;
        made_are = it.made_are;
        sent_are = it.sent_are;
        claims = none-said;
        change = it.change;
      })

  -- what is in doubt after it is said
  doubts-record : (after : List ShardState) → AddsRecord world.issuer world.shards after → (shard : ℕ) → SaidDoubt (at after shard).doubt
  doubts-record after adds =
      subst (λ (shards : List ShardState). (shard : ℕ) → SaidDoubt (at shards shard).doubt) (sym adds.after_is)
      (each-shard (λ shard state. SaidDoubt state.doubt) world.shards adds.shard
      (record { history = (at world.shards adds.shard).history ++ adds.entry ∷ []; doubt = None }) adds.within
      (λ exchange none. absurd (none-some exchange none)) (λ other apart. said.doubts other))

  doubts-changed : (after : List ShardState) → ChangesDoubt world.shards after → (shard : ℕ) → SaidDoubt (at after shard).doubt
  doubts-changed after changes =
      subst (λ (shards : List ShardState). (shard : ℕ) → SaidDoubt (at shards shard).doubt) (sym changes.after_is)
      (each-shard (λ shard state. SaidDoubt state.doubt) world.shards changes.shard
      (record { history = (at world.shards changes.shard).history; doubt = changes.doubt }) changes.within
      changes.said (λ other apart. said.doubts other))

  said-host : (after : WorldState) → IsOfHost world after → AreSaid after
  said-host after of = record {
    claims = of.claims;
    doubts = elim of.change [
      | inl same ↦ subst (λ (shards : List ShardState). (shard : ℕ) → SaidDoubt (at shards shard).doubt) (sym same) said.doubts
      | inr changed ↦ elim changed [
        | inl adds ↦ doubts-record after.shards adds
        | inr changes ↦ doubts-changed after.shards changes
      ]
    ];
  }

  said-same : (after : WorldState) → after.claims ≡ world.claims → after.shards ≡ world.shards → AreSaid after
  said-same after claims_are shards_are = record {
    claims = subst SaidClaims (sym claims_are) said.claims;
    doubts = subst (λ (shards : List ShardState). (shard : ℕ) → SaidDoubt (at shards shard).doubt) (sym shards_are) said.doubts;
  }

  -- every step keeps it
  pub said-step : (event : Event) (after : WorldState) → IsStep world event after → AreSaid after
  said-step (Tap number terminal) after step =
      said-same after (ap (λ (w : WorldState). w.claims) step.after_is) (ap (λ (w : WorldState). w.shards) step.after_is)
  said-step (Claim caller bytes) after step = said-host after (of-claim caller bytes.items after step)
  said-step (Release caller) after step = said-host after (of-release caller after step)
  said-step (Write caller stored) after step = said-host after (of-write caller stored after step)
  said-step (Send shard place) after step =
      said-same after (ap (λ (w : WorldState). w.claims) step.after_is) (ap (λ (w : WorldState). w.shards) step.after_is)
  said-step (Authenticate number value arc) after step =
      said-same after (ap (λ (w : WorldState). w.claims) step.after_is) (ap (λ (w : WorldState). w.shards) step.after_is)
  said-step (Run number bytes) after step =
      said-same after (ap (λ (w : WorldState). w.claims) step.after_is) (ap (λ (w : WorldState). w.shards) step.after_is)
  said-step (Queue number command) after step = said-host after (of-queue number command after step)
  said-step (Status number status) after step = said-host after (of-status number status after step)
  said-step (Restart kept) after step = said-host after (of-restart kept after step)

-- each record stays, and so does what was sent
pub record IsLater (before after : WorldState) : Type 0 where
  pub stays : (shard : ℕ) → Stays (at before.shards shard).history (at after.shards shard).history
  pub sent : (exchange : Exchange) → Contains before.sent exchange → Contains after.sent exchange

later-same : (before after : WorldState) → after.shards ≡ before.shards → after.sent ≡ before.sent → IsLater before after
later-same before after shards_are sent_are = record {
  stays = subst (λ (shards : List ShardState). (shard : ℕ) → Stays (at before.shards shard).history (at shards shard).history) (sym shards_are)
      (λ shard place entry is. is);
  sent = subst (λ (sent : List Exchange). (exchange : Exchange) → Contains before.sent exchange → Contains sent exchange) (sym sent_are)
      (λ exchange here. here);
}

later-host : (before after : WorldState) → IsOfHost before after → IsLater before after
later-host before after of = record {
  stays = elim of.change [
    | inl same ↦ subst (λ (shards : List ShardState). (shard : ℕ) → Stays (at before.shards shard).history (at shards shard).history) (sym same)
        (λ shard place entry is. is)
    | inr changed ↦ elim changed [
      | inl adds ↦ subst (λ (shards : List ShardState). (shard : ℕ) → Stays (at before.shards shard).history (at shards shard).history)
          (sym adds.after_is) (recorded-stays before.shards adds.shard adds.entry adds.within)
      | inr changes ↦ subst (λ (shards : List ShardState). (shard : ℕ) → Stays (at before.shards shard).history (at shards shard).history)
          (sym changes.after_is) (doubted-stays before.shards changes.shard changes.doubt changes.within)
    ]
  ];
  sent = subst (λ (sent : List Exchange). (exchange : Exchange) → Contains before.sent exchange → Contains sent exchange) (sym of.sent_are)
      (λ exchange here. here);
}

later-step : (world : WorldState) (event : Event) (after : WorldState) → IsSound world → AreSaid world → IsStep world event after → IsLater world after
later-step world (Tap number terminal) after sound said step =
    later-same world after (ap (λ (w : WorldState). w.shards) step.after_is) (ap (λ (w : WorldState). w.sent) step.after_is)
later-step world (Claim caller bytes) after sound said step = later-host world after (of-claim world sound said caller bytes.items after step)
later-step world (Release caller) after sound said step = later-host world after (of-release world sound said caller after step)
later-step world (Write caller stored) after sound said step = later-host world after (of-write world sound said caller stored after step)
later-step world (Send shard place) after sound said step =
    let new : Exchange = record { request = step.can.request; reply = step.can.reply } in
    subst (IsLater world) (sym step.after_is) (record {
      stays = λ shard place entry is. is;
      sent = λ exchange here. Contains-append_left world.sent (new ∷ []) exchange here;
    })
later-step world (Authenticate number value arc) after sound said step =
    later-same world after (ap (λ (w : WorldState). w.shards) step.after_is) (ap (λ (w : WorldState). w.sent) step.after_is)
later-step world (Run number bytes) after sound said step =
    later-same world after (ap (λ (w : WorldState). w.shards) step.after_is) (ap (λ (w : WorldState). w.sent) step.after_is)
later-step world (Queue number command) after sound said step = later-host world after (of-queue world sound said number command after step)
later-step world (Status number status) after sound said step = later-host world after (of-status world sound said number status after step)
later-step world (Restart kept) after sound said step = later-host world after (of-restart world sound said kept after step)

later-trans : (first middle last : WorldState) → IsLater first middle → IsLater middle last → IsLater first last
later-trans first middle last one other = record {
  stays = λ shard place entry is. other.stays shard place entry (one.stays shard place entry is);
  sent = λ exchange here. other.sent exchange (one.sent exchange here);
}

-- so do they over a run
pub later-from : (before : WorldState) (events : List Event) (after : WorldState) → IsSound before → AreSaid before → IsRunFrom before events after
    → IsLater before after
later-from before [] after sound said run =
    later-same before after (ap (λ (w : WorldState). w.shards) run) (ap (λ (w : WorldState). w.sent) run)
later-from before (event ∷ events) after sound said (between, step, rest) =
    later-trans before between after (later-step before event between sound said step)
    (later-from between events after (sound-step before event between sound step) (said-step before sound said event between step) rest)

-- a reply was sent to the card's open request
abbrev pub HasReply : List Exchange → CardState → Type 0
HasReply sent card = (exchange : Exchange) × Contains sent exchange × (card.open_request ≡ Some exchange.request)

-- so was one to that of each card that accepted the issuer's answer
pub record AreAnswered (cards : List CardState) (sent : List Exchange) : Type 0 where
  pub each : (number : ℕ) (card : CardState) (chain : List ℕ) → slice_get cards number ≡ Some card → card.chain ≡ Some chain → HasReply sent card

answered-card : (cards : List CardState) (sent : List Exchange) (number : ℕ) (card moved : CardState) → AreAnswered cards sent
    → slice_get cards number ≡ Some card → ((chain : List ℕ) → moved.chain ≡ Some chain → HasReply sent moved)
    → AreAnswered (set cards number moved) sent
answered-card cards sent number card moved all card_is here = record {
  each = λ other found chain found_is chain_is.
      elim (cases_eq other number) [
        | inl same ↦
            let there = ap (slice_get (set cards number moved)) (sym same) ∙ found_is in
            let its : moved ≡ found = put-there cards number moved found (slice_get_within cards number card card_is) there in
            subst (HasReply sent) its (here chain (ap (λ (c : CardState). c.chain) its ∙ chain_is))
        | inr apart ↦ all.each other found chain (put-elsewhere cards number other moved found apart found_is) chain_is
      ];
}

open-chain : (card : CardState) (request : Parts) → (with_open card request).chain ≡ None
unfolding with_open
open-chain card request = refl

answer-open : (card : CardState) (request : Parts) → (with_answer card request).open_request ≡ card.open_request
unfolding with_answer
answer-open card request = refl

command-open : (card : CardState) (command : Command) (next : List ℕ) → (with_command card command next).open_request ≡ card.open_request
unfolding with_command
command-open card command next = refl

failure-open : (card : CardState) → (with_failure card).open_request ≡ card.open_request
unfolding with_failure
failure-open card = refl

failure-chain : (card : CardState) → (with_failure card).chain ≡ card.chain
unfolding with_failure
failure-chain card = refl

-- the card's open request is that of another state of it
reply-moved : (sent : List Exchange) (card moved : CardState) → moved.open_request ≡ card.open_request → HasReply sent card → HasReply sent moved
reply-moved sent card moved same (exchange, here, is) = (exchange, here, same ∙ is)

answered-right : (cards : List CardState) (sent : List Exchange) (number : ℕ) (card moved : CardState) → AreAnswered cards sent
    → slice_get cards number ≡ Some card → moved.open_request ≡ card.open_request → HasReply sent card → AreAnswered (set cards number moved) sent
answered-right cards sent number card moved all card_is same reply =
    answered-card cards sent number card moved all card_is (λ chain chain_is. reply-moved sent card moved same reply)

-- a card that is as it was, but for what it refused
answered-stays : (cards : List CardState) (sent : List Exchange) (number : ℕ) (card moved : CardState) → AreAnswered cards sent
    → slice_get cards number ≡ Some card → moved.open_request ≡ card.open_request → moved.chain ≡ card.chain
    → AreAnswered (set cards number moved) sent
answered-stays cards sent number card moved all card_is same chain_same =
    answered-card cards sent number card moved all card_is
    (λ chain chain_is. reply-moved sent card moved same (all.each number card chain card_is (sym chain_same ∙ chain_is)))

answered-host : (world after : WorldState) → IsOfHost world after → AreAnswered world.cards world.sent → AreAnswered after.cards after.sent
answered-host world after of all =
    subst (λ (cards : List CardState). AreAnswered cards after.sent) (sym of.cards_are)
    (subst (AreAnswered world.cards) (sym of.sent_are) all)

module _ (world : WorldState) (sound : IsSound world) (said : AreSaid world) (all : AreAnswered world.cards world.sent) where
  -- an answer that the card accepts is that of a reply that was sent to its open request
  answered-told : (number : ℕ) (value arc : List ℕ) (card : CardState) (right : Bool) (moved : CardState) → slice_get world.cards number ≡ Some card
      → CardStep card (IsAuthenticate value arc right) moved → (right ≡ true → IsAnswered world card value arc)
      → AreAnswered (set world.cards number moved) world.sent
  answered-told number value arc card true moved card_is step genuine =
      let it = right-moves card value arc moved step in
      let told = genuine refl in
      answered-right world.cards world.sent number card moved all card_is
      (ap (λ (c : CardState). c.open_request) it.moved_is ∙ answer-open card it.request)
      (told.exchange, told.sent, told.opened)
  answered-told number value arc card false moved card_is step genuine =
      let same = wrong-stays card value arc moved step in
      answered-stays world.cards world.sent number card moved all card_is (ap (λ (c : CardState). c.open_request) same)
      (ap (λ (c : CardState). c.chain) same)

  -- a card that runs a command had accepted one
  answered-run : (number : ℕ) (bytes : List ℕ) (card : CardState) (right : Bool) (moved : CardState) → slice_get world.cards number ≡ Some card
      → CardStep card (IsRun bytes right) moved → AreAnswered (set world.cards number moved) world.sent
  answered-run number bytes card true moved card_is step =
      let it = ran-moves card bytes moved step in
      answered-right world.cards world.sent number card moved all card_is
      (ap (λ (c : CardState). c.open_request) it.moved_is ∙ command-open card it.command it.next)
      (all.each number card it.chain card_is it.answered)
  answered-run number bytes card false moved card_is step =
      elim (refused-moves card bytes moved step) [
        | inl same ↦ answered-stays world.cards world.sent number card moved all card_is (ap (λ (c : CardState). c.open_request) same)
            (ap (λ (c : CardState). c.chain) same)
        | inr failed ↦ answered-stays world.cards world.sent number card moved all card_is
            (ap (λ (c : CardState). c.open_request) failed ∙ failure-open card)
            (ap (λ (c : CardState). c.chain) failed ∙ failure-chain card)
      ]

  -- every genuine step keeps it
  pub answered-step : (event : Event) (after : WorldState) → IsGenuineStep world event after → AreAnswered after.cards after.sent
  answered-step (Tap number terminal) after genuine =
      let step = genuine.step in
      let it = tap-moves step.card terminal step.request step.moved step.step in
      subst (λ (w : WorldState). AreAnswered w.cards w.sent) (sym step.after_is)
      (answered-card world.cards world.sent number step.card step.moved all step.card_is
      (λ chain chain_is. absurd (none-some chain
      (sym (open-chain step.card step.request) ∙ sym (ap (λ (c : CardState). c.chain) it.moved_is) ∙ chain_is))))
  answered-step (Claim caller bytes) after genuine = answered-host world after (of-claim world sound said caller bytes.items after genuine.step) all
  answered-step (Release caller) after genuine = answered-host world after (of-release world sound said caller after genuine.step) all
  answered-step (Write caller stored) after genuine = answered-host world after (of-write world sound said caller stored after genuine.step) all
  answered-step (Send shard place) after genuine =
      let step = genuine.step in
      let new : Exchange = record { request = step.can.request; reply = step.can.reply } in
      subst (λ (w : WorldState). AreAnswered w.cards w.sent) (sym step.after_is) (record {
        each = λ number card chain card_is chain_is.
            let it = all.each number card chain card_is chain_is in
            (it.0, Contains-append_left world.sent (new ∷ []) it.0 it.1, it.2);
      })
  answered-step (Authenticate number value arc) after genuine =
      let step = genuine.step in
      subst (λ (w : WorldState). AreAnswered w.cards w.sent) (sym step.after_is)
      (answered-told number value.items arc step.card step.right step.moved step.card_is step.step genuine.accepts)
  answered-step (Run number bytes) after genuine =
      let step = genuine.step in
      subst (λ (w : WorldState). AreAnswered w.cards w.sent) (sym step.after_is)
      (answered-run number bytes.items step.card step.right step.moved step.card_is step.step)
  answered-step (Queue number command) after genuine = answered-host world after (of-queue world sound said number command after genuine.step) all
  answered-step (Status number status) after genuine = answered-host world after (of-status world sound said number status after genuine.step) all
  answered-step (Restart kept) after genuine = answered-host world after (of-restart world sound said kept after genuine.step) all
