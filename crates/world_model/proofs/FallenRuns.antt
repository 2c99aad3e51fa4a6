-- A world that fell back is the end of a run of its own: that of the world, without the records that are lost.
use Rattle.std.proofs.Common.{◌≡◌, ℕ, zero, suc, ◌%◌, ◌<◌, Bool, true, false, List, [], ◌∷◌, ◌++◌, length, get_or, take, replicate, Some, None}
use Rattle.std.proofs.Common.{Contains, refl, ap, sym, ◌∙◌, subst, inl, inr, arith}
use Rattle.std.proofs.Common.{IsTrue, ◌↔◌}
use Rattle.std.proofs.lemmas.Bool.{cases_lt, cases_Bool}
use Rattle.std.proofs.lemmas.List.{take_all, take-take, length-replicate, get_or_past}
use Rattle.std.proofs.lemmas.List.Elements.{Contains-push}
use Rattle.std.proofs.lemmas.Option.{none-some, same_Some, slice_get_within, slice_get-get_or}
use Rattle.std.specs.List.{slice_get, All}
use Rattle.issuer_base.specs.declared.request.Request.{Request}
use Rattle.issuer_base.specs.declared.answer.Reply.{Reply}
use Rattle.issuer_base.specs.declared.entry.Entry.{Entry}
use Rattle.issuer_base.specs.declared.entry.Entry.TheVariants.{Decided, Queued as IsQueued, Status as IsStatus}
use Rattle.card_history.specs.LegalRecords.{IsLegal, IsLegalDecision, IsLegalCommand, IsLegalStatus}
use Rattle.issuer_base.specs.CardNames.{CardName, named}
use Rattle.card_history.specs.Records.{card_of}
use Rattle.card_history.specs.ScriptOrder.{IsSentAt}
use Rattle.card_history.specs.Scripts.{scripts_of, first_of, batch_of}
use Rattle.issuer_setup.specs.declared.card.CardInfo.{CardInfo}
use Rattle.issuer_setup.specs.IssuerSetup.{Setup}
use Rattle.issuer_setup.proofs.CardListLemmas.{number_of-found}
use Rattle.card_model.specs.Application.{CardState}
use Rattle.card_model.specs.CardSteps.{new_card, CardStep, Run as IsCommand}
use Rattle.shard_book.specs.Grounds.{grounds_of}
use Rattle.shard_book.proofs.LegalDecisions.{legal-checked}
use Rattle.world_net.specs.declared.event.Event.{Event}
use Rattle.world_net.specs.declared.event.Event.TheVariants.{Tap, Claim, Release, Write, Send, Authenticate, Run, Queue, Status, Restart}
use Rattle.world_net.specs.declared.parts.OpenClaim.{OpenClaim}
use Rattle.world_net.specs.declared.parts.Exchange.{Exchange}
use Rattle.world_net.specs.declared.parts.MadeRequest.{MadeRequest}
use Rattle.world_net.specs.WorldState.{WorldState, ShardState, no_shard, home_of, history_for}
use Rattle.world_net.specs.WorldSteps.{IsStep, Claims, Writes}
use Rattle.world_net.specs.WorldRuns.{IsNewWorld, IsNewCard, IsRunFrom, IsGenuineFrom}
use Rattle.world_net.specs.WorldRuns.{DecidesMade, IsAcceptedRight, IsAnswered, IsOfBatch}
use Rattle.world_model.specs.Stepping.{IsReached}
use Rattle.world_net.specs.Safety.{RunsInOrder}
use Rattle.world_model.specs.FallBack.{all_truncated, fallen_back, CanFallBack, IsGenuinelyReached, KeepsLaws}
use Rattle.world_net.proofs.CardMoves.{ran-moves}
use Rattle.world_model.proofs.FallenSteps.{IsSaid, SaidIn, AreSaid, AddsRecord, ChangesDoubt, IsOfHost, IsLater, AreAnswered}
use Rattle.world_model.proofs.FallenSteps.{of-claim, of-release, of-write, of-queue, of-status, of-restart, said-step, later-from, answered-step}
use Rattle.world_net.proofs.FilledRuns.{run-append}
use Rattle.world_net.proofs.Hosts.{at, recorded, recorded-stays, none-at}
use Rattle.world_net.proofs.KeptWorlds.{kept-run_end, kept-in_order}
use Rattle.world_model.proofs.NetRows.{card-there}
use Rattle.world_model.proofs.NetWrites.{reached-sound, reached-safe}
use Rattle.world_model.proofs.Truncated.{truncated-at, truncated-count, truncated-same, truncated-lost, truncated-history, truncated-kept, take-left, take-kept}
use Rattle.world_net.proofs.Worlds.{IsSound, sound-step, sound-new, step-issuer, home-shard}

-- a run from a world to another, which is genuine if this holds
record Follows (before after : WorldState) (Genuine : Type 0) : Type 0 where
  events : List Event
  run : IsRunFrom before events after
  genuine : Genuine → IsGenuineFrom before events after

follows-none : (before after : WorldState) (Genuine : Type 0) → after ≡ before → Follows before after Genuine
follows-none before after Genuine same = record { events = []; run = same; genuine = λ _. same }

follows-one : (before after : WorldState) (Genuine : Type 0) (event : Event) (step : IsStep before event after)
    → (Genuine → DecidesMade before after) → (Genuine → IsAcceptedRight before event after step) → Follows before after Genuine
follows-one before after Genuine event step decides accepts = record {
  events = event ∷ [];
  run = (after, step, refl);
  genuine = λ genuine. (after, record { step = step; decides = decides genuine; accepts = accepts genuine }, refl);
}

-- under a premise that gives that one
follows-under : (before after : WorldState) (Genuine More : Type 0) → (More → Genuine) → Follows before after Genuine → Follows before after More
follows-under before after Genuine More weaker follows = record {
  events = follows.events;
  run = follows.run;
  genuine = λ more. follows.genuine (weaker more);
}

module _ (issuer : Setup) (cards : List CardState) (made : List MadeRequest) (sent : List Exchange) where
  -- the world with these shards and no claims
  abbrev calm : List ShardState → WorldState
  calm shards = record { issuer = issuer; cards = cards; made = made; shards = shards; claims = []; sent = sent }

  -- a run from some shards to others, genuine if each decision's request was made
  abbrev Goes : List ShardState → List ShardState → Type 0
  Goes before after = Follows (calm before) (calm after) (DecidesMade (calm before) (calm after))

  -- one decision: a claim and a write of the request's own bytes
  goes-decision : (shards : List ShardState) (shard : ℕ) (request : Request) (reply : Reply) → shard < length shards → IsSaid request
      → IsLegalDecision (grounds_of issuer) shard (at shards shard).history request reply
      → Goes shards (recorded shards shard (Decided request reply))
  goes-decision shards shard request reply within said legal =
      let before = calm shards in
      let claim : OpenClaim = record { caller = 0; request = request } in
      let claimed : WorldState = record before { claims = claim ∷ [] } in
      let after = calm (recorded shards shard (Decided request reply)) in
      let home : home_of before request ≡ shard = home-shard before request shard legal.of_a_card in
      let legal_home : IsLegalDecision (grounds_of issuer) (home_of before request) (history_for before request) request reply =
      subst (λ shard. IsLegalDecision (grounds_of issuer) shard (at shards shard).history request reply) (sym home) legal in
      let claims : Claims before 0 said.bytes claimed =
      record {
        can = record {
          request = request;
          idle = refl;
          read = said.read;
          checked = legal-checked issuer legal;
          free = record { unrecorded = legal_home.unrecorded; unclaimed = λ k claim below. absurd (omega arith) };
        };
        after_is = refl;
      } in
      let writes : Writes claimed 0 true after =
      record {
        claim = claim;
        reply = reply;
        claim_is = refl;
        legal = legal_home;
        after_is = ap (λ shard. calm (recorded shards shard (Decided request reply))) (sym home);
      } in
      record {
        events = Claim 0 (record { items = said.bytes }) ∷ Write 0 true ∷ [];
        run = (claimed, claims, (after, writes, refl));
        genuine = λ decides. (
          claimed,
          record {
            step = claims;
            decides = λ other place asked given is.
                decides other place asked given (recorded-stays shards shard (Decided request reply) within other place (Decided asked given) is);
            accepts = tt;
          },
          (
            after,
            record {
              step = writes;
              decides = λ other place asked given is.
                  let it = decides other place asked given is in
                  record { number = it.number; number_is = it.number_is; made = it.made };
              accepts = tt;
            },
            refl,
          ),
        );
      }

  -- one record of a shard
  goes-record : (shards : List ShardState) (shard : ℕ) (entry : Entry) → shard < length shards → SaidIn entry
      → IsLegal (grounds_of issuer) shard (at shards shard).history entry → Goes shards (recorded shards shard entry)
  goes-record shards shard (Decided request reply) within said legal = goes-decision shards shard request reply within said legal
  goes-record shards shard (IsQueued pan psn command) within said legal =
      let number = legal.of_a_card.number in
      let info = number_of-found (named pan psn) issuer.cards number legal.of_a_card.number_is in
      let home : number % issuer.shards ≡ shard = legal.of_a_card.home in
      follows-one (calm shards) (calm (recorded shards shard (IsQueued pan psn command))) _ (Queue number command)
      (record {
        can = record {
          card = info.0;
          card_is = info.1;
          legal = subst (λ (name : CardName). IsLegalCommand (grounds_of issuer) (number % issuer.shards)
              (at shards (number % issuer.shards)).history name command) (sym info.2)
              (subst (λ shard. IsLegalCommand (grounds_of issuer) shard (at shards shard).history (named pan psn) command) (sym home) legal);
        };
        after_is = ap (λ shard. calm (recorded shards shard (IsQueued pan psn command))) (sym home)
            ∙ ap (λ (name : CardName). calm (recorded shards (number % issuer.shards) (IsQueued name.pan name.psn command))) (sym info.2);
      })
      (λ decides. decides) (λ decides. tt)
  goes-record shards shard (IsStatus pan psn status) within said legal =
      let number = legal.of_a_card.number in
      let info = number_of-found (named pan psn) issuer.cards number legal.of_a_card.number_is in
      let home : number % issuer.shards ≡ shard = legal.of_a_card.home in
      follows-one (calm shards) (calm (recorded shards shard (IsStatus pan psn status))) _ (Status number status)
      (record {
        can = record {
          card = info.0;
          card_is = info.1;
          legal = subst (λ (name : CardName). IsLegalStatus (grounds_of issuer) (number % issuer.shards) name status) (sym info.2)
              (subst (λ shard. IsLegalStatus (grounds_of issuer) shard (named pan psn) status) (sym home) legal);
        };
        after_is = ap (λ shard. calm (recorded shards shard (IsStatus pan psn status))) (sym home)
            ∙ ap (λ (name : CardName). calm (recorded shards (number % issuer.shards) (IsStatus name.pan name.psn status))) (sym info.2);
      })
      (λ decides. decides) (λ decides. tt)

-- no reply was sent to the request of a record that is lost
abbrev Unsent : List ℕ → WorldState → Type 0
Unsent keep world =
    (exchange : Exchange) (shard place : ℕ) (reply : Reply) → Contains world.sent exchange
    → slice_get (at world.shards shard).history place ≡ Some (Decided exchange.request reply) → place < get_or keep shard 0

-- nor was it before
unsent-before : (keep : List ℕ) (before after : WorldState) → IsLater before after → Unsent keep after → Unsent keep before
unsent-before keep before after later unsent exchange shard place reply here is =
    unsent exchange shard place reply (later.sent exchange here) (later.stays shard place (Decided exchange.request reply) is)

module _ (keep : List ℕ) (world : WorldState) (sound : IsSound world) (long : length keep ≡ length world.shards) where
  -- the world that fell back, with these shards truncated
  abbrev fallen : List ShardState → WorldState
  fallen shards = record {
    issuer = world.issuer;
    cards = world.cards;
    made = world.made;
    shards = all_truncated shards keep;
    claims = [];
    sent = world.sent;
  }

  abbrev Falls : WorldState → Type 0
  Falls after = Follows (fallen world.shards) after (DecidesMade (fallen world.shards) after)

  -- one more record is lost, or recorded here too
  falls-record : (after : List ShardState) → AddsRecord world.issuer world.shards after → Falls (fallen after)
  falls-record after adds =
      let shard = adds.shard in
      let entry = adds.entry in
      subst (λ (shards : List ShardState). Falls (fallen shards)) (sym adds.after_is)
      (elim (cases_lt (length (at world.shards shard).history) (get_or keep shard 0)) [
        | inl below ↦
            let legal = subst (λ (history : List Entry). IsLegal (grounds_of world.issuer) shard history entry)
            (sym (truncated-history world.shards keep shard long below)) adds.legal in
            let count = truncated-count world.shards keep long in
            let within = adds.within in
            subst (λ (shards : List ShardState). Falls (calm world.issuer world.cards world.made world.sent shards))
            (sym (truncated-kept world.shards keep shard entry long below))
            (goes-record world.issuer world.cards world.made world.sent (all_truncated world.shards keep) shard entry (omega (arith, count, within))
            adds.said legal)
        | inr past ↦
            follows-none _ _ _ (ap (calm world.issuer world.cards world.made world.sent) (truncated-lost world.shards keep shard entry long past))
      ])

  -- what is in doubt is lost
  falls-doubt : (after : List ShardState) → ChangesDoubt world.shards after → Falls (fallen after)
  falls-doubt after changes =
      subst (λ (shards : List ShardState). Falls (fallen shards)) (sym changes.after_is)
      (follows-none _ _ _ (ap (calm world.issuer world.cards world.made world.sent)
      (truncated-same world.shards keep changes.shard (record { history = (at world.shards changes.shard).history; doubt = changes.doubt }) long refl)))

  -- a step of the host
  falls-host : (after : WorldState) → IsOfHost world after → Falls (fallen_back keep after)
  falls-host after of =
      let same : fallen_back keep after ≡ fallen after.shards =
      λ i. record {
        issuer = of.issuer_is i;
        cards = of.cards_are i;
        made = of.made_are i;
        shards = all_truncated after.shards keep;
        claims = [];
        sent = of.sent_are i;
      } in
      subst Falls (sym same)
      (elim of.change [
        | inl stays ↦ follows-none _ _ _ (ap fallen stays)
        | inr changed ↦ elim changed [
          | inl adds ↦ falls-record after.shards adds
          | inr changes ↦ falls-doubt after.shards changes
        ]
      ])

  -- each request that a record decides which is left was made
  fallen-decides : (after : WorldState) → length keep ≡ length after.shards → DecidesMade world after
      → DecidesMade (fallen_back keep world) (fallen_back keep after)
  fallen-decides after long_after decides shard place request reply is =
      let left = take-left (get_or keep shard 0) (at after.shards shard).history place (Decided request reply)
      (subst (λ (state : ShardState). slice_get state.history place ≡ Some (Decided request reply)) (truncated-at after.shards keep shard long_after) is) in
      let it = decides shard place request reply left.0 in
      record { number = it.number; number_is = it.number_is; made = it.made }

  -- a record whose reply was sent is left
  sent-left : Unsent keep world → (exchange : Exchange) (shard place : ℕ) (reply : Reply) → Contains world.sent exchange
      → slice_get (at world.shards shard).history place ≡ Some (Decided exchange.request reply)
      → slice_get (at (all_truncated world.shards keep) shard).history place ≡ Some (Decided exchange.request reply)
  sent-left unsent exchange shard place reply here is =
      subst (λ (state : ShardState). slice_get state.history place ≡ Some (Decided exchange.request reply))
      (sym (truncated-at world.shards keep shard long))
      (take-kept (get_or keep shard 0) (at world.shards shard).history place (Decided exchange.request reply) is
      (unsent exchange shard place reply here is))

  -- an answer that a card accepts is that of a reply that was sent
  fallen-answered : (card : CardState) (value arc : List ℕ) → IsAnswered world card value arc → IsAnswered (fallen_back keep world) card value arc
  fallen-answered card value arc told = record {
    exchange = told.exchange;
    sent = told.sent;
    opened = told.opened;
    value_is = told.value_is;
    code_is = told.code_is;
  }

  -- a command that a card runs is of the batch of a record that is left
  fallen-batch : Unsent keep world → AreAnswered world.cards world.sent → (number : ℕ) (bytes : List ℕ) (card moved : CardState)
      → slice_get world.cards number ≡ Some card → CardStep card (IsCommand bytes true) moved → IsOfBatch world card moved
      → IsOfBatch (fallen_back keep world) card moved
  fallen-batch unsent all number bytes card moved card_is step told =
      let it = ran-moves card bytes moved step in
      let reply = all.each number card it.chain card_is it.answered in
      let exchange = reply.0 in
      let same : told.request ≡ exchange.request = same_Some _ _ (sym told.opened ∙ reply.2) in
      let home = home_of world told.request in
      let history = (at world.shards home).history in
      let sent = told.batch_is in
      let count = get_or keep home 0 in
      let its : sent.request ≡ exchange.request = told.record_is ∙ same in
      let below : told.place < count =
      unsent exchange home told.place sent.reply reply.1
      (sent.record_is ∙ ap (λ (q : Request). Some (Decided q sent.reply)) its) in
      let read = truncated-at world.shards keep home long in
      let before : take told.place (take count history) ≡ take told.place history = take-take told.place count history (omega (arith, below)) in
      let here : IsSentAt (card_of told.request) (take count history) told.place told.first told.batch =
      record {
        request = sent.request;
        reply = sent.reply;
        record_is = take-kept count history told.place (Decided sent.request sent.reply) sent.record_is below;
        its = sent.its;
        first_is = sent.first_is ∙ ap (λ (l : List Entry). first_of sent.request (scripts_of (card_of told.request) l)) (sym before);
        commands_are = sent.commands_are ∙ ap (λ (l : List Entry). batch_of sent.request (scripts_of (card_of told.request) l)) (sym before);
      } in
      record {
        request = told.request;
        opened = told.opened;
        place = told.place;
        first = told.first;
        batch = told.batch;
        batch_is = record {
          request = sent.request;
          reply = sent.reply;
          record_is = ap (λ (s : ShardState). slice_get s.history told.place) read ∙ here.record_is;
          its = sent.its;
          first_is = here.first_is
              ∙ ap (λ (s : ShardState). first_of sent.request (scripts_of (card_of told.request) (take told.place s.history))) (sym read);
          commands_are = here.commands_are
              ∙ ap (λ (s : ShardState). batch_of sent.request (scripts_of (card_of told.request) (take told.place s.history))) (sym read);
        };
        record_is = told.record_is;
        command = told.command;
        command_is = told.command_is;
        ran = told.ran;
      }

module _ (keep : List ℕ) (world : WorldState) (event : Event) (after : WorldState) (step : IsStep world event after) where
  -- what a genuine step gives
  record IsGenuineHere : Type 0 where
    decides : DecidesMade world after
    accepts : IsAcceptedRight world event after step
    answered : AreAnswered world.cards world.sent

-- each step is followed by a run between the worlds that fell back
follows-step : (keep : List ℕ) (world : WorldState) (event : Event) (after : WorldState) → IsSound world → AreSaid world
    → length keep ≡ length world.shards → length keep ≡ length after.shards → Unsent keep world → Unsent keep after → (step : IsStep world event after)
    → Follows (fallen_back keep world) (fallen_back keep after) (IsGenuineHere keep world event after step)
follows-step keep world (Tap number terminal) after sound said long long_after unsent unsent_after step =
    follows-one (fallen_back keep world) (fallen_back keep after) _ (Tap number terminal)
    (record {
      card = step.card;
      moved = step.moved;
      request = step.request;
      card_is = step.card_is;
      decimal = step.decimal;
      step = step.step;
      after_is = ap (fallen_back keep) step.after_is;
    })
    (λ it. fallen-decides keep world sound long after long_after it.decides) (λ it. tt)
follows-step keep world (Claim caller bytes) after sound said long long_after unsent unsent_after step =
    follows-under _ _ _ _ (λ it. fallen-decides keep world sound long after long_after it.decides)
    (falls-host keep world sound long after (of-claim world sound said caller bytes.items after step))
follows-step keep world (Release caller) after sound said long long_after unsent unsent_after step =
    follows-under _ _ _ _ (λ it. fallen-decides keep world sound long after long_after it.decides)
    (falls-host keep world sound long after (of-release world sound said caller after step))
follows-step keep world (Write caller stored) after sound said long long_after unsent unsent_after step =
    follows-under _ _ _ _ (λ it. fallen-decides keep world sound long after long_after it.decides)
    (falls-host keep world sound long after (of-write world sound said caller stored after step))
follows-step keep world (Send shard place) after sound said long long_after unsent unsent_after step =
    let exchange : Exchange = record { request = step.can.request; reply = step.can.reply } in
    let here : Contains after.sent exchange =
    subst (λ (w : WorldState). Contains w.sent exchange) (sym step.after_is) (Contains-push world.sent exchange) in
    let there : slice_get (at after.shards shard).history place ≡ Some (Decided step.can.request step.can.reply) =
    ap (λ (w : WorldState). slice_get (at w.shards shard).history place) step.after_is ∙ step.can.record_is in
    let below : place < get_or keep shard 0 = unsent_after exchange shard place step.can.reply here there in
    let left : slice_get (at (all_truncated world.shards keep) shard).history place ≡ Some (Decided step.can.request step.can.reply) =
    ap (λ (s : ShardState). slice_get s.history place) (truncated-at world.shards keep shard long)
    ∙ take-kept (get_or keep shard 0) (at world.shards shard).history place (Decided step.can.request step.can.reply) step.can.record_is below in
    follows-one (fallen_back keep world) (fallen_back keep after) _ (Send shard place)
    (record {
      can = record { request = step.can.request; reply = step.can.reply; record_is = left };
      after_is = ap (fallen_back keep) step.after_is;
    })
    (λ it. fallen-decides keep world sound long after long_after it.decides) (λ it. tt)
follows-step keep world (Authenticate number value arc) after sound said long long_after unsent unsent_after step =
    follows-one (fallen_back keep world) (fallen_back keep after) _ (Authenticate number value arc)
    (record {
      card = step.card;
      moved = step.moved;
      right = step.right;
      card_is = step.card_is;
      step = step.step;
      after_is = ap (fallen_back keep) step.after_is;
    })
    (λ it. fallen-decides keep world sound long after long_after it.decides)
    (λ it right. fallen-answered keep world sound long step.card value.items arc (it.accepts right))
follows-step keep world (Run number bytes) after sound said long long_after unsent unsent_after step =
    follows-one (fallen_back keep world) (fallen_back keep after) _ (Run number bytes)
    (record {
      card = step.card;
      moved = step.moved;
      right = step.right;
      card_is = step.card_is;
      step = step.step;
      after_is = ap (fallen_back keep) step.after_is;
    })
    (λ it. fallen-decides keep world sound long after long_after it.decides)
    (λ it right. fallen-batch keep world sound long unsent it.answered number bytes.items step.card step.moved step.card_is
    (subst (λ (b : Bool). CardStep step.card (IsCommand bytes.items b) step.moved) right step.step) (it.accepts right))
follows-step keep world (Queue number command) after sound said long long_after unsent unsent_after step =
    follows-under _ _ _ _ (λ it. fallen-decides keep world sound long after long_after it.decides)
    (falls-host keep world sound long after (of-queue world sound said number command after step))
follows-step keep world (Status number status) after sound said long long_after unsent unsent_after step =
    follows-under _ _ _ _ (λ it. fallen-decides keep world sound long after long_after it.decides)
    (falls-host keep world sound long after (of-status world sound said number status after step))
follows-step keep world (Restart kept) after sound said long long_after unsent unsent_after step =
    follows-under _ _ _ _ (λ it. fallen-decides keep world sound long after long_after it.decides)
    (falls-host keep world sound long after (of-restart world sound said kept after step))

-- as many shards after a step
count-step : (keep : List ℕ) (world : WorldState) (event : Event) (after : WorldState) → IsSound world → length keep ≡ length world.shards
    → IsStep world event after → length keep ≡ length after.shards
count-step keep world event after sound long step =
    long ∙ sound.shards.count ∙ ap (λ (issuer : Setup). issuer.shards) (sym (step-issuer world event after step))
    ∙ sym (sound-step world event after sound step).shards.count

-- so a run is followed by one
fallen-from : (keep : List ℕ) (before : WorldState) (events : List Event) (after : WorldState) → IsSound before → AreSaid before
    → length keep ≡ length before.shards → Unsent keep after → IsRunFrom before events after
    → (more : List Event) × IsRunFrom (fallen_back keep before) more (fallen_back keep after)
fallen-from keep before [] after sound said long unsent run = ([], ap (fallen_back keep) run)
fallen-from keep before (event ∷ events) after sound said long unsent (between, step, rest) =
    let sound_between = sound-step before event between sound step in
    let said_between = said-step before sound said event between step in
    let long_between = count-step keep before event between sound long step in
    let unsent_between = unsent-before keep between after (later-from between events after sound_between said_between rest) unsent in
    let unsent_before = unsent-before keep before after (later-from before (event ∷ events) after sound said (between, step, rest)) unsent in
    let here = follows-step keep before event between sound said long long_between unsent_before unsent_between step in
    let more = fallen-from keep between events after sound_between said_between long_between unsent rest in (
      here.events ++ more.0,
      run-append (fallen_back keep before) (fallen_back keep between) (fallen_back keep after) here.events more.0 here.run more.1,
    )

genuine-append : (first middle last : WorldState) (events more : List Event) → IsGenuineFrom first events middle → IsGenuineFrom middle more last
    → IsGenuineFrom first (events ++ more) last
genuine-append first middle last [] more run rest = subst (λ (w : WorldState). IsGenuineFrom w more last) run rest
genuine-append first middle last (event ∷ events) more (between, step, run) rest =
    (between, step, genuine-append between middle last events more run rest)

-- a genuine run is a run
genuine-run : (before : WorldState) (events : List Event) (after : WorldState) → IsGenuineFrom before events after → IsRunFrom before events after
genuine-run before [] after run = run
genuine-run before (event ∷ events) after (between, genuine, rest) = (between, genuine.step, genuine-run between events after rest)

-- and is followed by a genuine one
fallen-genuine_from : (keep : List ℕ) (before : WorldState) (events : List Event) (after : WorldState) → IsSound before → AreSaid before
    → AreAnswered before.cards before.sent → length keep ≡ length before.shards → Unsent keep after → IsGenuineFrom before events after
    → (more : List Event) × IsGenuineFrom (fallen_back keep before) more (fallen_back keep after)
fallen-genuine_from keep before [] after sound said answered long unsent run = ([], ap (fallen_back keep) run)
fallen-genuine_from keep before (event ∷ events) after sound said answered long unsent (between, genuine, rest) =
    let step = genuine.step in
    let sound_between = sound-step before event between sound step in
    let said_between = said-step before sound said event between step in
    let answered_between = answered-step before sound said answered event between genuine in
    let long_between = count-step keep before event between sound long step in
    let run = genuine-run between events after rest in
    let unsent_between = unsent-before keep between after (later-from between events after sound_between said_between run) unsent in
    let unsent_before = unsent-before keep before after (later-from before (event ∷ events) after sound said (between, step, run)) unsent in
    let here = follows-step keep before event between sound said long long_between unsent_before unsent_between step in
    let more = fallen-genuine_from keep between events after sound_between said_between answered_between long_between unsent rest in (
      here.events ++ more.0,
      genuine-append (fallen_back keep before) (fallen_back keep between) (fallen_back keep after) here.events more.0
          (here.genuine (record { decides = genuine.decides; accepts = genuine.accepts; answered = answered })) more.1,
    )

-- no records stay none
truncated-none : (count : ℕ) (keep : List ℕ) → length keep ≡ count → all_truncated (replicate count no_shard) keep ≡ replicate count no_shard
truncated-none zero [] long = refl
truncated-none zero (kept ∷ keep) long = absurd (omega (arith, long))
truncated-none (suc count) [] long = absurd (omega (arith, long))
truncated-none (suc count) (kept ∷ keep) long =
    let none : take kept [] ≡ [] = take_all kept [] (omega arith) in
    (λ i. record { history = none i; doubt = None } ∷ all_truncated (replicate count no_shard) keep)
    ∙ ap (λ (rest : List ShardState). no_shard ∷ rest) (truncated-none count keep (omega (arith, long)))

module _ (issuer : Setup) (start : WorldState) (new : IsNewWorld issuer start) where
  -- a new world that falls back is a new world
  new-fallen : (keep : List ℕ) → length keep ≡ issuer.shards → IsNewWorld issuer (fallen_back keep start)
  new-fallen keep long = record {
    issuer_is = new.issuer_is;
    count = new.count;
    cards = new.cards;
    made = new.made;
    shards = ap (λ (shards : List ShardState). all_truncated shards keep) new.shards ∙ truncated-none issuer.shards keep long;
    claims = refl;
    sent = new.sent;
  }

  new-count : (keep : List ℕ) → length keep ≡ issuer.shards → length keep ≡ length start.shards
  new-count keep long = long ∙ sym (length-replicate issuer.shards no_shard) ∙ ap (λ (shards : List ShardState). length shards) (sym new.shards)

  new-said : AreSaid start
  new-said = record {
    claims = subst (λ (claims : List OpenClaim). All (λ claim. IsSaid claim.request) claims) (sym new.claims)
        (λ k claim below. absurd (omega arith));
    doubts = λ shard exchange is.
        let none : at start.shards shard ≡ no_shard =
        ap (λ (shards : List ShardState). at shards shard) new.shards ∙ none-at issuer.shards shard in
        absurd (none-some exchange (ap (λ (s : ShardState). s.doubt) (sym none) ∙ is));
  }

-- a new card accepted no answer
new-chain : (issuer : Setup) (info : CardInfo) (card : CardState) → IsNewCard issuer info card → card.chain ≡ None
unfolding new_card
new-chain issuer info card new = ap (λ (c : CardState). c.chain) new.under.card_is

new-answered : (issuer : Setup) (start : WorldState) → IsNewWorld issuer start → AreAnswered start.cards start.sent
new-answered issuer start new = record {
  each = λ number card chain card_is chain_is.
      let within = slice_get_within start.cards number card card_is in
      let count = new.count in
      let info = card-there issuer.cards number (omega (arith, within, count)) in
      let found = new.cards number info.0 info.1 in
      let same : found.0 ≡ card = same_Some _ _ (sym found.1 ∙ card_is) in
      absurd (none-some chain (sym (new-chain issuer info.0 found.0 found.2) ∙ ap (λ (c : CardState). c.chain) same ∙ chain_is));
}

-- what may be lost was sent to nobody
can-unsent : (keep : List ℕ) (world : WorldState) → CanFallBack world keep → Unsent keep world
can-unsent keep world can exchange shard place reply here is =
    elim (cases_lt shard (length keep)) [
      | inl below ↦ (can.each shard (get_or keep shard 0) (slice_get-get_or keep shard 0 below)).unsent exchange place reply here is
      | inr past ↦
          let count = can.one_each in
          let none : at world.shards shard ≡ no_shard = get_or_past world.shards shard no_shard (omega (arith, past, count)) in
          let nothing : slice_get [] place ≡ Some (Decided exchange.request reply) =
          subst (λ (state : ShardState). slice_get state.history place ≡ Some (Decided exchange.request reply)) none is in
          absurd (cc)
    ]

-- the world that fell back is the end of a run
pub fallen-reached : (keep : List ℕ) (world : WorldState) → CanFallBack world keep → IsReached world → IsReached (fallen_back keep world)
fallen-reached keep world can reached =
    let issuer = world.issuer in
    let run = reached.run in
    let sound = reached-sound world reached in
    let long : length keep ≡ issuer.shards = can.one_each ∙ sound.shards.count in
    let it = fallen-from keep run.0 reached.events world (sound-new issuer run.0 reached.issuer run.1) (new-said issuer run.0 run.1)
    (new-count issuer run.0 run.1 keep long) (can-unsent keep world can) run.2 in
    record { issuer = reached.issuer; events = it.0; run = (fallen_back keep run.0, new-fallen issuer run.0 run.1 keep long, it.1) }

genuinely-reached : (world : WorldState) → IsGenuinelyReached world → IsReached world
genuinely-reached world reached = record {
  issuer = reached.issuer;
  events = reached.events;
  run = let run = reached.run in (run.0, run.1, genuine-run run.0 reached.events world run.2);
}

-- of a genuine one if the world's was
pub fallen-genuine : (keep : List ℕ) (world : WorldState) → CanFallBack world keep → IsGenuinelyReached world
    → IsGenuinelyReached (fallen_back keep world)
fallen-genuine keep world can reached =
    let issuer = world.issuer in
    let run = reached.run in
    let sound = reached-sound world (genuinely-reached world reached) in
    let long : length keep ≡ issuer.shards = can.one_each ∙ sound.shards.count in
    let it = fallen-genuine_from keep run.0 reached.events world (sound-new issuer run.0 reached.issuer run.1) (new-said issuer run.0 run.1)
    (new-answered issuer run.0 run.1) (new-count issuer run.0 run.1 keep long) (can-unsent keep world can) run.2 in
    record { issuer = reached.issuer; events = it.0; run = (fallen_back keep run.0, new-fallen issuer run.0 run.1 keep long, it.1) }

-- its cards ran their commands in order
pub genuine-order : (world : WorldState) → IsGenuinelyReached world → RunsInOrder world
genuine-order world reached = kept-in_order world (kept-run_end world.issuer reached.events world reached.issuer reached.run)

-- what a call leaves that falls back or refuses
pub record FallsOrStays (old new : WorldState) : Type 0 where
  pub reached : IsReached new
  pub genuine : IsGenuinelyReached old → IsGenuinelyReached new

pub falls-or-stays : (keep : List ℕ) (old new : WorldState) (result : Bool) → IsReached old → (IsTrue result ↔ CanFallBack old keep)
    → (result ≡ true → new ≡ fallen_back keep old) → (result ≡ false → new ≡ old) → FallsOrStays old new
falls-or-stays keep old new result reached allowed fallen unchanged =
    elim (cases_Bool result) [
      | inl done ↦
          let can = allowed.0 done in
          record {
            reached = subst IsReached (sym (fallen done)) (fallen-reached keep old can reached);
            genuine = λ genuine. subst IsGenuinelyReached (sym (fallen done)) (fallen-genuine keep old can genuine);
          }
      | inr refused ↦ record {
        reached = subst IsReached (sym (unchanged refused)) reached;
        genuine = λ genuine. subst IsGenuinelyReached (sym (unchanged refused)) genuine;
      }
    ]

-- so the laws hold of it
pub falls-safe : (old new : WorldState) → FallsOrStays old new → KeepsLaws old new
falls-safe old new it = record {
  safe = reached-safe new it.reached;
  in_order = λ genuine. genuine-order new (it.genuine genuine);
}
