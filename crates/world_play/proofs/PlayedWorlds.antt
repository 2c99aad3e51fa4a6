-- What is kept of the worlds of a played run, and what one event keeps.
use Rattle.std.proofs.Common.{◌≡◌, ◌≢◌, ℕ, ◌%◌, ◌<◌, ◌≤◌, true, List, [], ◌∷◌, ◌++◌, length, set, Some, None, Ok, IsTrue}
use Rattle.std.proofs.Common.{Contains, All, refl, ap, sym, ◌∙◌, subst, inl, inr, ◌⊎◌, arith}
use Rattle.std.specs.Prelude.{slice_get}
use Rattle.std.proofs.lemmas.Bool.{cases_eq}
use Rattle.std.proofs.lemmas.List.{get_or-set_same, get_or-set_other}
use Rattle.std.proofs.lemmas.List.Elements.{Contains-append_left, Contains-push_cases}
use Rattle.std.specs.List.{list_all}
use Rattle.issuer_base.specs.ChipData.{is_bcd}
use Rattle.issuer_base.specs.ScriptCommand.{is_command}
use Rattle.issuer_base.specs.declared.command.Command.{Command}
use Rattle.issuer_base.specs.declared.limits.TheConstants.{MAX_BODY_BYTES}
use Rattle.issuer_base.specs.declared.request.Request.{Request}
use Rattle.issuer_base.specs.declared.answer.Reply.{Reply}
use Rattle.issuer_base.specs.declared.entry.Entry.{Entry}
use Rattle.issuer_base.specs.declared.entry.Entry.TheVariants.{Decided, Queued as IsQueued, Status as IsStatus}
use Rattle.card_history.specs.declared.decision.Asked.TheVariants.{Decide}
use Rattle.card_history.specs.LegalRecords.{IsLegalDecision}
use Rattle.card_history.specs.Records.{card_of}
use Rattle.card_history.proofs.LongerHistories.{slice_get-push_cases, slice_get-push}
use Rattle.issuer_setup.specs.CardList.{number_of}
use Rattle.issuer_setup.specs.IssuerSetup.{Setup}
use Rattle.line_checks.specs.Reading.{checked}
use Rattle.terminal_kernel.specs.Requested.{chip_data}
use Rattle.terminal_kernel.proofs.LineRequestRead.{request_of-chip_data}
use Rattle.card_model.specs.declared.card.TheConstants.{LAST_COUNTER}
use Rattle.card_model.specs.declared.terminal.Terminal.{Terminal}
use Rattle.card_model.specs.Application.{CardState, next_request}
use Rattle.card_model.specs.CardSteps.{with_open}
use Rattle.card_model.proofs.Steps.{tap-next}
use Rattle.shard_book.specs.Grounds.{grounds_of}
use Rattle.world_net.specs.declared.event.Event.{Event}
use Rattle.world_net.specs.declared.event.Event.TheVariants.{Tap, Claim, Write, Send, Queue}
use Rattle.world_net.specs.declared.parts.MadeRequest.{MadeRequest}
use Rattle.world_net.specs.declared.parts.OpenClaim.{OpenClaim}
use Rattle.world_net.specs.WorldState.{WorldState, ShardState, no_shard, shard_at, record_in, home_of, history_for, claim_of, without, with_record, with_card}
use Rattle.world_net.specs.WorldSteps.{written}
use Rattle.world_net.specs.WorldRuns.{IsIssuer, IsMade, DecidesMade, IsRunFrom, IsGenuineStep, IsGenuineFrom, IsGenuineRun}
use Rattle.world_net.specs.Allowed.{CanQueue}
use Rattle.world_net.proofs.Worlds.{IsSound, sound-run, shard-within, put-there, put-elsewhere}
use Rattle.world_net.proofs.KeptWorlds.{WorldKept, kept-run_end}
use Rattle.world_play.specs.Setting.{issuer}
use Rattle.world_play.specs.Cards.{IsIssued, IsRight}

-- a command that a card can open when it is sealed
pub record IsSendable (command : Command) : Type 0 where
  pub form : IsTrue (is_command command)
  pub room : length command.body.items ≤ MAX_BODY_BYTES

-- what is sure of a record: a decided request was made, and a queued command is one to send
abbrev pub IsFit : WorldState → Entry → Type 0
IsFit world (Decided request reply) = IsMade world request
IsFit world (IsQueued pan psn command) = IsSendable command
IsFit world (IsStatus pan psn status) = Unit {0}

-- a world that a genuine run came to, in which each request was made by a card that it is right for, each record is fit, no caller claims, and
-- each card has what it was issued with
pub record IsPlayed (cards : ℕ) (world : WorldState) : Type 0 where
  pub events : List Event
  pub run : IsGenuineRun (issuer cards) events world
  pub issuer_is : world.issuer ≡ issuer cards
  pub claims : world.claims ≡ []
  pub made : (number : ℕ) (request : Request) → Contains world.made (record { card = number; request = request }) → IsRight cards number request
  pub records : (shard place : ℕ) (entry : Entry) → record_in world shard place ≡ Some entry → IsFit world entry
  pub issued : (number : ℕ) (card : CardState) → slice_get world.cards number ≡ Some card → IsIssued number card

-- a later world has what the earlier one had, and each card but this one
pub record IsLater (number : ℕ) (before after : WorldState) : Type 0 where
  pub others : (other : ℕ) → other ≢ number → slice_get after.cards other ≡ slice_get before.cards other
  pub made : (made : MadeRequest) → Contains before.made made → Contains after.made made

pub later-same : (number : ℕ) (world : WorldState) → IsLater number world world
later-same number world = record { others = λ other apart. refl; made = λ made here. here }

pub later-then : (number : ℕ) (first middle last : WorldState) → IsLater number first middle → IsLater number middle last → IsLater number first last
later-then number first middle last one other = record {
  others = λ card apart. other.others card apart ∙ one.others card apart;
  made = λ made here. other.made made (one.made made here);
}

-- ---- runs

run-of : (before : WorldState) (events : List Event) (after : WorldState) → IsGenuineFrom before events after → IsRunFrom before events after
run-of before [] after is = is
run-of before (event ∷ events) after (between, genuine, rest) = (between, genuine.step, run-of between events after rest)

more-from : (before : WorldState) (events : List Event) (middle : WorldState) (event : Event) (after : WorldState) → IsGenuineFrom before events middle
    → IsGenuineStep middle event after → IsGenuineFrom before (events ++ event ∷ []) after
more-from before [] middle event after is step = (after, subst (λ (world : WorldState). IsGenuineStep world event after) is step, refl)
more-from before (first ∷ events) middle event after (between, genuine, rest) step = (between, genuine, more-from between events middle event after rest step)

more-run : (setup : Setup) (events : List Event) (middle : WorldState) (event : Event) (after : WorldState) → IsGenuineRun setup events middle
    → IsGenuineStep middle event after → IsGenuineRun setup (events ++ event ∷ []) after
more-run setup events middle event after (start, new, run) step = (start, new, more-from start events middle event after run step)

-- a played world is sound, and its cards are kept
pub played-sound : (cards : ℕ) (world : WorldState) → IsIssuer (issuer cards) → IsPlayed cards world → IsSound world
played-sound cards world valid played =
    let run = played.run in sound-run (issuer cards) played.events world valid (run.0, run.1, run-of run.0 played.events world run.2)

pub played-kept : (cards : ℕ) (world : WorldState) → IsIssuer (issuer cards) → IsPlayed cards world → WorldKept world
played-kept cards world valid played = kept-run_end (issuer cards) played.events world valid played.run

-- ---- a record more

-- a request that was made was made in each world that has the requests
pub made-later : (before after : WorldState) (request : Request) → after.issuer ≡ before.issuer
    → ((made : MadeRequest) → Contains before.made made → Contains after.made made) → IsMade before request → IsMade after request
made-later before after request same later it = record {
  number = it.number;
  number_is = ap (λ (setup : Setup). number_of (card_of request) setup.cards) same ∙ it.number_is;
  made = later (record { card = it.number; request = request }) it.made;
}

pub fit-later : (before after : WorldState) (entry : Entry) → after.issuer ≡ before.issuer
    → ((made : MadeRequest) → Contains before.made made → Contains after.made made) → IsFit before entry → IsFit after entry
fit-later before after (Decided request reply) same later it = made-later before after request same later it
fit-later before after (IsQueued pan psn command) same later it = it
fit-later before after (IsStatus pan psn status) same later it = it

-- the records of a shard with one more are those that were there, and that one
pub record-cases : (world : WorldState) (number : ℕ) (entry : Entry) → number < length world.shards → (shard place : ℕ) (other : Entry)
    → record_in (with_record world number entry) shard place ≡ Some other → (record_in world shard place ≡ Some other) ⊎ (entry ≡ other)
record-cases world number entry within shard place other is =
    let history = (shard_at world number).history in
    let new : ShardState = record { history = history ++ entry ∷ []; doubt = None } in
    elim (cases_eq shard number) [
      | inl same ↦
          let there : record_in (with_record world number entry) number place ≡ Some other =
          subst (λ shard. record_in (with_record world number entry) shard place ≡ Some other) same is in
          let here : slice_get (history ++ entry ∷ []) place ≡ Some other =
          ap (λ (state : ShardState). slice_get state.history place) (sym (get_or-set_same world.shards number new no_shard within)) ∙ there in
          elim (slice_get-push_cases history entry place other here) [
            | inl before ↦ inl (ap (λ shard. record_in world shard place) same ∙ before)
            | inr last ↦ inr last.1
          ]
      | inr apart ↦ inl (ap (λ (state : ShardState). slice_get state.history place)
          (sym (get_or-set_other world.shards number shard new no_shard apart)) ∙ is)
    ]

-- the record itself is there
pub record-there : (world : WorldState) (number : ℕ) (entry : Entry) → number < length world.shards
    → record_in (with_record world number entry) number (length (shard_at world number).history) ≡ Some entry
record-there world number entry within =
    let history = (shard_at world number).history in
    let new : ShardState = record { history = history ++ entry ∷ []; doubt = None } in
    ap (λ (state : ShardState). slice_get state.history (length history)) (get_or-set_same world.shards number new no_shard within)
    ∙ slice_get-push history entry

-- the cards with one that moved
pub issued-moved : (world : WorldState) (number : ℕ) (moved : CardState)
    → ((other : ℕ) (card : CardState) → slice_get world.cards other ≡ Some card → IsIssued other card) → number < length world.cards
    → IsIssued number moved → (other : ℕ) (card : CardState) → slice_get (set world.cards number moved) other ≡ Some card → IsIssued other card
issued-moved world number moved all within here other card is =
    elim (cases_eq other number) [
      | inl same ↦
          let there : slice_get (set world.cards number moved) number ≡ Some card = ap (slice_get (set world.cards number moved)) (sym same) ∙ is in
          subst (λ number. IsIssued number card) (sym same) (subst (IsIssued number) (put-there world.cards number moved card within there) here)
      | inr apart ↦ all other card (put-elsewhere world.cards number other moved card apart is)
    ]

module _ (cards : ℕ) (valid : IsIssuer (issuer cards)) (world : WorldState) (played : IsPlayed cards world) where
  -- the decided requests were made
  decided-made : DecidesMade world world
  decided-made shard place request reply is = played.records shard place (Decided request reply) is

  -- a card that moved by a genuine event, which adds no record
  pub played-moved : (number : ℕ) (moved : CardState) (event : Event) → number < length world.cards
      → IsGenuineStep world event (with_card world number moved) → IsIssued number moved → IsPlayed cards (with_card world number moved)
  played-moved number moved event within step issued = record {
    events = played.events ++ event ∷ [];
    run = more-run (issuer cards) played.events world event (with_card world number moved) played.run step;
    issuer_is = played.issuer_is;
    claims = played.claims;
    made = played.made;
    records = λ shard place entry is. fit-later world (with_card world number moved) entry refl (λ made here. here) (played.records shard place entry is);
    issued = issued-moved world number moved played.issued within issued;
  }

  -- a tap
  abbrev pub after_tapped : ℕ → CardState → Request → WorldState
  after_tapped number card request =
      record (with_card world number (with_open card request)) { made = world.made ++ record { card = number; request = request } ∷ [] }

  pub played-tapped : (number : ℕ) (card : CardState) (terminal : Terminal) → slice_get world.cards number ≡ Some card → number < length world.cards
      → IsTrue (list_all is_bcd terminal.amount) → card.atc ≢ LAST_COUNTER → IsRight cards number (next_request card terminal)
      → IsIssued number (with_open card (next_request card terminal)) → IsPlayed cards (after_tapped number card (next_request card terminal))
  played-tapped number card terminal card_is within decimal more right issued =
      let request = next_request card terminal in
      let after = after_tapped number card request in
      let one : MadeRequest = record { card = number; request = request } in
      let later : (made : MadeRequest) → Contains world.made made → Contains after.made made =
      λ made here. Contains-append_left world.made (one ∷ []) made here in
      record {
        events = played.events ++ Tap number terminal ∷ [];
        run = more-run (issuer cards) played.events world (Tap number terminal) after played.run (record {
          step = record {
            card = card;
            moved = with_open card request;
            request = request;
            card_is = card_is;
            decimal = decimal;
            step = tap-next card terminal request more refl;
            after_is = refl;
          };
          decides = decided-made;
          accepts = tt;
        });
        issuer_is = played.issuer_is;
        claims = played.claims;
        made = λ other made here.
            elim (Contains-push_cases world.made one (record { card = other; request = made }) here) [
              | inl before ↦ played.made other made before
              | inr same ↦
                  subst (λ (m : MadeRequest). IsRight cards m.card m.request) same right
            ];
        records = λ shard place entry is. fit-later world after entry refl later (played.records shard place entry is);
        issued = issued-moved world number (with_open card request) played.issued within issued;
      }

  -- the reply of a record is sent
  abbrev pub after_sent : Request → Reply → WorldState
  after_sent request reply = record world { sent = world.sent ++ record { request = request; reply = reply } ∷ [] }

  pub played-sent : (shard place : ℕ) (request : Request) (reply : Reply) → record_in world shard place ≡ Some (Decided request reply)
      → IsPlayed cards (after_sent request reply)
  played-sent shard place request reply record_is =
      let after = after_sent request reply in
      record {
        events = played.events ++ Send shard place ∷ [];
        run = more-run (issuer cards) played.events world (Send shard place) after played.run (record {
          step = record { can = record { request = request; reply = reply; record_is = record_is }; after_is = refl };
          decides = decided-made;
          accepts = tt;
        });
        issuer_is = played.issuer_is;
        claims = played.claims;
        made = played.made;
        records = λ shard place entry is. fit-later world after entry refl (λ made here. here) (played.records shard place entry is);
        issued = played.issued;
      }

  -- a command is queued
  pub played-queued : (number : ℕ) (command : Command) (can : CanQueue world number command) → IsSendable command
      → IsPlayed cards (with_record world (number % world.issuer.shards) (IsQueued can.card.pan can.card.psn command))
  played-queued number command can sendable =
      let entry = IsQueued can.card.pan can.card.psn command in
      let home = number % world.issuer.shards in
      let after = with_record world home entry in
      let within = shard-within world (played-sound cards world valid played) home entry can.legal in
      record {
        events = played.events ++ Queue number command ∷ [];
        run = more-run (issuer cards) played.events world (Queue number command) after played.run (record {
          step = record { can = can; after_is = refl };
          decides = λ shard place request reply is.
              elim (record-cases world home entry within shard place (Decided request reply) is) [
                | inl before ↦ decided-made shard place request reply before
                | inr same ↦ absurd (cc)
              ];
          accepts = tt;
        });
        issuer_is = played.issuer_is;
        claims = played.claims;
        made = played.made;
        records = λ shard place other is.
            elim (record-cases world home entry within shard place other is) [
              | inl before ↦ fit-later world after other refl (λ made here. here) (played.records shard place other before)
              | inr same ↦ subst (IsFit after) same sendable
            ];
        issued = played.issued;
      }

  -- a request is claimed, and its decision written
  abbrev pub claim_on : Request → OpenClaim
  claim_on request = record { caller = 0; request = request }

  abbrev pub after_claimed : Request → WorldState
  after_claimed request = record world { claims = world.claims ++ claim_on request ∷ [] }

  abbrev pub after_written : Request → Reply → WorldState
  after_written request reply =
      written true (after_claimed request) 0 (home_of world request) (record { request = request; reply = reply })

  pub played-written : (number : ℕ) (request : Request) (reply : Reply) → Contains world.made (record { card = number; request = request })
      → number_of (card_of request) world.issuer.cards ≡ Some number
      → IsLegalDecision (grounds_of world.issuer) (home_of world request) (history_for world request) request reply
      → IsPlayed cards (after_written request reply)
  played-written number request reply made number_is legal =
      let right = played.made number request made in
      let claim = claim_on request in
      let claimed = after_claimed request in
      let after = after_written request reply in
      let home = home_of world request in
      let entry = Decided request reply in
      let within = shard-within world (played-sound cards world valid played) home entry legal in
      let was_made : IsMade world request = record { number = number; number_is = number_is; made = made } in
      let cases : (shard place : ℕ) (other : Entry) → record_in after shard place ≡ Some other → (record_in world shard place ≡ Some other) ⊎ (entry ≡ other) =
      λ shard place other is. record-cases world home entry within shard place other is in
      let checks : checked world.issuer request ≡ Ok (Decide request) =
      ap (λ (setup : Setup). checked setup request) played.issuer_is ∙ right.checks in
      record {
        events = (played.events ++ Claim 0 (record { items = chip_data request }) ∷ []) ++ Write 0 true ∷ [];
        run = more-run (issuer cards) (played.events ++ Claim 0 (record { items = chip_data request }) ∷ []) claimed (Write 0 true) after
            (more-run (issuer cards) played.events world (Claim 0 (record { items = chip_data request })) claimed played.run (record {
              step = record {
                can = record {
                  request = request;
                  idle = ap (λ (claims : List OpenClaim). claim_of 0 claims) played.claims;
                  read = request_of-chip_data request right.held;
                  checked = checks;
                  free = record {
                    unrecorded = legal.unrecorded;
                    unclaimed = subst (λ (claims : List OpenClaim). All (λ claim. card_of claim.request ≡ card_of request
                        → claim.request.atc ≢ request.atc) claims)
                        (sym played.claims) (λ place claim below. absurd (omega arith));
                  };
                };
                after_is = refl;
              };
              decides = decided-made;
              accepts = tt;
            }))
            (record {
              step = record {
                claim = claim;
                reply = reply;
                claim_is = ap (λ (claims : List OpenClaim). claim_of 0 (claims ++ claim ∷ [])) played.claims;
                legal = legal;
                after_is = refl;
              };
              decides = λ shard place other told is.
                  elim (cases shard place (Decided other told) is) [
                    | inl before ↦ made-later world claimed other refl (λ made here. here) (decided-made shard place other told before)
                    | inr same ↦ fit-later world claimed (Decided other told) refl (λ made here. here) (subst (IsFit world) same was_made)
                  ];
              accepts = tt;
            });
        issuer_is = played.issuer_is;
        claims = ap (λ (claims : List OpenClaim). without 0 (claims ++ claim ∷ [])) played.claims;
        made = played.made;
        records = λ shard place other is.
            elim (cases shard place other is) [
              | inl before ↦ fit-later world after other refl (λ made here. here) (played.records shard place other before)
              | inr same ↦ fit-later world after other refl (λ made here. here) (subst (IsFit world) same was_made)
            ];
        issued = played.issued;
      }
