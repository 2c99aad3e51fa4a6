-- The invariant of every run for a world.
use Rattle.std.proofs.Common.{◌≡◌, ◌≢◌, ℕ, ◌%◌, ◌<◌, Bool, true, false, not, ◌==◌, List, [], ◌∷◌, ◌++◌, length, set, Option, Some, None, Ok}
use Rattle.std.proofs.Common.{Contains, refl, ap, sym, ◌∙◌, subst, inl, inr, arith, length-set}
use Rattle.std.proofs.lemmas.Bool.{cases_eq}
use Rattle.std.proofs.lemmas.List.{get_or-set_same, get_or-set_other}
use Rattle.std.proofs.lemmas.List.Elements.{All-filter, All-push, Contains-push_cases}
use Rattle.std.proofs.lemmas.Option.{none-some, same_Some, slice_get_within, slice_get-get_or, get_or_from_slice_get}
use Rattle.std.specs.List.{slice_get, All}
use Rattle.issuer_base.specs.declared.request.Request.{Request}
use Rattle.issuer_base.specs.declared.answer.Reply.{Reply}
use Rattle.issuer_base.specs.declared.entry.Entry.{Entry}
use Rattle.issuer_base.specs.declared.entry.Entry.TheVariants.{Decided, Queued as IsQueued, Status as IsStatus}
use Rattle.card_history.specs.declared.decision.Asked.TheVariants.{Decide}
use Rattle.card_history.specs.LegalRecords.{IsLegal, IsLegalDecision}
use Rattle.issuer_base.specs.CardNames.{named}
use Rattle.card_history.specs.Records.{card_of}
use Rattle.issuer_setup.specs.declared.card.CardInfo.{CardInfo}
use Rattle.issuer_setup.specs.CardList.{name_of, number_of}
use Rattle.issuer_setup.specs.IssuerSetup.{Setup}
use Rattle.issuer_setup.proofs.Shards.{shard_of-known}
use Rattle.line_checks.specs.Reading.{checked}
use Rattle.card_model.specs.Application.{CardState}
use Rattle.card_model.specs.CardSteps.{new_card}
use Rattle.shard_book.specs.Grounds.{IsCardOfShard, grounds_of}
use Rattle.world_net.specs.declared.event.Event.{Event}
use Rattle.world_net.specs.declared.event.Event.TheVariants.{Tap, Claim, Release, Write, Send, Authenticate, Run, Queue, Status, Restart}
use Rattle.world_net.specs.declared.parts.OpenClaim.{OpenClaim}
use Rattle.world_net.specs.declared.parts.Exchange.{Exchange}
use Rattle.world_net.specs.WorldState.{WorldState, home_of, without, with_record, with_doubt, with_card}
use Rattle.world_net.specs.WorldSteps.{IsStep, written, settled_at, settled_in, restarted, first_doubtful}
use Rattle.world_net.specs.WorldRuns.{IsIssuer, IsNewCard, IsNewWorld, IsRunFrom, IsRun}
use Rattle.world_net.specs.Safety.{IsSafe}
use Rattle.world_net.proofs.CardMoves.{IsSameCard, tap-same, answer-same, run-same}
use Rattle.world_net.proofs.Hosts.{at, recorded, doubted, AreLawful, AreRecorded, home-within, legal-home, lawful-record, lawful-doubt}
use Rattle.world_net.proofs.Hosts.{recorded-stays, doubted-stays, recorded-later, none-lawful, lawful-once, one-place}

-- the shard of a request whose card has this number
pub home-card : (world : WorldState) (request : Request) (number : ℕ) → number_of (card_of request) world.issuer.cards ≡ Some number
    → home_of world request ≡ number % world.issuer.shards
home-card world request number known = shard_of-known world.issuer (card_of request) number known

-- and of one whose card is of a shard
pub home-shard : (world : WorldState) (request : Request) (shard : ℕ) → IsCardOfShard world.issuer shard (card_of request) → home_of world request ≡ shard
home-shard world request shard home = home-card world request home.number home.number_is ∙ home.home

-- each card is the issuer's card of its number
pub record AreCardsOf (issuer : Setup) (cards : List CardState) : Type 0 where
  pub count : length cards ≡ length issuer.cards
  pub named : (number : ℕ) (info : CardInfo) (card : CardState) → slice_get issuer.cards number ≡ Some info → slice_get cards number ≡ Some card
      → named card.pan card.psn ≡ name_of info

-- each claim is on a request that the issuer decides
abbrev pub AreChecked : Setup → List OpenClaim → Type 0
AreChecked issuer claims = All (λ claim. checked issuer claim.request ≡ Ok (Decide claim.request)) claims

-- what is sure of a world
pub record IsSound (world : WorldState) : Type 0 where
  pub issuer : IsIssuer world.issuer
  pub cards : AreCardsOf world.issuer world.cards
  pub shards : AreLawful world.issuer world.shards
  pub sent : AreRecorded world.shards world.sent
  pub claims : AreChecked world.issuer world.claims

-- what was put at a place of a list is read there
pub put-there : {X : Type 0} (xs : List X) (place : ℕ) (new x : X) → place < length xs → slice_get (set xs place new) place ≡ Some x → new ≡ x
put-there xs place new x within is =
    sym (get_or-set_same xs place new new within) ∙ get_or_from_slice_get (set xs place new) place x new is

-- and each other place is as it was
pub put-elsewhere : {X : Type 0} (xs : List X) (place other : ℕ) (new x : X) → other ≢ place → slice_get (set xs place new) other ≡ Some x
    → slice_get xs other ≡ Some x
put-elsewhere xs place other new x apart is =
    let within = slice_get_within (set xs place new) other x is in
    let long = length-set xs place new in
    slice_get-get_or xs other x (omega arith)
    ∙ ap Some (sym (get_or-set_other xs place other new x apart) ∙ get_or_from_slice_get (set xs place new) other x x is)

-- a card that moved is still the issuer's card of its number
pub cards-moved : (issuer : Setup) (cards : List CardState) (number : ℕ) (card moved : CardState) → AreCardsOf issuer cards
    → slice_get cards number ≡ Some card → IsSameCard card moved → AreCardsOf issuer (set cards number moved)
cards-moved issuer cards number card moved all card_is same = record {
  count = length-set cards number moved ∙ all.count;
  named = λ other info found info_is found_is.
      elim (cases_eq other number) [
        | inl here ↦
            let info_here : slice_get issuer.cards number ≡ Some info = ap (slice_get issuer.cards) (sym here) ∙ info_is in
            let found_here : slice_get (set cards number moved) number ≡ Some found = ap (slice_get (set cards number moved)) (sym here) ∙ found_is in
            let its : moved ≡ found = put-there cards number moved found (slice_get_within cards number card card_is) found_here in
            let name_is : named moved.pan moved.psn ≡ named card.pan card.psn = λ i. named (same.pan_is i) (same.psn_is i) in
            subst (λ (c : CardState). named c.pan c.psn ≡ name_of info) its (name_is ∙ all.named number info card info_here card_is)
        | inr apart ↦ all.named other info found info_is (put-elsewhere cards number other moved found apart found_is)
      ];
}

-- one more claim of a request that the issuer decides
claims-more : (issuer : Setup) (claims : List OpenClaim) (claim : OpenClaim) → AreChecked issuer claims
    → checked issuer claim.request ≡ Ok (Decide claim.request) → AreChecked issuer (claims ++ claim ∷ [])
claims-more issuer claims claim all passes = All-push (λ claim. checked issuer claim.request ≡ Ok (Decide claim.request)) claims claim all passes

module _ (world : WorldState) (sound : IsSound world) where
  -- a shard of which a record is a valid successor is one of the shards
  pub shard-within : (shard : ℕ) (entry : Entry) → IsLegal (grounds_of world.issuer) shard (at world.shards shard).history entry
      → shard < length world.shards
  shard-within shard entry legal =
      let below = home-within world.issuer shard _ sound.issuer (legal-home world.issuer shard (at world.shards shard).history entry legal) in
      let count = sound.shards.count in
      omega arith

  -- one more record
  pub sound-record : (shard : ℕ) (entry : Entry) → IsLegal (grounds_of world.issuer) shard (at world.shards shard).history entry
      → IsSound (with_record world shard entry)
  sound-record shard entry legal = record {
    issuer = sound.issuer;
    cards = sound.cards;
    shards = lawful-record world.issuer world.shards shard entry sound.issuer sound.shards legal;
    sent = recorded-later world.shards (recorded world.shards shard entry) world.sent
        (recorded-stays world.shards shard entry (shard-within shard entry legal)) sound.sent;
    claims = sound.claims;
  }

  -- another decision in doubt, or none
  pub sound-doubt : (shard : ℕ) (doubt : Option Exchange) → shard < length world.shards
      → ((exchange : Exchange) → doubt ≡ Some exchange
      → IsLegalDecision (grounds_of world.issuer) shard (at world.shards shard).history exchange.request exchange.reply)
      → IsSound (with_doubt world shard doubt)
  sound-doubt shard doubt within legal = record {
    issuer = sound.issuer;
    cards = sound.cards;
    shards = lawful-doubt world.issuer world.shards shard doubt within sound.shards legal;
    sent = recorded-later world.shards (doubted world.shards shard doubt) world.sent (doubted-stays world.shards shard doubt within) sound.sent;
    claims = sound.claims;
  }

  -- fewer claims
  pub sound-claims : (claims : List OpenClaim) → AreChecked world.issuer claims → IsSound (record world { claims = claims })
  sound-claims claims all = record { issuer = sound.issuer; cards = sound.cards; shards = sound.shards; sent = sound.sent; claims = all }

  -- one more reply that was sent
  pub sound-sent : (exchange : Exchange) (shard place : ℕ)
      → slice_get (at world.shards shard).history place ≡ Some (Decided exchange.request exchange.reply)
      → IsSound (record world { sent = world.sent ++ exchange ∷ [] })
  sound-sent exchange shard place is = record {
    issuer = sound.issuer;
    cards = sound.cards;
    shards = sound.shards;
    sent = record {
      each = λ other here.
          elim (Contains-push_cases world.sent exchange other here) [
            | inl before ↦ sound.sent.each other before
            | inr last ↦ (shard, place, is ∙ ap (λ (e : Exchange). Some (Decided e.request e.reply)) last)
          ];
    };
    claims = sound.claims;
  }

  -- a card that moved
  pub sound-card : (number : ℕ) (card moved : CardState) → slice_get world.cards number ≡ Some card → IsSameCard card moved
      → IsSound (with_card world number moved)
  sound-card number card moved card_is same = record {
    issuer = sound.issuer;
    cards = cards-moved world.issuer world.cards number card moved sound.cards card_is same;
    shards = sound.shards;
    sent = sound.sent;
    claims = sound.claims;
  }

-- only fewer claims
without-checked : (issuer : Setup) (caller : ℕ) (claims : List OpenClaim) → AreChecked issuer claims → AreChecked issuer (without caller claims)
without-checked issuer caller claims all =
    All-filter (λ claim. not (claim.caller == caller)) (λ claim. checked issuer claim.request ≡ Ok (Decide claim.request)) claims all

none-checked : (issuer : Setup) → AreChecked issuer []
none-checked issuer k claim below = absurd (omega arith)

-- a write
sound-written : (world : WorldState) → IsSound world → (stored : Bool) (caller shard : ℕ) (exchange : Exchange)
    → IsLegalDecision (grounds_of world.issuer) shard (at world.shards shard).history exchange.request exchange.reply
    → IsSound (written stored world caller shard exchange)
sound-written world sound true caller shard exchange legal =
    let entry = Decided exchange.request exchange.reply in
    sound-claims (with_record world shard entry) (sound-record world sound shard entry legal) (without caller world.claims)
    (without-checked world.issuer caller world.claims sound.claims)
sound-written world sound false caller shard exchange legal =
    sound-doubt world sound shard (Some exchange) (shard-within world sound shard (Decided exchange.request exchange.reply) legal)
    (λ other is. subst (λ (e : Exchange). IsLegalDecision (grounds_of world.issuer) shard (at world.shards shard).history e.request e.reply)
    (same_Some _ _ is) legal)

-- what a restart makes of a decision in doubt
sound-settled_at : (world : WorldState) → IsSound world → (kept : Bool) (shard : ℕ) (doubt : Option Exchange) → (at world.shards shard).doubt ≡ doubt
    → IsSound (settled_at kept world shard doubt)
sound-settled_at world sound kept shard None is = sound
sound-settled_at world sound true shard (Some exchange) is =
    sound-record world sound shard (Decided exchange.request exchange.reply) (sound.shards.doubtful shard exchange is)
sound-settled_at world sound false shard (Some exchange) is =
    sound-doubt world sound shard None
    (shard-within world sound shard (Decided exchange.request exchange.reply) (sound.shards.doubtful shard exchange is))
    (λ other none. absurd (none-some other none))

sound-settled_in : (world : WorldState) → IsSound world → (kept : Bool) (shard : Option ℕ) → IsSound (settled_in kept world shard)
sound-settled_in world sound kept None = sound
sound-settled_in world sound kept (Some shard) = sound-settled_at world sound kept shard (at world.shards shard).doubt refl

-- a restart
sound-restarted : (world : WorldState) → IsSound world → (kept : Bool) → IsSound (restarted kept world)
sound-restarted world sound kept =
    let settled = settled_in kept world (first_doubtful world.shards) in
    sound-claims settled (sound-settled_in world sound kept (first_doubtful world.shards)) [] (none-checked settled.issuer)

-- every step keeps it
pub sound-step : (world : WorldState) (event : Event) (after : WorldState) → IsSound world → IsStep world event after → IsSound after
sound-step world (Tap number terminal) after sound step =
    subst IsSound (sym step.after_is)
    (let moved = sound-card world sound number step.card step.moved step.card_is (tap-same step.card terminal step.request step.moved step.step) in
    record { issuer = moved.issuer; cards = moved.cards; shards = moved.shards; sent = moved.sent; claims = moved.claims })
sound-step world (Claim caller bytes) after sound step =
    subst IsSound (sym step.after_is)
    (sound-claims world sound (world.claims ++ record { caller = caller; request = step.can.request } ∷ [])
    (claims-more world.issuer world.claims (record { caller = caller; request = step.can.request }) sound.claims step.can.checked))
sound-step world (Release caller) after sound step =
    subst IsSound (sym step.after_is)
    (sound-claims world sound (without caller world.claims) (without-checked world.issuer caller world.claims sound.claims))
sound-step world (Write caller stored) after sound step =
    subst IsSound (sym step.after_is)
    (sound-written world sound stored caller (home_of world step.claim.request) (record { request = step.claim.request; reply = step.reply }) step.legal)
sound-step world (Send shard place) after sound step =
    subst IsSound (sym step.after_is)
    (sound-sent world sound (record { request = step.can.request; reply = step.can.reply }) shard place step.can.record_is)
sound-step world (Authenticate number value arc) after sound step =
    subst IsSound (sym step.after_is)
    (sound-card world sound number step.card step.moved step.card_is (answer-same step.card value.items arc step.right step.moved step.step))
sound-step world (Run number bytes) after sound step =
    subst IsSound (sym step.after_is)
    (sound-card world sound number step.card step.moved step.card_is (run-same step.card bytes.items step.right step.moved step.step))
sound-step world (Queue number command) after sound step =
    subst IsSound (sym step.after_is)
    (sound-record world sound (number % world.issuer.shards) (IsQueued step.can.card.pan step.can.card.psn command) step.can.legal)
sound-step world (Status number status) after sound step =
    subst IsSound (sym step.after_is)
    (sound-record world sound (number % world.issuer.shards) (IsStatus step.can.card.pan step.can.card.psn status) step.can.legal)
sound-step world (Restart kept) after sound step = subst IsSound (sym step) (sound-restarted world sound kept)

-- no step changes the issuer
issuer-settled : (world : WorldState) (kept : Bool) (shard : ℕ) (doubt : Option Exchange) → (settled_at kept world shard doubt).issuer ≡ world.issuer
issuer-settled world kept shard None = refl
issuer-settled world true shard (Some exchange) = refl
issuer-settled world false shard (Some exchange) = refl

issuer-settled_in : (world : WorldState) (kept : Bool) (shard : Option ℕ) → (settled_in kept world shard).issuer ≡ world.issuer
issuer-settled_in world kept None = refl
issuer-settled_in world kept (Some shard) = issuer-settled world kept shard (at world.shards shard).doubt

issuer-written : (stored : Bool) (world : WorldState) (caller shard : ℕ) (exchange : Exchange)
    → (written stored world caller shard exchange).issuer ≡ world.issuer
issuer-written true world caller shard exchange = refl
issuer-written false world caller shard exchange = refl

pub step-issuer : (world : WorldState) (event : Event) (after : WorldState) → IsStep world event after → after.issuer ≡ world.issuer
step-issuer world (Tap number terminal) after step = ap (λ (w : WorldState). w.issuer) step.after_is
step-issuer world (Claim caller bytes) after step = ap (λ (w : WorldState). w.issuer) step.after_is
step-issuer world (Release caller) after step = ap (λ (w : WorldState). w.issuer) step.after_is
step-issuer world (Write caller stored) after step = ap (λ (w : WorldState). w.issuer) step.after_is ∙ issuer-written stored world caller _ _
step-issuer world (Send shard place) after step = ap (λ (w : WorldState). w.issuer) step.after_is
step-issuer world (Authenticate number value arc) after step = ap (λ (w : WorldState). w.issuer) step.after_is
step-issuer world (Run number bytes) after step = ap (λ (w : WorldState). w.issuer) step.after_is
step-issuer world (Queue number command) after step = ap (λ (w : WorldState). w.issuer) step.after_is
step-issuer world (Status number status) after step = ap (λ (w : WorldState). w.issuer) step.after_is
step-issuer world (Restart kept) after step = ap (λ (w : WorldState). w.issuer) step ∙ issuer-settled_in world kept (first_doubtful world.shards)

-- a new card has the name of the issuer's card
new-named : (issuer : Setup) (info : CardInfo) (card : CardState) → IsNewCard issuer info card → named card.pan card.psn ≡ name_of info
unfolding new_card
new-named issuer info card new = ap (λ (c : CardState). named c.pan c.psn) new.under.card_is

-- it is so at first
pub sound-new : (issuer : Setup) (world : WorldState) → IsIssuer issuer → IsNewWorld issuer world → IsSound world
sound-new issuer world valid new =
    let of = new.issuer_is in
    record {
      issuer = subst IsIssuer (sym of) valid;
      cards = subst (λ (issuer : Setup). AreCardsOf issuer world.cards) (sym of) (record {
        count = new.count;
        named = λ number info card info_is card_is.
            let found = new.cards number info info_is in
            let same : found.0 ≡ card = same_Some _ _ (sym found.1 ∙ card_is) in
            subst (λ (c : CardState). named c.pan c.psn ≡ name_of info) same (new-named issuer info found.0 found.2);
      });
      shards = subst (λ (issuer : Setup). AreLawful issuer world.shards) (sym of) (subst (AreLawful issuer) (sym new.shards) (none-lawful issuer));
      sent = record {
        each = λ exchange here.
            let none : Contains [] exchange = subst (λ (sent : List Exchange). Contains sent exchange) new.sent here in
            absurd (omega (arith, none.1));
      };
      claims = subst (AreChecked world.issuer) (sym new.claims) (none-checked world.issuer);
    }

pub sound-from : (before : WorldState) (events : List Event) (after : WorldState) → IsSound before → IsRunFrom before events after → IsSound after
sound-from before [] after sound run = subst IsSound (sym run) sound
sound-from before (event ∷ events) after sound (between, step, rest) =
    sound-from between events after (sound-step before event between sound step) rest

-- so every run's end is sound
pub sound-run : (issuer : Setup) (events : List Event) (world : WorldState) → IsIssuer issuer → IsRun issuer events world → IsSound world
sound-run issuer events world valid (start, new, run) = sound-from start events world (sound-new issuer start valid new) run

-- and so safe
pub sound-safe : (world : WorldState) → IsSound world → IsSafe world
sound-safe world sound =
    let once = lawful-once world.issuer world.shards sound.shards in
    let of_record : (exchange : Exchange) (shard place : ℕ) (reply : Reply) → Contains world.sent exchange
    → slice_get (at world.shards shard).history place ≡ Some (Decided exchange.request reply) → exchange.reply ≡ reply =
    λ exchange shard place reply here is.
    let it = sound.sent.each exchange here in
    one-place world.issuer world.shards sound.shards it.0 shard it.1 place exchange.request exchange.reply reply it.2 is in
    record {
      once = once;
      one_reply = record {
        recorded = sound.sent.each;
        of_record = of_record;
        same = λ first second first_here second_here same.
            let it = sound.sent.each second second_here in
            of_record first it.0 it.1 second.reply first_here (it.2 ∙ ap (λ (q : Request). Some (Decided q second.reply)) (sym same));
      };
    }
