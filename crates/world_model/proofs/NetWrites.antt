-- The effect of a write and of a restart on a world and on the rows of its cards.
use Rattle.std.proofs.Common.{◌≡◌, ℕ, ◌%◌, ◌<◌, Bool, true, false, ◌==◌, List, [], ◌∷◌, ◌++◌, length, get_or, set, Option, Some, None, Ok, IsTrue, ◌↔◌}
use Rattle.std.proofs.Common.{refl, ap, sym, ◌∙◌, subst, inl, inr, arith, Result, Err, OnOk, OnErr, IfOk}
use Rattle.std.proofs.lemmas.Bool.{cases_Bool, cond-true, cond-false, false≢true}
use Rattle.std.proofs.lemmas.List.{set-get_or}
use Rattle.std.proofs.lemmas.List.Elements.{All-tail}
use Rattle.std.proofs.lemmas.Option.{none-some, same_Some, slice_get-get_or, get_or_from_slice_get}
use Rattle.std.specs.List.{find, All}
use Rattle.std.specs.Option.{option_map}
use Rattle.issuer_base.specs.declared.request.Request.{Request}
use Rattle.issuer_base.specs.declared.answer.Reply.{Reply}
use Rattle.issuer_base.specs.declared.entry.Entry.{Entry}
use Rattle.issuer_base.specs.declared.entry.Entry.TheVariants.{Decided}
use Rattle.issuer_base.specs.declared.limits.TheConstants.{WINDOW}
use Rattle.card_history.specs.declared.decision.Asked.TheVariants.{Decide}
use Rattle.card_history.specs.LegalRecords.{IsLegalDecision}
use Rattle.card_history.specs.Records.{card_of}
use Rattle.card_history.proofs.LegalDecisions.{legal-unused}
use Rattle.issuer_setup.specs.declared.card.CardInfo.{CardInfo}
use Rattle.issuer_setup.specs.CardList.{name_of, number_of}
use Rattle.issuer_setup.specs.IssuerSetup.{Setup, keys_of}
use Rattle.issuer_setup.proofs.CardListLemmas.{number_of-found}
use Rattle.issuer_setup.proofs.Shards.{shard_of-known}
use Rattle.line_checks.specs.AtHand.{IsRequestAtHand}
use Rattle.line_checks.specs.Reading.{checked}
use Rattle.line_checks.specs.declared.checked.CheckedRequest.{CheckedRequest}
use Rattle.row_core.specs.Accepting.{IsValidSuccessor}
use Rattle.row_core.specs.CardRow.{CardRow, StandsFor}
use Rattle.row_core.specs.Replying.{reply_to}
use Rattle.shard_book.specs.Grounds.{IsCardOfShard, grounds_of}
use Rattle.shard_book.specs.declared.replay.Version.TheVariants.{Two}
use Rattle.shard_book.proofs.Adopted.{decision-follows}
use Rattle.world_net.specs.declared.parts.Exchange.{Exchange}
use Rattle.world_net.specs.declared.parts.OpenClaim.{OpenClaim}
use Rattle.world_net.specs.Allowed.{CanWrite, IsAllowed}
use Rattle.world_net.specs.WorldState.{WorldState, ShardState, no_shard, shard_at, home_of, history_for, claim_of, without, with_record, with_doubt}
use Rattle.world_net.specs.WorldSteps.{Writes, written, settled_at, IsStep}
use Rattle.world_net.specs.declared.event.Event.{Event}
use Rattle.world_model.specs.declared.net.Net.{Net}
use Rattle.world_model.specs.Stepping.{RowsStand, Stands, IsReached, IsHeld, IsTaken, world_of, own_decision, WritesOwn}
use Rattle.world_net.specs.WorldRuns.{IsIssuer, IsNewWorld, IsRunFrom}
use Rattle.world_net.specs.Safety.{IsSafe}
use Rattle.world_net.proofs.Hosts.{at, recorded, doubted}
use Rattle.world_model.proofs.NetRows.{row-stands, rows-record}
use Rattle.world_net.proofs.Worlds.{IsSound, sound-run, sound-safe, step-issuer, home-card, home-shard}

-- what is put back where it was changes nothing
pub put-same : {X : Type 0} (xs : List X) (place : ℕ) (new old : X) → new ≡ old → old ≡ get_or xs place old → set xs place new ≡ xs
put-same xs place new old stays read = ap (set xs place) (stays ∙ read) ∙ set-get_or xs place old

-- a run's end is sound
pub reached-sound : (world : WorldState) → IsReached world → IsSound world
reached-sound world reached = sound-run world.issuer reached.events world reached.issuer reached.run

-- a decision of a row's card is taken over by the row
pub rows-join : (issuer : Setup) (rows : List CardRow) (shards : List ShardState) → RowsStand issuer rows shards → length shards ≡ issuer.shards
    → (found : CheckedRequest) (request : Request) (reply given : Reply) (place : ℕ) (row new : CardRow) (accepted : Bool)
    → IsRequestAtHand issuer found → found.request ≡ request → given ≡ reply → found.card % issuer.shards < length shards
    → IsLegalDecision (grounds_of issuer) (found.card % issuer.shards) (at shards (found.card % issuer.shards)).history request reply
    → place ≡ length (at shards (found.card % issuer.shards)).history → row ≡ get_or rows found.card row
    → ((card : CardInfo) (history : List Entry) → StandsFor card row history → card_of found.request ≡ name_of card
    → (IsTrue accepted ↔ IsValidSuccessor WINDOW card.method found.keys history found.request given))
    → (IsTrue accepted → (card : CardInfo) (history : List Entry) → StandsFor card row history → card_of found.request ≡ name_of card
    → place ≡ length history → StandsFor card new (history ++ Decided found.request given ∷ []))
    → RowsStand issuer (set rows found.card new) (recorded shards (found.card % issuer.shards) (Decided request reply))
rows-join issuer rows shards stand count found request reply given place row new accepted at_hand same same_reply within legal at_end row_is exact adopted =
    let home = found.card % issuer.shards in
    let history = (at shards home).history in
    let info = number_of-found (card_of found.request) issuer.cards found.card at_hand.card_is.number_is in
    let stands = row-stands issuer rows shards stand found.card info.0 row info.1 row_is in
    let number_is : number_of (card_of request) issuer.cards ≡ Some found.card =
    ap (λ (q : Request). number_of (card_of q) issuer.cards) (sym same) ∙ at_hand.card_is.number_is in
    let keys_are : keys_of issuer found.card request ≡ Some found.keys = ap (keys_of issuer found.card) (sym same) ∙ at_hand.keys_are in
    let follows = decision-follows Two issuer home history request reply found.card info.0 found.keys number_is info.1 keys_are legal in
    let follows_found : IsValidSuccessor WINDOW info.0.method found.keys history found.request given =
    subst (λ (q : Request). IsValidSuccessor WINDOW info.0.method found.keys history q given) (sym same)
    (subst (IsValidSuccessor WINDOW info.0.method found.keys history request) (sym same_reply) follows) in
    let done = adopted ((exact info.0 history stands (sym info.2)).1 follows_found) info.0 history stands (sym info.2) at_end in
    let done_here : StandsFor info.0 new (history ++ Decided request reply ∷ []) =
    subst (λ (q : Request). StandsFor info.0 new (history ++ Decided q reply ∷ [])) same
    (subst (λ (r : Reply). StandsFor info.0 new (history ++ Decided found.request r ∷ [])) same_reply done) in
    rows-record issuer rows shards stand found.card info.0 (Decided request reply) new at_hand.card_is.valid count within info.1
    (ap card_of (sym same) ∙ sym info.2) done_here

-- a shard with this in doubt, among the shards
pub shards-doubt : (shards : List ShardState) (home : ℕ) (doubt : Option Exchange) (old new : ShardState) → home < length shards
    → old ≡ get_or shards home old → new ≡ record { history = old.history; doubt = doubt } → set shards home new ≡ doubted shards home doubt
shards-doubt shards home doubt old new within old_is new_is =
    let read : old ≡ at shards home =
    sym (get_or_from_slice_get shards home old no_shard (slice_get-get_or shards home old within ∙ ap Some (sym old_is))) in
    ap (set shards home) (new_is ∙ (λ i. record { history = (read i).history; doubt = doubt }))

-- what was read of a shard
pub doubt-read : (shards : List ShardState) (home : ℕ) (doubt : Option Exchange) (old : ShardState) → home < length shards
    → old ≡ get_or shards home old → doubt ≡ old.doubt → (at shards home).doubt ≡ doubt
doubt-read shards home doubt old within old_is doubt_is =
    ap (λ (s : ShardState). s.doubt) (get_or_from_slice_get shards home old no_shard (slice_get-get_or shards home old within ∙ ap Some (sym old_is)))
    ∙ sym doubt_is

module _ (world : WorldState) (sound : IsSound world) where
  -- a decision in doubt is a valid successor in the shard of its card, and that shard is where it is in doubt
  pub doubt-legal : (home : ℕ) (exchange : Exchange) → (shard_at world home).doubt ≡ Some exchange
      → IsLegalDecision (grounds_of world.issuer) (home_of world exchange.request) (history_for world exchange.request) exchange.request exchange.reply
  doubt-legal home exchange is =
      let legal = sound.shards.doubtful home exchange is in
      subst (λ shard. IsLegalDecision (grounds_of world.issuer) shard (at world.shards shard).history exchange.request exchange.reply)
      (sym (home-shard world exchange.request home legal.of_a_card)) legal

  pub doubt-settled : (home : ℕ) (exchange : Exchange) (kept : Bool) → (shard_at world home).doubt ≡ Some exchange → kept ≡ true
      → with_record world (home_of world exchange.request) (Decided exchange.request exchange.reply)
      ≡ settled_at kept world home (shard_at world home).doubt
  doubt-settled home exchange kept is is_kept =
      let legal = sound.shards.doubtful home exchange is in
      let entry = Decided exchange.request exchange.reply in
      ap (λ shard. with_record world shard entry) (home-shard world exchange.request home legal.of_a_card)
      ∙ sym (ap (settled_at kept world home) is ∙ cond-true kept _ _ is_kept)

-- what is found among elements that all have a property has it
pub found-all : {X : Type 0} (p : X → Bool) (P : X → Type 0) (xs : List X) (x : X) → find p xs ≡ Some x → All P xs → P x
found-all p P [] x is all = absurd (none-some x is)
found-all p P (first ∷ xs) x is all =
    elim (cases_Bool (p first)) [
      | inl here ↦ subst P (same_Some first x (sym (cond-true (p first) (Some first) (find p xs) here) ∙ is)) (all 0 first (omega arith))
      | inr later ↦ found-all p P xs x (sym (cond-false (p first) (Some first) (find p xs) later) ∙ is) (All-tail P first xs all)
    ]

-- the claim that a request was read from
pub claim-there : (found : Option OpenClaim) (request : Request) → Some request ≡ option_map (λ claim. claim.request) found
    → (claim : OpenClaim) × (found ≡ Some claim) × (claim.request ≡ request)
claim-there None request is = absurd (cc)
claim-there (Some claim) request is = (claim, refl, sym (same_Some _ _ is))

-- no claim, where none was read
pub claim-none : (found : Option OpenClaim) → None ≡ option_map (λ claim. claim.request) found → found ≡ None
claim-none None is = refl
claim-none (Some claim) is = absurd (none-some claim.request is)

-- a claim is on a request that the issuer decides
pub claim-checked : (world : WorldState) → IsSound world → (caller : ℕ) (claim : OpenClaim) → claim_of caller world.claims ≡ Some claim
    → checked world.issuer claim.request ≡ Ok (Decide claim.request)
claim-checked world sound caller claim is =
    found-all (λ claim. claim.caller == caller) (λ claim. checked world.issuer claim.request ≡ Ok (Decide claim.request)) world.claims claim is sound.claims

-- the issuer's own decision of a request whose card is of this shard
pub own-exchange : (world : WorldState) (request said : Request) (reply : Reply) (place : ℕ) → said ≡ request → home_of world request ≡ place
    → reply ≡ reply_to world.issuer (at world.shards place).history request
    → (record { request = said; reply = reply }) ≡ own_decision world request
own-exchange world request said reply place same home own =
    let reply_is : reply ≡ reply_to world.issuer (history_for world request) request =
    own ∙ ap (λ shard. reply_to world.issuer (at world.shards shard).history request) (sym home) in
    λ i. record { request = same i; reply = reply_is i }

-- a write that is not stored leaves the decision in doubt
pub doubt-written : (world : WorldState) (caller : ℕ) (stored : Bool) (request : Request) (exchange : Exchange) (home : ℕ) (shards : List ShardState)
    → stored ≡ false → shards ≡ doubted world.shards home (Some exchange) → home ≡ home_of world request
    → record world { shards = shards } ≡ written stored world caller (home_of world request) exchange
doubt-written world caller stored request exchange home shards not_stored shards_are at_home =
    ap (λ (shards : List ShardState). record world { shards = shards }) shards_are
    ∙ ap (λ home. with_doubt world home (Some exchange)) at_home
    ∙ sym (ap (λ (s : Bool). written s world caller (home_of world request) exchange) not_stored)

-- one that is stored records it, and ends the claim
pub record-written : (world joined : WorldState) (caller : ℕ) (stored : Bool) (request : Request) (exchange : Exchange) (claims : List OpenClaim)
    → stored ≡ true → joined ≡ with_record world (home_of world exchange.request) (Decided exchange.request exchange.reply)
    → exchange.request ≡ request → claims ≡ without caller joined.claims
    → record joined { claims = claims } ≡ written stored world caller (home_of world request) exchange
record-written world joined caller stored request exchange claims is_stored joined_is same claims_are =
    ap (λ (claims : List OpenClaim). record joined { claims = claims }) claims_are
    ∙ ap (λ (w : WorldState). record w { claims = without caller w.claims }) joined_is
    ∙ ap (λ (q : Request). record (with_record world (home_of world q) (Decided exchange.request exchange.reply)) { claims = without caller world.claims }) same
    ∙ sym (ap (λ (s : Bool). written s world caller (home_of world request) exchange) is_stored)

-- a write of the issuer's own decision of the request that was claimed
pub writes-own : (world after : WorldState) (caller : ℕ) (stored : Bool) (claim : OpenClaim) (request : Request) (exchange : Exchange)
    → claim_of caller world.claims ≡ Some claim → claim.request ≡ request → exchange ≡ own_decision world request
    → after ≡ written stored world caller (home_of world request) exchange → WritesOwn world caller stored after
writes-own world after caller stored claim request exchange claim_is same own after_is = record {
  claim = claim;
  claim_is = claim_is;
  after_is = after_is
      ∙ ap (written stored world caller (home_of world request)) own
      ∙ ap (λ (q : Request). written stored world caller (home_of world q) (own_decision world q)) (sym same);
}

-- a write of a legal decision is one that is allowed
pub writes-taken : (world after : WorldState) (caller : ℕ) (stored : Bool) (claim : OpenClaim) (request : Request) (exchange : Exchange)
    → claim_of caller world.claims ≡ Some claim → claim.request ≡ request → exchange.request ≡ request
    → IsLegalDecision (grounds_of world.issuer) (home_of world request) (history_for world request) request exchange.reply
    → after ≡ written stored world caller (home_of world request) exchange
    → CanWrite world caller × Writes world caller stored after
writes-taken world after caller stored claim request exchange claim_is same same_too legal after_is =
    let reply = exchange.reply in
    let legal_here = subst (λ (q : Request). IsLegalDecision (grounds_of world.issuer) (home_of world q) (history_for world q) q reply) (sym same) legal in (
      record { claim = claim; claim_is = claim_is; unused = legal-unused {grounds = grounds_of world.issuer} refl legal_here },
      record {
        claim = claim;
        reply = reply;
        claim_is = claim_is;
        legal = legal_here;
        after_is = after_is
            ∙ ap (λ (q : Request). written stored world caller (home_of world request) (record { request = q; reply = reply })) same_too
            ∙ ap (λ (q : Request). written stored world caller (home_of world q) (record { request = q; reply = reply })) (sym same);
      },
    )

-- one step more
run-more : (before : WorldState) (events : List Event) (world after : WorldState) (event : Event) → IsRunFrom before events world → IsStep world event after
    → IsRunFrom before (events ++ event ∷ []) after
run-more before [] world after event run step = (after, subst (λ (w : WorldState). IsStep w event after) run step, refl)
run-more before (first ∷ events) world after event (between, here, rest) step = (between, here, run-more between events world after event rest step)

reached-more : (world after : WorldState) (event : Event) → IsReached world → IsStep world event after → IsReached after
reached-more world after event reached step =
    let same : after.issuer ≡ world.issuer = step-issuer world event after step in
    let run = reached.run in
    record {
      issuer = subst IsIssuer (sym same) reached.issuer;
      events = reached.events ++ event ∷ [];
      run = (run.0, subst (λ (issuer : Setup). IsNewWorld issuer run.0) (sym same) run.1, run-more run.0 reached.events world after event run.2 step);
    }

-- what a call that always does it answers
pub always-taken : {E : Type 0} (Done : Type 0) (before after : WorldState) (result : Result Bool E) → OnOk result Done → OnErr result (after ≡ before)
    → IfOk result (λ done. done ≡ true) → IsTaken (Unit {0}) Done before after result
always-taken Done before after (Ok true) done stays always = (tt, done)
always-taken Done before after (Ok false) done stays always = absurd (false≢true always)
always-taken Done before after (Err fault) done stays always = stays

-- a step of a run's end is a run's end, with rows that stand
pub held-step : {E : Type 0} (old new : Net) (event : Event) (result : Result Bool E) → IsHeld old
    → IsTaken (IsAllowed (world_of old) event) (IsStep (world_of old) event (world_of new)) (world_of old) (world_of new) result → Stands new
    → IsHeld new
held-step old new event (Ok true) held taken rows = record { reached = reached-more (world_of old) (world_of new) event held.reached taken.1; rows = rows }
held-step old new event (Ok false) held taken rows = record { reached = subst IsReached (sym taken.1) held.reached; rows = rows }
held-step old new event (Err fault) held taken rows = record { reached = subst IsReached (sym taken) held.reached; rows = rows }

-- so there are as many shards as the issuer has
pub held-count : (net : Net) → IsHeld net → length net.shards.items ≡ net.issuer.shards
held-count net held = (reached-sound (world_of net) held.reached).shards.count

-- a new world is a run's end
pub held-new : (issuer : Setup) (net : Net) → IsIssuer issuer → IsNewWorld issuer (world_of net) → Stands net → IsHeld net
held-new issuer net valid new rows = record {
  reached = record {
    issuer = subst IsIssuer (sym new.issuer_is) valid;
    events = [];
    run = (world_of net, subst (λ (issuer : Setup). IsNewWorld issuer (world_of net)) (sym new.issuer_is) new, refl);
  };
  rows = rows;
}

-- and a run's end is safe
pub reached-safe : (world : WorldState) → IsReached world → IsSafe world
reached-safe world reached = sound-safe world (reached-sound world reached)
