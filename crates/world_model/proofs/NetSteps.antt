-- An event is allowed by what its call found, and what the call did is a step of the world.
use Rattle.std.proofs.Common.{◌≡◌, ◌≢◌, ℕ, ◌<◌, Bool, true, false, List, [], ◌∷◌, ◌++◌, length, get_or, set, Option, Some, None, Ok, is_some, IsTrue, ◌↔◌}
use Rattle.std.proofs.Common.{ap, sym, ◌∙◌}
use Rattle.std.proofs.lemmas.Bool.{false≢true}
use Rattle.std.proofs.lemmas.List.{set-get_or}
use Rattle.std.proofs.lemmas.Option.{same_Some, slice_get-get_or, get_or_from_slice_get}
use Rattle.std.specs.List.{slice_get, list_all}
use Rattle.std.specs.Option.{option_map}
use Rattle.issuer_base.specs.ChipData.{is_bcd}
use Rattle.issuer_base.specs.declared.request.Request.{Request}
use Rattle.issuer_base.specs.declared.entry.Entry.TheVariants.{Decided}
use Rattle.card_history.specs.declared.decision.Asked.TheVariants.{Decide}
use Rattle.chip_request.specs.Reading.{request_of}
use Rattle.line_checks.specs.Reading.{checked}
use Rattle.card_model.specs.declared.card.TheConstants.{LAST_COUNTER}
use Rattle.card_model.specs.declared.terminal.Terminal.{Terminal}
use Rattle.card_model.specs.Application.{CardState}
use Rattle.card_model.specs.CardSteps.{CardStep, Tap}
use Rattle.world_net.specs.declared.parts.MadeRequest.{MadeRequest}
use Rattle.world_net.specs.declared.parts.OpenClaim.{OpenClaim}
use Rattle.world_net.specs.declared.parts.Exchange.{Exchange}
use Rattle.world_net.specs.WorldState.{WorldState, ShardState, no_shard, home_of, record_in, history_for, claim_of, without}
use Rattle.world_net.specs.Allowed.{CanTap, CanClaim, CanRelease, CanSend, IsFree}
use Rattle.world_net.specs.WorldSteps.{Taps, Claims, Releases, Sends}
use Rattle.world_model.specs.Counters.{is_apart, is_apart_in}
use Rattle.world_model.proofs.Counters.{unrecorded-exact, unclaimed-exact}

-- what was found is there
pub found-there : {R X : Type 0} (now : R → X) (found : Option R) (known : Option X) → option_map now found ≡ known → is_some found ≡ true
    → (x : X) × (known ≡ Some x)
found-there now (Some r) known is some = (now r, sym is)
found-there now None known is some = absurd (false≢true some)

-- what was not found isn't there
pub found-none : {R X : Type 0} (now : R → X) (found : Option R) (known : Option X) → option_map now found ≡ known → is_some found ≡ false
    → known ≡ None
found-none now (Some r) known is none = absurd (false≢true (sym none))
found-none now None known is none = sym is

module _ (world : WorldState) where
  -- a claim that is there is given back
  pub releases : (caller : ℕ) (claims : List OpenClaim) → ((claim : OpenClaim) × (claim_of caller world.claims ≡ Some claim))
      → claims ≡ without caller world.claims → CanRelease world caller × Releases world caller (record world { claims = claims })
  releases caller claims there is =
      let can : CanRelease world caller = record { claim = there.0; claim_is = there.1 } in
      (can, record { can = can; after_is = ap (λ (claims : List OpenClaim). record world { claims = claims }) is })

  -- the reply of a record is sent
  pub sends : (shard place : ℕ) (exchange : Exchange) (sent : List Exchange)
      → record_in world shard place ≡ Some (Decided exchange.request exchange.reply) → sent ≡ world.sent ++ exchange ∷ []
      → CanSend world shard place × Sends world shard place (record world { sent = sent })
  sends shard place exchange sent is more =
      let can : CanSend world shard place = record { request = exchange.request; reply = exchange.reply; record_is = is } in
      (can, record { can = can; after_is = ap (λ (sent : List Exchange). record world { sent = sent }) more })

  -- a request that is free is claimed
  pub claims_it : (caller : ℕ) (bytes : List ℕ) (request : Request) (claims : List OpenClaim) → claim_of caller world.claims ≡ None
      → request_of bytes ≡ Ok request → checked world.issuer request ≡ Ok (Decide request) → IsFree world request
      → claims ≡ world.claims ++ record { caller = caller; request = request } ∷ []
      → CanClaim world caller bytes × Claims world caller bytes (record world { claims = claims })
  claims_it caller bytes request claims idle read passes free more =
      let can : CanClaim world caller bytes = record { request = request; idle = idle; read = read; checked = passes; free = free } in
      (can, record { can = can; after_is = ap (λ (claims : List OpenClaim). record world { claims = claims }) more })

  -- what the two tests say of a request
  pub free-where : (request : Request) (unrecorded unclaimed : Bool) → unrecorded ≡ list_all (is_apart_in request) (history_for world request)
      → unclaimed ≡ list_all (λ claim. is_apart request claim.request) world.claims → unrecorded ≡ true → IsTrue unclaimed ↔ IsFree world request
  free-where request unrecorded unclaimed records claims fresh = (
    λ yes. record {
      unrecorded = (unrecorded-exact (history_for world request) request).0 (sym records ∙ fresh);
      unclaimed = (unclaimed-exact world.claims request).0 (sym claims ∙ yes);
    },
    λ free. claims ∙ (unclaimed-exact world.claims request).1 free.unclaimed,
  )

  pub taken-where : (request : Request) (unrecorded : Bool) → unrecorded ≡ list_all (is_apart_in request) (history_for world request)
      → unrecorded ≡ false → IsTrue unrecorded ↔ IsFree world request
  taken-where request unrecorded records used = (
    λ yes. absurd (false≢true (sym used ∙ yes)),
    λ free. records ∙ (unrecorded-exact (history_for world request) request).1 free.unrecorded,
  )

  module _ (number : ℕ) (terminal : Terminal) (card moved : CardState) (made : List MadeRequest) (within : number < length world.cards)
      (card_is : card ≡ get_or world.cards number card) where
    read-card : slice_get world.cards number ≡ Some card
    read-card = slice_get-get_or world.cards number card within ∙ ap Some (sym card_is)

    -- a card at its last counter isn't tapped
    pub tap-refused : card.atc ≡ LAST_COUNTER → moved ≡ card → made ≡ world.made
        → (CanTap world number terminal → ⊥) × ((record world { cards = set world.cards number moved; made = made }) ≡ world)
    tap-refused last stays same = (
      λ can. can.more (ap (λ (c : CardState). c.atc) (same_Some _ _ (sym can.card_is ∙ read-card)) ∙ last),
      let cards : set world.cards number moved ≡ world.cards =
          ap (set world.cards number) (stays ∙ card_is) ∙ set-get_or world.cards number card in
          λ i. record world { cards = cards i; made = same i },
    )

    -- any other is
    pub tap-taken : (request : Request) → IsTrue (list_all is_bcd terminal.amount) → card.atc ≢ LAST_COUNTER
        → CardStep card (Tap terminal (Some request)) moved → made ≡ world.made ++ record { card = number; request = request } ∷ []
        → CanTap world number terminal × Taps world number terminal (record world { cards = set world.cards number moved; made = made })
    tap-taken request decimal more step longer = (
      record { card = card; card_is = read-card; decimal = decimal; more = more },
      record {
        card = card;
        moved = moved;
        request = request;
        card_is = read-card;
        decimal = decimal;
        step = step;
        after_is = ap (λ (made : List MadeRequest). record world { cards = set world.cards number moved; made = made }) longer;
      },
    )

-- the shard that is read at a request's home has the history of the request's card
pub shard-read : (world : WorldState) (request : Request) (home : ℕ) (shard : ShardState) → home < length world.shards
    → shard ≡ get_or world.shards home shard → home ≡ home_of world request → shard.history ≡ history_for world request
shard-read world request home shard within is at_home =
    let read : shard ≡ get_or world.shards home no_shard =
    sym (get_or_from_slice_get world.shards home shard no_shard (slice_get-get_or world.shards home shard within ∙ ap Some (sym is))) in
    ap (λ (s : ShardState). s.history) read ∙ ap (λ home. (get_or world.shards home no_shard).history) at_home
