-- The invariant of a genuine run for a world: that of CardLaw for each card.
use Rattle.std.proofs.Common.{◌≡◌, ◌≢◌, ℕ, ◌%◌, ◌<◌, Bool, true, false, List, [], ◌∷◌, ◌++◌}
use Rattle.std.proofs.Common.{length, get_or, set, Option, Some, None, Contains, refl, ap, sym, ◌∙◌, subst}
use Rattle.std.proofs.Common.{inl, inr, arith}
use Rattle.std.proofs.lemmas.Bool.{cases_eq}
use Rattle.std.proofs.lemmas.List.{get_or-set_same, get_or-set_other, get_or_push}
use Rattle.std.proofs.lemmas.List.Elements.{Contains-push_cases}
use Rattle.std.proofs.lemmas.Option.{none-some, same_Some, slice_get_within, slice_get-get_or, get_or_from_slice_get}
use Rattle.std.specs.List.{slice_get}
use Rattle.issuer_base.specs.declared.command.Command.{Command}
use Rattle.issuer_base.specs.declared.request.Request.{Request}
use Rattle.issuer_base.specs.declared.answer.Reply.{Reply}
use Rattle.issuer_base.specs.declared.entry.Entry.TheVariants.{Decided, Queued as IsQueued, Status as IsStatus}
use Rattle.card_history.specs.LegalRecords.{IsLegal, IsLegalDecision}
use Rattle.issuer_base.specs.CardNames.{CardName}
use Rattle.card_history.specs.Records.{card_of, decided, is_of, has_numbers}
use Rattle.card_history.specs.Turns.{IsUnused}
use Rattle.card_history.proofs.LegalDecisions.{legal-unused}
use Rattle.card_history.proofs.CardNames.{is_of-card_of, has_numbers-named}
use Rattle.card_history.proofs.LongerHistories.{slice_get-push}
use Rattle.issuer_setup.specs.declared.card.CardInfo.{CardInfo}
use Rattle.issuer_setup.specs.CardList.{AreCards, name_of, number_of}
use Rattle.issuer_setup.specs.IssuerSetup.{Setup}
use Rattle.issuer_setup.proofs.CardListLemmas.{number_of-first, number_of-found}
use Rattle.issuer_setup.proofs.Names.{name_at-slice_get}
use Rattle.issuer_setup.proofs.Shards.{shard_of-known}
use Rattle.card_model.specs.Application.{CardState}
use Rattle.card_model.specs.CardSteps.{CardStep, Authenticate as IsAuthenticate, Run as IsRun, new_card, with_answer, with_command}
use Rattle.shard_book.specs.Grounds.{grounds_of}
use Rattle.world_net.specs.declared.event.Event.{Event}
use Rattle.world_net.specs.declared.event.Event.TheVariants.{Tap, Claim, Release, Write, Send, Authenticate, Run, Queue, Status, Restart}
use Rattle.world_net.specs.declared.parts.MadeRequest.{MadeRequest}
use Rattle.world_net.specs.declared.parts.Exchange.{Exchange}
use Rattle.world_net.specs.WorldState.{WorldState, ShardState, no_shard, home_of, history_for}
use Rattle.world_net.specs.WorldSteps.{written, settled_at, settled_in, first_doubtful}
use Rattle.world_net.specs.WorldRuns.{IsIssuer, IsNewCard, IsNewWorld, IsMade, DecidesMade, IsAnswered, IsOfBatch, IsGenuineStep, IsGenuineFrom, IsGenuineRun}
use Rattle.world_net.specs.Safety.{RunsInOrder}
use Rattle.world_net.proofs.Batches.{HasBatch, sent-batch}
use Rattle.world_net.proofs.CardLaw.{IsKept, kept-order}
use Rattle.world_net.proofs.CardMoves.{IsTapped, HasRun, tap-moves, right-moves, wrong-stays, ran-moves, refused-moves}
use Rattle.world_net.proofs.CardKeeps.{kept-tap, kept-fewer, kept-failure, kept-answer, kept-command}
use Rattle.world_net.proofs.CardRecords.{kept-decided, kept-other, kept-status, kept-queued}
use Rattle.world_net.proofs.Hosts.{at, recorded, doubted, none-at}
use Rattle.world_net.proofs.Worlds.{IsSound, shard-within, put-there, put-elsewhere, sound-new, sound-step}

-- the requests that the card with this number made
abbrev pub Made : List MadeRequest → ℕ → Request → Type 0
Made made number request = Contains made (record { card = number; request = request })

-- what is kept of each card
pub record AreKept (issuer : Setup) (cards : List CardState) (made : List MadeRequest) (shards : List ShardState) : Type 0 where
  pub each : (number : ℕ) (info : CardInfo) (card : CardState) → slice_get issuer.cards number ≡ Some info → slice_get cards number ≡ Some card
      → IsKept (name_of info) card (Made made number) (at shards (number % issuer.shards)).history

-- a card's name has the card's number
pub number_of-own : (cards : List CardInfo) (number : ℕ) (info : CardInfo) → AreCards cards → slice_get cards number ≡ Some info
    → number_of (name_of info) cards ≡ Some number
number_of-own cards number info valid is =
    let within = slice_get_within cards number info is in
    number_of-first (name_of info) cards number within (name_at-slice_get cards number info is)
    (λ before below same.
    let earlier = slice_get-get_or cards before info (omega arith) in
    valid.distinct before number info below within
    (sym (name_at-slice_get cards before (get_or cards before info) earlier) ∙ same ∙ ap name_of (sym (get_or_from_slice_get cards number info info is))))

-- two lists that end with one element more of the same list end alike
last-same : (xs : List Command) (x y : Command) → xs ++ x ∷ [] ≡ xs ++ y ∷ [] → x ≡ y
last-same xs x y same =
    sym (get_or_push xs x x (length xs) refl) ∙ ap (λ (l : List Command). get_or l (length xs) x) same ∙ get_or_push xs y x (length xs) refl

-- what a card has run after one command more
ran-more : (card moved : CardState) (run : HasRun card moved) → moved.ran ≡ card.ran ++ run.command ∷ []
unfolding with_command
ran-more card moved run = ap (λ (c : CardState). c.ran) run.moved_is

module _ (world : WorldState) (sound : IsSound world) where
  -- the card that another card's number isn't of has another name
  apart-name : (number other : ℕ) (name : CardName) (info : CardInfo) → number_of name world.issuer.cards ≡ Some number
      → slice_get world.issuer.cards other ≡ Some info → other ≢ number → name_of info ≢ name
  apart-name number other name info known is apart same =
      apart (same_Some _ _ (sym (number_of-own world.issuer.cards other info sound.issuer.cards is)
      ∙ ap (λ name. number_of name world.issuer.cards) same ∙ known))

  -- and the card of a name's number has the name
  own-name : (number : ℕ) (name : CardName) (info : CardInfo) → number_of name world.issuer.cards ≡ Some number
      → slice_get world.issuer.cards number ≡ Some info → name_of info ≡ name
  own-name number name info known is =
      let found = number_of-found name world.issuer.cards number known in
      ap name_of (same_Some _ _ (sym is ∙ found.1)) ∙ found.2

  module _ (kept : AreKept world.issuer world.cards world.made world.shards) where
    -- a shard that is put, with what is kept of each card of the shard, keeps what is kept of all
    kept-shard : (shard : ℕ) (new : ShardState) → shard < length world.shards
        → ((number : ℕ) (info : CardInfo) (card : CardState) → slice_get world.issuer.cards number ≡ Some info → slice_get world.cards number ≡ Some card
        → number % world.issuer.shards ≡ shard → IsKept (name_of info) card (Made world.made number) new.history)
        → AreKept world.issuer world.cards world.made (set world.shards shard new)
    kept-shard shard new within here = record {
      each = λ number info card info_is card_is.
          elim (cases_eq (number % world.issuer.shards) shard) [
            | inl home ↦
                let read : at (set world.shards shard new) (number % world.issuer.shards) ≡ new =
                ap (at (set world.shards shard new)) home ∙ get_or-set_same world.shards shard new no_shard within in
                subst (λ (state : ShardState). IsKept (name_of info) card (Made world.made number) state.history) (sym read)
                (here number info card info_is card_is home)
            | inr apart ↦
                let read = get_or-set_other world.shards shard (number % world.issuer.shards) new no_shard apart in
                subst (λ (state : ShardState). IsKept (name_of info) card (Made world.made number) state.history) (sym read)
                (kept.each number info card info_is card_is)
          ];
    }

    -- what is kept of a card of a shard
    kept-home : (shard number : ℕ) (info : CardInfo) (card : CardState) → slice_get world.issuer.cards number ≡ Some info
        → slice_get world.cards number ≡ Some card → number % world.issuer.shards ≡ shard
        → IsKept (name_of info) card (Made world.made number) (at world.shards shard).history
    kept-home shard number info card info_is card_is home =
        subst (λ shard. IsKept (name_of info) card (Made world.made number) (at world.shards shard).history) home (kept.each number info card info_is card_is)

    -- a decision of a request that its card made
    kept-decision : (shard : ℕ) (request : Request) (reply : Reply)
        → IsLegalDecision (grounds_of world.issuer) shard (at world.shards shard).history request reply → IsMade world request
        → AreKept world.issuer world.cards world.made (recorded world.shards shard (Decided request reply))
    kept-decision shard request reply legal made =
        kept-shard shard _ (shard-within world sound shard (Decided request reply) legal)
        (λ number info card info_is card_is home.
        let here = kept-home shard number info card info_is card_is home in
        elim (cases_eq number made.number) [
          | inl same ↦
              let name : name_of info ≡ card_of request =
              own-name made.number (card_of request) info made.number_is (ap (slice_get world.issuer.cards) (sym same) ∙ info_is) in
              let its = subst (λ (name : CardName). is_of name request ≡ true) (sym name) (is_of-card_of request) in
              let unused = subst (λ (name : CardName). IsUnused (decided name (at world.shards shard).history) request) (sym name) (legal-unused {grounds = grounds_of world.issuer} refl legal) in
              let made_here : Made world.made number request = subst (λ n. Made world.made n request) (sym same) made.made in
              kept-decided (name_of info) card (Made world.made number) (at world.shards shard).history here request reply made_here its unused
          | inr apart ↦
              kept-other (name_of info) card (Made world.made number) (at world.shards shard).history here (Decided request reply)
              (apart-name made.number number (card_of request) info made.number_is info_is apart)
        ])

    -- a command for a card
    kept-command_for : (shard number : ℕ) (info : CardInfo) (command : Command) → slice_get world.issuer.cards number ≡ Some info
        → IsLegal (grounds_of world.issuer) shard (at world.shards shard).history (IsQueued info.pan info.psn command)
        → AreKept world.issuer world.cards world.made (recorded world.shards shard (IsQueued info.pan info.psn command))
    kept-command_for shard number info command info_is legal =
        kept-shard shard _ (shard-within world sound shard (IsQueued info.pan info.psn command) legal)
        (λ other other_info card other_is card_is home.
        let here = kept-home shard other other_info card other_is card_is home in
        elim (cases_eq other number) [
          | inl same ↦
              let info_same : info ≡ other_info = same_Some _ _ (sym info_is ∙ ap (slice_get world.issuer.cards) (sym same) ∙ other_is) in
              let its = subst (λ (other : CardInfo). has_numbers (name_of other) info.pan info.psn ≡ true) info_same (has_numbers-named info.pan info.psn) in
              kept-queued (name_of other_info) card (Made world.made other) (at world.shards shard).history here info.pan info.psn command its
          | inr apart ↦
              kept-other (name_of other_info) card (Made world.made other) (at world.shards shard).history here (IsQueued info.pan info.psn command)
              (apart-name number other (name_of info) other_info (number_of-own world.issuer.cards number info sound.issuer.cards info_is) other_is apart)
        ])

    -- a status of a card
    kept-status_of : (shard : ℕ) (pan : List ℕ) (psn status : ℕ)
        → IsLegal (grounds_of world.issuer) shard (at world.shards shard).history (IsStatus pan psn status)
        → AreKept world.issuer world.cards world.made (recorded world.shards shard (IsStatus pan psn status))
    kept-status_of shard pan psn status legal =
        kept-shard shard _ (shard-within world sound shard (IsStatus pan psn status) legal)
        (λ number info card info_is card_is home.
        kept-status (name_of info) card (Made world.made number) (at world.shards shard).history (kept-home shard number info card info_is card_is home)
        pan psn status)

    -- another decision in doubt
    kept-doubt : (shard : ℕ) (doubt : Option Exchange) → shard < length world.shards
        → AreKept world.issuer world.cards world.made (doubted world.shards shard doubt)
    kept-doubt shard doubt within =
        kept-shard shard _ within (λ number info card info_is card_is home. kept-home shard number info card info_is card_is home)

    -- a card that moved
    kept-card : (number : ℕ) (card moved : CardState) (made : List MadeRequest) → slice_get world.cards number ≡ Some card
        → ((info : CardInfo) → slice_get world.issuer.cards number ≡ Some info
        → IsKept (name_of info) moved (Made made number) (at world.shards (number % world.issuer.shards)).history)
        → ((other : ℕ) (request : Request) → other ≢ number → Made made other request → Made world.made other request)
        → AreKept world.issuer (set world.cards number moved) made world.shards
    kept-card number card moved made card_is here others = record {
      each = λ other info found info_is found_is.
          elim (cases_eq other number) [
            | inl same ↦
                let info_here : slice_get world.issuer.cards number ≡ Some info = ap (slice_get world.issuer.cards) (sym same) ∙ info_is in
                let found_here = ap (slice_get (set world.cards number moved)) (sym same) ∙ found_is in
                let its : moved ≡ found = put-there world.cards number moved found (slice_get_within world.cards number card card_is) found_here in
                subst (λ n. IsKept (name_of info) found (Made made n) (at world.shards (n % world.issuer.shards)).history) (sym same)
                (subst (λ (c : CardState). IsKept (name_of info) c (Made made number) (at world.shards (number % world.issuer.shards)).history) its
                (here info info_here))
            | inr apart ↦
                kept-fewer (name_of info) found (at world.shards (other % world.issuer.shards)).history (Made world.made other) (Made made other)
                (λ request. others other request apart)
                (kept.each other info found info_is (put-elsewhere world.cards number other moved found apart found_is))
          ];
    }

    -- a tap
    kept-tapped : (number : ℕ) (card : CardState) (request : Request) (moved : CardState) → slice_get world.cards number ≡ Some card
        → IsTapped card request moved
        → AreKept world.issuer (set world.cards number moved) (world.made ++ record { card = number; request = request } ∷ []) world.shards
    kept-tapped number card request moved card_is tapped =
        let new : MadeRequest = record { card = number; request = request } in
        let made = world.made ++ new ∷ [] in
        kept-card number card moved made card_is
        (λ info info_is.
        subst (λ (c : CardState). IsKept (name_of info) c (Made made number) (at world.shards (number % world.issuer.shards)).history) (sym tapped.moved_is)
        (kept-tap (name_of info) card (at world.shards (number % world.issuer.shards)).history request (Made world.made number) (Made made number)
        tapped.counter (tapped.its ∙ sound.cards.named number info card info_is card_is) tapped.carries
        (λ other other_made. elim (Contains-push_cases world.made new (record { card = number; request = other }) other_made) [
          | inl before ↦ inl before
          | inr last ↦ inr (ap (λ (m : MadeRequest). m.request) last)
        ])
        (kept.each number info card info_is card_is)))
        (λ other asked apart other_made. elim (Contains-push_cases world.made new (record { card = other; request = asked }) other_made) [
          | inl before ↦ before
          | inr last ↦ absurd (apart (sym (ap (λ (m : MadeRequest). m.card) last)))
        ])

    -- a card whose number stands for its name, and its shard
    home-known : (number : ℕ) (info : CardInfo) (request : Request) → slice_get world.issuer.cards number ≡ Some info → card_of request ≡ name_of info
        → home_of world request ≡ number % world.issuer.shards
    home-known number info request info_is name =
        shard_of-known world.issuer (card_of request) number
        (ap (λ name. number_of name world.issuer.cards) name ∙ number_of-own world.issuer.cards number info sound.issuer.cards info_is)

    -- a reply that the card found right
    kept-authenticated : (number : ℕ) (value arc : List ℕ) (card : CardState) (right : Bool) (moved : CardState) → slice_get world.cards number ≡ Some card
        → CardStep card (IsAuthenticate value arc right) moved → (right ≡ true → IsAnswered world card value arc)
        → AreKept world.issuer (set world.cards number moved) world.made world.shards
    kept-authenticated number value arc card true moved card_is step genuine =
        let it = right-moves card value arc moved step in
        let told = genuine refl in
        let same : it.request ≡ told.exchange.request = same_Some _ _ (sym it.opened ∙ told.opened) in
        let place = sound.sent.each told.exchange told.sent in
        let legal = sound.shards.legal place.0 place.1 (Decided told.exchange.request told.exchange.reply) place.2 in
        kept-card number card moved world.made card_is
        (λ info info_is.
        let here = kept.each number info card info_is card_is in
        let name = (here.requests.opened told.exchange.request told.opened).0 in
        let home : place.0 ≡ number % world.issuer.shards =
        sym legal.of_a_card.home ∙ ap (λ n. n % world.issuer.shards) (same_Some _ _ (sym legal.of_a_card.number_is ∙ ap (λ name. number_of name world.issuer.cards) name
        ∙ number_of-own world.issuer.cards number info sound.issuer.cards info_is)) in
        subst (λ (c : CardState). IsKept (name_of info) c (Made world.made number) (at world.shards (number % world.issuer.shards)).history)
        (ap (with_answer card) (sym same) ∙ sym it.moved_is)
        (kept-answer (name_of info) card (at world.shards (number % world.issuer.shards)).history (Made world.made number) here told.exchange.request
        told.opened place.1 told.exchange.reply
        (ap (λ shard. slice_get (at world.shards shard).history place.1) (sym home) ∙ place.2)
        it.unanswered))
        (λ other request apart made. made)
    kept-authenticated number value arc card false moved card_is step genuine =
        kept-card number card moved world.made card_is
        (λ info info_is.
        subst (λ (c : CardState). IsKept (name_of info) c (Made world.made number) (at world.shards (number % world.issuer.shards)).history)
        (sym (wrong-stays card value arc moved step)) (kept.each number info card info_is card_is))
        (λ other request apart made. made)

    -- a script command that the card ran, or not
    kept-run : (number : ℕ) (bytes : List ℕ) (card : CardState) (right : Bool) (moved : CardState) → slice_get world.cards number ≡ Some card
        → CardStep card (IsRun bytes right) moved → (right ≡ true → IsOfBatch world card moved)
        → AreKept world.issuer (set world.cards number moved) world.made world.shards
    kept-run number bytes card true moved card_is step genuine =
        let it = ran-moves card bytes moved step in
        let told = genuine refl in
        kept-card number card moved world.made card_is
        (λ info info_is.
        let here = kept.each number info card info_is card_is in
        let name = (here.requests.opened told.request told.opened).0 in
        let history = (at world.shards (number % world.issuer.shards)).history in
        let home = home-known number info told.request info_is name in
        let has : HasBatch (name_of info) history told.request told.batch =
        subst (λ (name : CardName). HasBatch name history told.request told.batch) name
        (subst (λ shard. HasBatch (card_of told.request) (at world.shards shard).history told.request told.batch) home
        (subst (λ (q : Request). HasBatch (card_of told.request) (history_for world told.request) q told.batch) told.record_is
        (sent-batch (card_of told.request) (history_for world told.request) told.place told.first told.batch told.batch_is))) in
        let command : told.command ≡ it.command = last-same card.ran told.command it.command (sym told.ran ∙ ran-more card moved it) in
        subst (λ (c : CardState). IsKept (name_of info) c (Made world.made number) history)
        (ap (λ (c : Command). with_command card c it.next) command ∙ sym it.moved_is)
        (kept-command (name_of info) card history (Made world.made number) here told.request told.opened told.batch told.command it.chain it.next has
        told.command_is it.answered))
        (λ other request apart made. made)
    kept-run number bytes card false moved card_is step genuine =
        kept-card number card moved world.made card_is
        (λ info info_is.
        let here = kept.each number info card info_is card_is in
        let history = (at world.shards (number % world.issuer.shards)).history in
        elim (refused-moves card bytes moved step) [
          | inl same ↦ subst (λ (c : CardState). IsKept (name_of info) c (Made world.made number) history) (sym same) here
          | inr failed ↦ subst (λ (c : CardState). IsKept (name_of info) c (Made world.made number) history) (sym failed)
              (kept-failure (name_of info) card history (Made world.made number) here)
        ])
        (λ other request apart made. made)

-- what is kept of a world
abbrev pub WorldKept : WorldState → Type 0
WorldKept world = AreKept world.issuer world.cards world.made world.shards

-- the record that joined a shard decides a request that was made
joined-made : (world after : WorldState) → IsSound world → (shard : ℕ) (request : Request) (reply : Reply)
    → IsLegalDecision (grounds_of world.issuer) shard (at world.shards shard).history request reply
    → after.shards ≡ recorded world.shards shard (Decided request reply) → DecidesMade world after → IsMade world request
joined-made world after sound shard request reply legal shards_are made =
    let history = (at world.shards shard).history in
    let entry = Decided request reply in
    let new : ShardState = record { history = history ++ entry ∷ []; doubt = None } in
    let read : at after.shards shard ≡ new =
    ap (λ (shards : List ShardState). at shards shard) shards_are
    ∙ get_or-set_same world.shards shard new no_shard (shard-within world sound shard entry legal) in
    made shard (length history) request reply
    (ap (λ (state : ShardState). slice_get state.history (length history)) read ∙ slice_get-push history entry)

-- a write
kept-written : (world : WorldState) → IsSound world → WorldKept world → (stored : Bool) (caller shard : ℕ) (exchange : Exchange) (after : WorldState)
    → IsLegalDecision (grounds_of world.issuer) shard (at world.shards shard).history exchange.request exchange.reply
    → after ≡ written stored world caller shard exchange → DecidesMade world after → WorldKept (written stored world caller shard exchange)
kept-written world sound kept true caller shard exchange after legal after_is made =
    kept-decision world sound kept shard exchange.request exchange.reply legal
    (joined-made world after sound shard exchange.request exchange.reply legal (ap (λ (w : WorldState). w.shards) after_is) made)
kept-written world sound kept false caller shard exchange after legal after_is made =
    kept-doubt world sound kept shard (Some exchange) (shard-within world sound shard (Decided exchange.request exchange.reply) legal)

-- what a restart makes of a decision in doubt
kept-settled_at : (world : WorldState) → IsSound world → WorldKept world → (store_kept : Bool) (shard : ℕ) (doubt : Option Exchange) (after : WorldState)
    → (at world.shards shard).doubt ≡ doubt → after.shards ≡ (settled_at store_kept world shard doubt).shards → DecidesMade world after
    → WorldKept (settled_at store_kept world shard doubt)
kept-settled_at world sound kept store_kept shard None after is after_is made = kept
kept-settled_at world sound kept true shard (Some exchange) after is after_is made =
    let legal = sound.shards.doubtful shard exchange is in
    kept-decision world sound kept shard exchange.request exchange.reply legal
    (joined-made world after sound shard exchange.request exchange.reply legal after_is made)
kept-settled_at world sound kept false shard (Some exchange) after is after_is made =
    kept-doubt world sound kept shard None
    (shard-within world sound shard (Decided exchange.request exchange.reply) (sound.shards.doubtful shard exchange is))

kept-settled_in : (world : WorldState) → IsSound world → WorldKept world → (store_kept : Bool) (shard : Option ℕ) (after : WorldState)
    → after.shards ≡ (settled_in store_kept world shard).shards → DecidesMade world after → WorldKept (settled_in store_kept world shard)
kept-settled_in world sound kept store_kept None after after_is made = kept
kept-settled_in world sound kept store_kept (Some shard) after after_is made =
    kept-settled_at world sound kept store_kept shard (at world.shards shard).doubt after refl after_is made

-- a genuine step keeps it
kept-event : (world : WorldState) (event : Event) (after : WorldState) → IsSound world → WorldKept world → IsGenuineStep world event after → WorldKept after
kept-event world (Tap number terminal) after sound kept genuine =
    let step = genuine.step in
    subst WorldKept (sym step.after_is)
    (kept-tapped world sound kept number step.card step.request step.moved step.card_is
    (tap-moves step.card terminal step.request step.moved step.step))
kept-event world (Claim caller bytes) after sound kept genuine = subst WorldKept (sym genuine.step.after_is) kept
kept-event world (Release caller) after sound kept genuine = subst WorldKept (sym genuine.step.after_is) kept
kept-event world (Write caller stored) after sound kept genuine =
    let step = genuine.step in
    subst WorldKept (sym step.after_is)
    (kept-written world sound kept stored caller (home_of world step.claim.request) (record { request = step.claim.request; reply = step.reply }) after
    step.legal step.after_is genuine.decides)
kept-event world (Send shard place) after sound kept genuine = subst WorldKept (sym genuine.step.after_is) kept
kept-event world (Authenticate number value arc) after sound kept genuine =
    let step = genuine.step in
    subst WorldKept (sym step.after_is)
    (kept-authenticated world sound kept number value.items arc step.card step.right step.moved step.card_is step.step genuine.accepts)
kept-event world (Run number bytes) after sound kept genuine =
    let step = genuine.step in
    subst WorldKept (sym step.after_is)
    (kept-run world sound kept number bytes.items step.card step.right step.moved step.card_is step.step genuine.accepts)
kept-event world (Queue number command) after sound kept genuine =
    let step = genuine.step in
    subst WorldKept (sym step.after_is)
    (kept-command_for world sound kept (number % world.issuer.shards) number step.can.card command step.can.card_is step.can.legal)
kept-event world (Status number status) after sound kept genuine =
    let step = genuine.step in
    subst WorldKept (sym step.after_is)
    (kept-status_of world sound kept (number % world.issuer.shards) step.can.card.pan step.can.card.psn status step.can.legal)
kept-event world (Restart store_kept) after sound kept genuine =
    let step = genuine.step in
    subst WorldKept (sym step)
    (kept-settled_in world sound kept store_kept (first_doubtful world.shards) after (ap (λ (w : WorldState). w.shards) step) genuine.decides)

-- a card with nothing that happened is kept
new-kept : (issuer : Setup) (info : CardInfo) (card : CardState) (name : CardName) → IsNewCard issuer info card
    → IsKept name card (λ request. ⊥) []
unfolding new_card
new-kept issuer info card name new =
    subst (λ (c : CardState). IsKept name c (λ request. ⊥) []) (sym new.under.card_is) (record {
      requests = record {
        counters = λ request none. absurd none;
        opened = λ request none. absurd (none-some request none);
        answered = λ chain none. refl;
        unanswered = λ request none _. absurd (none-some request none);
        within = omega arith;
      };
      untouched = λ none. record { none_done = refl; none_fly = refl; goes_on = refl; register_is = refl; count_is = refl; ran_is = refl };
      flying = λ top none. absurd (none-some top none);
      present = λ request none newest. absurd none;
    })

kept-new : (issuer : Setup) (world : WorldState) → IsNewWorld issuer world → WorldKept world
kept-new issuer world new =
    subst (λ (issuer : Setup). AreKept issuer world.cards world.made world.shards) (sym new.issuer_is) (record {
      each = λ number info card info_is card_is.
          let found = new.cards number info info_is in
          let same : found.0 ≡ card = same_Some _ _ (sym found.1 ∙ card_is) in
          let state : at world.shards (number % issuer.shards) ≡ no_shard =
          ap (λ (shards : List ShardState). at shards (number % issuer.shards)) new.shards ∙ none-at issuer.shards (number % issuer.shards) in
          subst (λ (state : ShardState). IsKept (name_of info) card (Made world.made number) state.history) (sym state)
          (kept-fewer (name_of info) card [] (λ request. ⊥) (Made world.made number)
          (λ request made.
          let none : Contains [] (record { card = number; request = request }) =
          subst (λ (made : List MadeRequest). Contains made (record { card = number; request = request })) new.made made in
          absurd (omega (arith, none.1)))
          (subst (λ (c : CardState). IsKept (name_of info) c (λ request. ⊥) []) same (new-kept issuer info found.0 (name_of info) found.2)));
    })

kept-from : (before : WorldState) (events : List Event) (after : WorldState) → IsSound before → WorldKept before → IsGenuineFrom before events after
    → WorldKept after
kept-from before [] after sound kept run = subst WorldKept (sym run) kept
kept-from before (event ∷ events) after sound kept (between, genuine, rest) =
    kept-from between events after (sound-step before event between sound genuine.step) (kept-event before event between sound kept genuine) rest

-- so every genuine run's end is kept
pub kept-run_end : (issuer : Setup) (events : List Event) (world : WorldState) → IsIssuer issuer → IsGenuineRun issuer events world → WorldKept world
kept-run_end issuer events world valid (start, new, run) =
    kept-from start events world (sound-new issuer start valid new) (kept-new issuer start new) run

-- and its cards run their commands in order
pub kept-in_order : (world : WorldState) → WorldKept world → RunsInOrder world
kept-in_order world kept number info card info_is card_is =
    kept-order (name_of info) card (Made world.made number) (at world.shards (number % world.issuer.shards)).history
    (kept.each number info card info_is card_is)
