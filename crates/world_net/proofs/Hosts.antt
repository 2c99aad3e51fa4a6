-- The invariant of every run for the shards of a host: legal histories, and in doubt only a valid successor.
use Rattle.std.proofs.Common.{◌≡◌, ◌≢◌, ℕ, zero, suc, ◌%◌, ◌<◌, List, [], ◌∷◌, ◌++◌, length}
use Rattle.std.proofs.Common.{take, map, get_or, set, Option, Some, None, Contains, refl, ap, sym}
use Rattle.std.proofs.Common.{◌∙◌, subst, inl, inr, arith, length-set, replicate}
use Rattle.std.proofs.lemmas.Bool.{cases_eq, cases_lt}
use Rattle.std.proofs.lemmas.List.{get_or-set_same, get_or-set_other, length-replicate, length-take, get_or-take}
use Rattle.std.proofs.lemmas.List.Elements.{All-contains}
use Rattle.std.proofs.lemmas.Option.{none-some, same_Some, slice_get_within, slice_get-get_or, get_or_from_slice_get}
use Rattle.std.specs.List.{slice_get}
use Rattle.issuer_base.specs.declared.request.Request.{Request}
use Rattle.issuer_base.specs.declared.answer.Reply.{Reply}
use Rattle.issuer_base.specs.declared.entry.Entry.{Entry}
use Rattle.issuer_base.specs.declared.entry.Entry.TheVariants.{Decided, Queued, Status}
use Rattle.card_history.specs.declared.decision.Decision.{Decision}
use Rattle.card_history.specs.LegalRecords.{IsLegal, IsLegalDecision, IsLegalHistory}
use Rattle.card_history.specs.OneReply.{IsOncePerCounter}
use Rattle.issuer_base.specs.CardNames.{CardName}
use Rattle.card_history.specs.Records.{card_of, card_in}
use Rattle.card_history.specs.Turns.{IsUnused, decided_for}
use Rattle.card_history.proofs.LegalDecisions.{legal-unused}
use Rattle.card_history.proofs.CardNames.{is_of-same}
use Rattle.card_history.proofs.LongerHistories.{Stays, stays-push}
use Rattle.card_history.proofs.RecordPlaces.{recorded-decided}
use Rattle.issuer_setup.specs.CardList.{number_of}
use Rattle.issuer_setup.specs.IssuerSetup.{Setup}
use Rattle.issuer_setup.proofs.Shards.{are_shards-range}
use Rattle.shard_book.specs.Grounds.{IsCardOfShard, grounds_of}
use Rattle.shard_book.proofs.Lines.{legal-more}
use Rattle.world_net.specs.declared.parts.Exchange.{Exchange}
use Rattle.world_net.specs.WorldState.{ShardState, no_shard}
use Rattle.world_net.specs.WorldRuns.{IsIssuer}

-- the shard with this number among these
abbrev pub at : List ShardState → ℕ → ShardState
at shards shard = get_or shards shard no_shard

-- the shards after one more record of one of them
abbrev pub recorded : List ShardState → ℕ → Entry → List ShardState
recorded shards shard entry = set shards shard (record { history = (at shards shard).history ++ entry ∷ []; doubt = None })

-- the shards with this in doubt in one of them
abbrev pub doubted : List ShardState → ℕ → Option Exchange → List ShardState
doubted shards shard doubt = set shards shard (record { history = (at shards shard).history; doubt = doubt })

-- what is sure of the shards
pub record AreLawful (issuer : Setup) (shards : List ShardState) : Type 0 where
  pub count : length shards ≡ issuer.shards
  pub legal : (shard : ℕ) → IsLegalHistory (grounds_of issuer) shard (at shards shard).history
  pub doubtful : (shard : ℕ) (exchange : Exchange) → (at shards shard).doubt ≡ Some exchange
      → IsLegalDecision (grounds_of issuer) shard (at shards shard).history exchange.request exchange.reply

-- each reply that was sent is that of its record
pub record AreRecorded (shards : List ShardState) (sent : List Exchange) : Type 0 where
  pub each : (exchange : Exchange) → Contains sent exchange
      → (shard : ℕ) × (place : ℕ) × (slice_get (at shards shard).history place ≡ Some (Decided exchange.request exchange.reply))

-- the shard of a card is one of the issuer's
pub home-within : (issuer : Setup) (shard : ℕ) (name : CardName) → IsIssuer issuer → IsCardOfShard issuer shard name → shard < issuer.shards
home-within issuer shard name valid home =
    let some = (are_shards-range issuer.shards valid.shards).0 in
    let here = home.home in
    let below : home.number % issuer.shards < issuer.shards = omega arith in
    omega arith

-- so is that of a legal record
pub legal-home : (issuer : Setup) (shard : ℕ) (before : List Entry) (entry : Entry) → IsLegal (grounds_of issuer) shard before entry
    → IsCardOfShard issuer shard (card_in entry)
legal-home issuer shard before (Decided request reply) legal = legal.of_a_card
legal-home issuer shard before (Queued pan psn command) legal = legal.of_a_card
legal-home issuer shard before (Status pan psn status) legal = legal.of_a_card

-- what is so of a shard that is put, and of each other shard, is so of each
pub each-shard : (Holds : ℕ → ShardState → Type 0) (shards : List ShardState) (place : ℕ) (new : ShardState) → place < length shards → Holds place new
    → ((shard : ℕ) → shard ≢ place → Holds shard (at shards shard)) → (shard : ℕ) → Holds shard (at (set shards place new) shard)
each-shard Holds shards place new within here others shard =
    elim (cases_eq shard place) [
      | inl same ↦
          subst (λ shard. Holds shard (at (set shards place new) shard)) (sym same)
          (subst (Holds place) (sym (get_or-set_same shards place new no_shard within)) here)
      | inr other ↦ subst (Holds shard) (sym (get_or-set_other shards place shard new no_shard other)) (others shard other)
    ]

-- one more record that is a valid successor
pub lawful-record : (issuer : Setup) (shards : List ShardState) (shard : ℕ) (entry : Entry) → IsIssuer issuer → AreLawful issuer shards
    → IsLegal (grounds_of issuer) shard (at shards shard).history entry → AreLawful issuer (recorded shards shard entry)
lawful-record issuer shards shard entry valid lawful legal =
    let below = home-within issuer shard (card_in entry) valid (legal-home issuer shard (at shards shard).history entry legal) in
    let count = lawful.count in
    let within : shard < length shards = omega arith in
    let new : ShardState = record { history = (at shards shard).history ++ entry ∷ []; doubt = None } in
    record {
      count = length-set shards shard new ∙ lawful.count;
      legal = each-shard (λ shard state. IsLegalHistory (grounds_of issuer) shard state.history) shards shard new within
          (legal-more (grounds_of issuer) shard (at shards shard).history entry (lawful.legal shard) legal)
          (λ other apart. lawful.legal other);
      doubtful = each-shard (λ shard state. (exchange : Exchange) → state.doubt ≡ Some exchange
          → IsLegalDecision (grounds_of issuer) shard state.history exchange.request exchange.reply) shards shard new within
          (λ exchange is. absurd (none-some exchange is)) (λ other apart. lawful.doubtful other);
    }

-- another decision in doubt that is a valid successor, or none
pub lawful-doubt : (issuer : Setup) (shards : List ShardState) (shard : ℕ) (doubt : Option Exchange) → shard < length shards → AreLawful issuer shards
    → ((exchange : Exchange) → doubt ≡ Some exchange
    → IsLegalDecision (grounds_of issuer) shard (at shards shard).history exchange.request exchange.reply)
    → AreLawful issuer (doubted shards shard doubt)
lawful-doubt issuer shards shard doubt within lawful legal =
    let new : ShardState = record { history = (at shards shard).history; doubt = doubt } in
    record {
      count = length-set shards shard new ∙ lawful.count;
      legal = each-shard (λ shard state. IsLegalHistory (grounds_of issuer) shard state.history) shards shard new within (lawful.legal shard)
          (λ other apart. lawful.legal other);
      doubtful = each-shard (λ shard state. (exchange : Exchange) → state.doubt ≡ Some exchange
          → IsLegalDecision (grounds_of issuer) shard state.history exchange.request exchange.reply) shards shard new within
          legal (λ other apart. lawful.doubtful other);
    }

-- each record stays
pub recorded-stays : (shards : List ShardState) (place : ℕ) (entry : Entry) → place < length shards
    → (shard : ℕ) → Stays (at shards shard).history (at (recorded shards place entry) shard).history
recorded-stays shards place entry within =
    each-shard (λ shard state. Stays (at shards shard).history state.history) shards place
    (record { history = (at shards place).history ++ entry ∷ []; doubt = None }) within
    (stays-push (at shards place).history entry) (λ other apart place kept is. is)

pub doubted-stays : (shards : List ShardState) (place : ℕ) (doubt : Option Exchange) → place < length shards
    → (shard : ℕ) → Stays (at shards shard).history (at (doubted shards place doubt) shard).history
doubted-stays shards place doubt within =
    each-shard (λ shard state. Stays (at shards shard).history state.history) shards place
    (record { history = (at shards place).history; doubt = doubt }) within
    (λ place kept is. is) (λ other apart place kept is. is)

-- so each reply that was sent stays that of its record
pub recorded-later : (before after : List ShardState) (sent : List Exchange) → ((shard : ℕ) → Stays (at before shard).history (at after shard).history)
    → AreRecorded before sent → AreRecorded after sent
recorded-later before after sent stays all = record {
  each = λ exchange here.
      let it = all.each exchange here in
      (it.0, it.1, stays it.0 it.1 (Decided exchange.request exchange.reply) it.2);
}

-- no records at first
pub none-at : (count shard : ℕ) → at (replicate count no_shard) shard ≡ no_shard
none-at zero shard = refl
none-at (suc count) zero = refl
none-at (suc count) (suc shard) = none-at count shard

pub none-lawful : (issuer : Setup) → AreLawful issuer (replicate issuer.shards no_shard)
none-lawful issuer = record {
  count = length-replicate issuer.shards no_shard;
  legal = λ shard place entry is.
      let none : slice_get [] place ≡ Some entry =
      subst (λ (state : ShardState). slice_get state.history place ≡ Some entry) (none-at issuer.shards shard) is in
      absurd (cc);
  doubtful = λ shard exchange is.
      absurd (none-some exchange (subst (λ (state : ShardState). state.doubt ≡ Some exchange) (none-at issuer.shards shard) is));
}

-- a record before a place is one of the records before it
before-place : (history : List Entry) (place last : ℕ) (entry : Entry) → place < last → slice_get history place ≡ Some entry
    → slice_get (take last history) place ≡ Some entry
before-place history place last entry below is =
    let within = slice_get_within history place entry is in
    let long = length-take last history in
    slice_get-get_or (take last history) place entry (omega arith)
    ∙ ap Some (get_or-take last history place entry below ∙ get_or_from_slice_get history place entry entry is)

-- no counter of a card is decided a second time in a shard
never-again : (history : List Entry) (first second : ℕ) (request other : Request) (reply : Reply) → first < second
    → slice_get history first ≡ Some (Decided request reply) → IsUnused (decided_for other (take second history)) other
    → card_of request ≡ card_of other → request.atc ≡ other.atc → ⊥
never-again history first second request other reply below is unused card counter =
    All-contains (λ (decision : Decision). decision.request.atc ≡ other.atc → ⊥) (decided_for other (take second history))
    (record { request = request; reply = reply; place = first }) unused.unrecorded
    (recorded-decided (card_of other) (take second history) first request reply (before-place history first second (Decided request reply) below is)
    (is_of-same other request (sym card))) counter

-- the history of a shard among the histories of all
pub histories-at : (shards : List ShardState) (shard : ℕ) → get_or (map (λ (state : ShardState). state.history) shards) shard [] ≡ (at shards shard).history
histories-at [] shard = refl
histories-at (first ∷ shards) zero = refl
histories-at (first ∷ shards) (suc shard) = histories-at shards shard

-- so no two decided records are of the same card and counter
pub lawful-once : (issuer : Setup) (shards : List ShardState) → AreLawful issuer shards → IsOncePerCounter (map (λ shard. shard.history) shards)
lawful-once issuer shards lawful shard other_shard place other_place request other reply other_reply is other_is card counter =
    let is_there : slice_get (at shards shard).history place ≡ Some (Decided request reply) =
    subst (λ (history : List Entry). slice_get history place ≡ Some (Decided request reply)) (histories-at shards shard) is in
    let other_there : slice_get (at shards other_shard).history other_place ≡ Some (Decided other other_reply) =
    subst (λ (history : List Entry). slice_get history other_place ≡ Some (Decided other other_reply)) (histories-at shards other_shard) other_is in
    let legal = lawful.legal shard place (Decided request reply) is_there in
    let other_legal = lawful.legal other_shard other_place (Decided other other_reply) other_there in
    let number : legal.of_a_card.number ≡ other_legal.of_a_card.number = same_Some _ _
    (sym legal.of_a_card.number_is ∙ ap (λ name. number_of name issuer.cards) card ∙ other_legal.of_a_card.number_is) in
    let home : shard ≡ other_shard = sym legal.of_a_card.home ∙ ap (λ n. n % issuer.shards) number ∙ other_legal.of_a_card.home in
    let other_here : slice_get (at shards shard).history other_place ≡ Some (Decided other other_reply) =
    subst (λ shard. slice_get (at shards shard).history other_place ≡ Some (Decided other other_reply)) (sym home) other_there in
    let other_unused : IsUnused (decided_for other (take other_place (at shards shard).history)) other =
    subst (λ shard. IsUnused (decided_for other (take other_place (at shards shard).history)) other) (sym home) (legal-unused {grounds = grounds_of issuer} refl other_legal) in (
      home,
      elim (cases_eq place other_place) [
        | inl same ↦ same
        | inr apart ↦ elim (cases_lt place other_place) [
          | inl below ↦ absurd (never-again (at shards shard).history place other_place request other reply below is_there other_unused card counter)
          | inr above ↦ absurd (never-again (at shards shard).history other_place place other request other_reply (omega arith) other_here (legal-unused {grounds = grounds_of issuer} refl legal)
              (sym card) (sym counter))
        ]
      ],
    )

-- and one request has one reply
pub one-place : (issuer : Setup) (shards : List ShardState) → AreLawful issuer shards → (shard other_shard place other_place : ℕ) (request : Request)
    (reply other_reply : Reply) → slice_get (at shards shard).history place ≡ Some (Decided request reply)
    → slice_get (at shards other_shard).history other_place ≡ Some (Decided request other_reply) → reply ≡ other_reply
one-place issuer shards lawful shard other_shard place other_place request reply other_reply is other_is =
    let here : get_or (map (λ (state : ShardState). state.history) shards) shard [] ≡ (at shards shard).history = histories-at shards shard in
    let there : get_or (map (λ (state : ShardState). state.history) shards) other_shard [] ≡ (at shards other_shard).history =
    histories-at shards other_shard in
    let same = lawful-once issuer shards lawful shard other_shard place other_place request request reply other_reply
    (ap (λ (history : List Entry). slice_get history place) here ∙ is)
    (ap (λ (history : List Entry). slice_get history other_place) there ∙ other_is) refl refl in
    let moved : slice_get (at shards shard).history place ≡ slice_get (at shards other_shard).history other_place =
    ap (λ shard. slice_get (at shards shard).history place) same.0 ∙ ap (slice_get (at shards other_shard).history) same.1 in
    let both : Some (Decided request reply) ≡ Some (Decided request other_reply) = sym is ∙ moved ∙ other_is in
    cc
