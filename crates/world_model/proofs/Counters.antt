-- A counter is free if no record and no claim is on it.
use Rattle.std.proofs.Common.{◌≡◌, ◌≢◌, ℕ, zero, suc, true, not, ◌&&◌, ◌==◌, List, [], ◌∷◌, Some, IsTrue, ◌↔◌, refl, ap, sym, ◌∙◌, arith}
use Rattle.std.proofs.lemmas.Bool.{and_parts, and_from, eqb-true, eq-eqb, not_from_true, not_from_false}
use Rattle.std.proofs.lemmas.Bool.{false_from_ne_true, both_ways}
use Rattle.std.proofs.lemmas.List.Elements.{All-contains, All-cons, All-tail, Contains-get_or}
use Rattle.std.specs.List.{slice_get, list_all, All}
use Rattle.issuer_base.specs.declared.request.Request.{Request}
use Rattle.issuer_base.specs.declared.answer.Reply.{Reply}
use Rattle.issuer_base.specs.declared.entry.Entry.{Entry}
use Rattle.issuer_base.specs.declared.entry.Entry.TheVariants.{Decided, Queued, Status}
use Rattle.card_history.specs.declared.decision.Decision.{Decision}
use Rattle.card_history.specs.Records.{card_of, is_of, decided}
use Rattle.card_history.specs.Turns.{decided_for}
use Rattle.card_history.proofs.CardNames.{is_of-names, is_of-same}
use Rattle.card_history.proofs.RecordPlaces.{decided-recorded, recorded-decided}
use Rattle.world_net.specs.declared.parts.OpenClaim.{OpenClaim}
use Rattle.world_model.specs.Counters.{is_apart, is_apart_in}

-- apart: of another card, or on another counter
apart-true : (request other : Request) → is_apart request other ≡ true → is_of (card_of request) other ≡ true → other.atc ≢ request.atc
apart-true request other apart its same =
    let both : (is_of (card_of request) other && other.atc == request.atc) ≡ true = and_from _ _ its (eq-eqb other.atc request.atc same) in
    both_ways (not (is_of (card_of request) other && other.atc == request.atc)) (not_from_true _ both) apart

apart-from : (request other : Request) → (is_of (card_of request) other ≡ true → other.atc ≢ request.atc) → is_apart request other ≡ true
apart-from request other differs =
    not_from_false _ (false_from_ne_true _ (λ both. let parts = and_parts _ _ both in differs parts.0 (eqb-true other.atc request.atc parts.1)))

-- each record that decides a request of the card is on another counter
record AreApart (history : List Entry) (request : Request) : Type 0 where
  each : (place : ℕ) (other : Request) (reply : Reply) → slice_get history place ≡ Some (Decided other reply)
      → is_of (card_of request) other ≡ true → other.atc ≢ request.atc

later-apart : (first : Entry) (history : List Entry) (request : Request) → AreApart (first ∷ history) request → AreApart history request
later-apart first history request apart = record { each = λ place other reply is. apart.each (suc place) other reply is }

apart-all : (history : List Entry) (request : Request) → AreApart history request → list_all (is_apart_in request) history ≡ true
apart-all [] request apart = refl
apart-all (Decided other reply ∷ history) request apart =
    and_from _ _ (apart-from request other (λ its. apart.each 0 other reply refl its)) (apart-all history request (later-apart _ history request apart))
apart-all (Queued pan psn command ∷ history) request apart = apart-all history request (later-apart _ history request apart)
apart-all (Status pan psn status ∷ history) request apart = apart-all history request (later-apart _ history request apart)

all-apart : (history : List Entry) (request : Request) → list_all (is_apart_in request) history ≡ true
    → (place : ℕ) (other : Request) (reply : Reply) → slice_get history place ≡ Some (Decided other reply)
    → is_of (card_of request) other ≡ true → other.atc ≢ request.atc
all-apart [] request all place other reply is its = absurd (cc)
all-apart (first ∷ history) request all zero other reply is its =
    let same : first ≡ Decided other reply = cc in
    apart-true request other (ap (is_apart_in request) (sym same) ∙ (and_parts _ _ all).0) its
all-apart (first ∷ history) request all (suc place) other reply is its = all-apart history request (and_parts _ _ all).1 place other reply is its

-- what the records say, and what the card's decisions say
pub unrecorded-exact : (history : List Entry) (request : Request)
    → IsTrue (list_all (is_apart_in request) history) ↔ All (λ decision. decision.request.atc ≢ request.atc) (decided_for request history)
unrecorded-exact history request = (
  λ all k decision below same.
      let here = Contains-get_or (decided (card_of request) history) k decision below in
      let found = decided-recorded (card_of request) history _ here in
      all-apart history request all _ _ _ found.0 found.1 same,
  λ all. apart-all history request (record {
    each = λ place other reply is its same.
        All-contains (λ (decision : Decision). decision.request.atc ≢ request.atc) (decided (card_of request) history)
        (record { request = other; reply = reply; place = place }) all
        (recorded-decided (card_of request) history place other reply is its) same;
  }),
)

-- a claim that is apart
claim-apart : (request other : Request) → IsTrue (is_apart request other) ↔ (card_of other ≡ card_of request → other.atc ≢ request.atc)
claim-apart request other = (
  λ apart same. apart-true request other apart (is_of-same request other (sym same)),
  λ differs. apart-from request other (λ its. differs (sym (is_of-names (card_of request) other its))),
)

-- what the claims say
pub unclaimed-exact : (claims : List OpenClaim) (request : Request) → IsTrue (list_all (λ claim. is_apart request claim.request) claims)
    ↔ All (λ claim. card_of claim.request ≡ card_of request → claim.request.atc ≢ request.atc) claims
unclaimed-exact [] request = (λ all k claim below. absurd (omega arith), λ all. refl)
unclaimed-exact (claim ∷ claims) request =
    let P = λ (claim : OpenClaim). card_of claim.request ≡ card_of request → claim.request.atc ≢ request.atc in
    let first = claim-apart request claim.request in
    let rest = unclaimed-exact claims request in (
      λ all. let parts = and_parts _ _ all in All-cons P claim claims (first.0 parts.0) (rest.0 parts.1),
      λ all. and_from _ _ (first.1 (all 0 claim (omega arith))) (rest.1 (All-tail P claim claims all)),
    )
