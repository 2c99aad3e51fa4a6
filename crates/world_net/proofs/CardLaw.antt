-- The invariant of a genuine run for one card, with the history of its shard and the requests that it made.
use Rattle.std.proofs.Common.{◌≡◌, ℕ, ◌+◌, ◌≤◌, ◌<◌, true, false, List, [], ◌++◌, length, take, drop, Option, Some, None, ap, sym, ◌∙◌, inl, inr}
use Rattle.std.proofs.Common.{arith}
use Rattle.std.proofs.lemmas.Bool.{cases_lt}
use Rattle.std.proofs.lemmas.List.{length-take-le, take-append-drop, length-drop}
use Rattle.std.specs.Option.{option_map_or}
use Rattle.issuer_base.specs.ChipData.{script_count, last_online}
use Rattle.issuer_base.specs.declared.command.Command.{Command}
use Rattle.issuer_base.specs.declared.request.Request.{Request}
use Rattle.issuer_base.specs.declared.entry.Entry.{Entry}
use Rattle.cvr_settle.specs.declared.settlement.Flight.{Flight}
use Rattle.issuer_base.specs.CardNames.{CardName}
use Rattle.card_history.specs.Records.{card_of}
use Rattle.card_history.specs.Scripts.{Scripts, is_newest, scripts_of}
use Rattle.card_history.proofs.ScriptSteps.{scripts-queue, scripts-within}
use Rattle.card_model.specs.Application.{CardState}
use Rattle.world_net.specs.Safety.{RanInOrder}
use Rattle.world_net.proofs.Batches.{HasBatch, cases_top}

-- the request carries this register and this count
pub record Carries (register count : ℕ) (request : Request) : Type 0 where
  pub register_is : last_online request ≡ register
  pub count_is : script_count request ≡ count

-- the card and the requests that it made
pub record KnowsRequests (name : CardName) (card : CardState) (Made : Request → Type 0) : Type 0 where
  pub counters : (request : Request) → Made request → (1 ≤ request.atc) × (request.atc ≤ card.atc)
  pub opened : (request : Request) → card.open_request ≡ Some request → (card_of request ≡ name) × (request.atc ≡ card.atc)
  pub answered : (chain : List ℕ) → card.chain ≡ Some chain → card.register ≡ card.atc
  pub unanswered : (request : Request) → card.open_request ≡ Some request → card.chain ≡ None → card.register < card.atc
  pub within : card.register ≤ card.atc

-- no request of the card was decided yet
pub record IsUntouched (card : CardState) (scripts : Scripts) : Type 0 where
  pub none_done : scripts.done ≡ 0
  pub none_fly : scripts.flight ≡ None
  pub goes_on : scripts.halted ≡ false
  pub register_is : card.register ≡ 0
  pub count_is : card.count ≡ 0
  pub ran_is : card.ran ≡ []

-- the greatest counter that was decided, its flight, and how far the card has run it
pub record IsFlying (name : CardName) (card : CardState) (history : List Entry) (top : ℕ) : Type 0 where
  pub goes_on : (scripts_of name history).halted ≡ false
  pub size : ℕ
  pub flight_is : (scripts_of name history).flight ≡ Some (record { counter = top; size = size })
  pub took : card.register ≤ top
  pub known : top ≤ card.atc
  pub batch : (request : Request) (commands : List Command) → HasBatch name history request commands → request.atc ≡ top
      → commands ≡ take size (drop (scripts_of name history).done (scripts_of name history).queue)
  pub few : card.register ≡ top → card.count ≤ size
  pub ran_here : card.register ≡ top → card.ran ≡ take ((scripts_of name history).done + card.count) (scripts_of name history).queue
  pub ran_below : card.register < top → card.ran ≡ take (scripts_of name history).done (scripts_of name history).queue

-- what is kept of a card
pub record IsKept (name : CardName) (card : CardState) (Made : Request → Type 0) (history : List Entry) : Type 0 where
  pub requests : KnowsRequests name card Made
  pub untouched : (scripts_of name history).hi ≡ None → IsUntouched card (scripts_of name history)
  pub flying : (top : ℕ) → (scripts_of name history).hi ≡ Some top → IsFlying name card history top
  pub present : (request : Request) → Made request → is_newest request.atc (scripts_of name history).hi ≡ true
      → Carries card.register card.count request

-- no more commands are done and in flight than were queued
pub flying-within : (name : CardName) (card : CardState) (history : List Entry) (top : ℕ) (flying : IsFlying name card history top)
    → (scripts_of name history).done + flying.size ≤ length (scripts_of name history).queue
flying-within name card history top flying =
    let scripts = scripts_of name history in
    let within = scripts-within name history in
    let fly : flying.size ≤ length (drop scripts.done scripts.queue) =
    within.few_fly (record { counter = top; size = flying.size }) flying.flight_is in
    let few = within.few_done in
    omega (arith, length-drop scripts.done scripts.queue)

-- the first commands of a queue are in order
pub front-order : (name : CardName) (history : List Entry) (ran : List Command) (count size : ℕ) → ran ≡ take count (scripts_of name history).queue
    → count ≤ length (scripts_of name history).queue → (scripts_of name history).done ≤ count → count ≤ (scripts_of name history).done + size
    → option_map_or (λ flight. flight.size) (scripts_of name history).flight 0 ≡ size
    → (scripts_of name history).halted ≡ false → RanInOrder name history ran
front-order name history ran count size ran_is within least most size_is goes_on =
    let scripts = scripts_of name history in
    let long : length ran ≡ count = ap (λ (commands : List Command). length commands) ran_is ∙ length-take-le count scripts.queue within in
    record {
      rest = drop count scripts.queue;
      front = sym (scripts-queue name history) ∙ sym (take-append-drop count scripts.queue)
          ∙ ap (λ (commands : List Command). commands ++ drop count scripts.queue) (sym ran_is);
      at_least = omega (arith, long);
      at_most = omega (arith, long, size_is);
      goes_on = goes_on;
    }

-- so the card ran its commands in order
pub kept-order : (name : CardName) (card : CardState) (Made : Request → Type 0) (history : List Entry) → IsKept name card Made history
    → RanInOrder name history card.ran
kept-order name card Made history kept =
    let scripts = scripts_of name history in
    elim (cases_top scripts.hi) [
      | inl none ↦
          let it = kept.untouched none in
          front-order name history card.ran 0 0 it.ran_is (omega arith) (omega (arith, it.none_done)) (omega arith)
          (ap (λ (flown : Option Flight). option_map_or (λ flight. flight.size) flown 0) it.none_fly) it.goes_on
      | inr (top, top_is) ↦
          let it = kept.flying top top_is in
          let within = flying-within name card history top it in
          let size_is : option_map_or (λ flight. flight.size) scripts.flight 0 ≡ it.size =
          ap (λ (flown : Option Flight). option_map_or (λ flight. flight.size) flown 0) it.flight_is in
          elim (cases_lt card.register top) [
            | inl below ↦
                front-order name history card.ran scripts.done it.size (it.ran_below below) (omega arith) (omega arith) (omega arith) size_is it.goes_on
            | inr above ↦
                let same : card.register ≡ top = let took = it.took in omega arith in
                let few = it.few same in
                front-order name history card.ran (scripts.done + card.count) it.size (it.ran_here same) (omega arith) (omega arith) (omega arith)
                size_is it.goes_on
          ]
    ]
