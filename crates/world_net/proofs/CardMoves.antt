-- The effect of each step of a card on its state.
use Rattle.std.proofs.Common.{◌≡◌, ℕ, ◌+◌, ◌*◌, ◌/◌, ◌%◌, Bool, true, false, cond, List, Option}
use Rattle.std.proofs.Common.{Some, None, refl, ap, sym, ◌∙◌, inl, inr, ◌⊎◌, arith, subst, ◌==◌}
use Rattle.std.proofs.Math.Nat.{div-add-mod}
use Rattle.std.proofs.lemmas.Bool.{cases_Bool, cond-true, cond-false, true≢false, false≢true}
use Rattle.std.proofs.lemmas.Option.{none-some, same_Some}
use Rattle.issuer_base.specs.ChipData.{cvr, script_count, last_online}
use Rattle.issuer_base.specs.declared.command.Command.{Command}
use Rattle.issuer_base.specs.declared.request.Parts.{Parts}
use Rattle.issuer_base.specs.CardNames.{named}
use Rattle.card_history.specs.Records.{card_of}
use Rattle.key_derive.specs.SessionKey.{session_sm}
use Rattle.card_model.specs.declared.card.TheConstants.{LAST_COUNTER}
use Rattle.card_model.specs.declared.terminal.Terminal.{Terminal}
use Rattle.card_model.specs.Application.{CardState, script_results, application_data, next_fields, next_request, is_answer}
use Rattle.card_model.specs.CardSteps.{CardStep, Tap, Authenticate, Run, tapped, answered_at, authenticated, command_at, after_command, after_opening}
use Rattle.card_model.specs.CardSteps.{opened_within, with_open, with_answer, with_command, with_failure}
use Rattle.world_net.proofs.CardLaw.{Carries}

-- the request that a card makes is the next one, and the card has it open
pub tap-opens : (card : CardState) (terminal : Terminal) (request : Parts) (moved : CardState) → CardStep card (Tap terminal (Some request)) moved
    → (request ≡ next_request card terminal) × (moved ≡ with_open card request)
unfolding CardStep tapped
tap-opens card terminal request moved step =
    elim (cases_Bool (card.atc == LAST_COUNTER)) [
      | inl last ↦
          let none : Some request ≡ None = ap (λ (p : Option Parts × CardState). p.0) (step ∙ cond-true _ _ _ last) in
          absurd (none-some request (sym none))
      | inr more ↦
          let opens = step ∙ cond-false _ _ _ more in
          let same : request ≡ next_request card terminal = same_Some _ _ (ap (λ (p : Option Parts × CardState). p.0) opens) in
          (same, ap (λ (p : Option Parts × CardState). p.1) opens ∙ ap (with_open card) (sym same))
    ]

-- it has the next counter
next-counter : (card : CardState) (terminal : Terminal) → (next_request card terminal).atc ≡ card.atc + 1
unfolding next_request next_fields
next-counter card terminal = refl

-- it is of the card
next-named : (card : CardState) (terminal : Terminal) → card_of (next_request card terminal) ≡ named card.pan card.psn
unfolding next_request next_fields
next-named card terminal = refl

register-read : (card : CardState) (terminal : Terminal) → last_online (next_request card terminal) ≡ 256 * (card.register / 256) + card.register % 256
unfolding last_online next_request next_fields application_data
register-read card terminal = refl

count-read : (card : CardState) (terminal : Terminal) → script_count (next_request card terminal) ≡ script_results card / 16
unfolding script_count cvr next_request next_fields application_data
count-read card terminal = refl

count-kept : (count : ℕ) (failed : Bool) → (16 * count + cond failed 8 0) / 16 ≡ count
count-kept count true = omega arith
count-kept count false = omega arith

results-counted : (card : CardState) → script_results card / 16 ≡ card.count
unfolding script_results
results-counted card = count-kept card.count card.failed

-- and it carries the card's register and count
next-carries : (card : CardState) (terminal : Terminal) → Carries card.register card.count (next_request card terminal)
next-carries card terminal = record {
  register_is = register-read card terminal ∙ div-add-mod card.register 256;
  count_is = count-read card terminal ∙ results-counted card;
}

-- what a tap makes of a card
pub record IsTapped (card : CardState) (request : Parts) (moved : CardState) : Type 0 where
  pub moved_is : moved ≡ with_open card request
  pub counter : request.atc ≡ card.atc + 1
  pub its : card_of request ≡ named card.pan card.psn
  pub carries : Carries card.register card.count request

pub tap-moves : (card : CardState) (terminal : Terminal) (request : Parts) (moved : CardState) → CardStep card (Tap terminal (Some request)) moved
    → IsTapped card request moved
tap-moves card terminal request moved step =
    let opens = tap-opens card terminal request moved step in
    record {
      moved_is = opens.1;
      counter = ap (λ (p : Parts). p.atc) opens.0 ∙ next-counter card terminal;
      its = ap card_of opens.0 ∙ next-named card terminal;
      carries = subst (Carries card.register card.count) (sym opens.0) (next-carries card terminal);
    }

-- what the issuer's answer makes of a card that found it right
pub record HasAnswer (card : CardState) (moved : CardState) : Type 0 where
  pub request : Parts
  pub opened : card.open_request ≡ Some request
  pub unanswered : card.chain ≡ None
  pub moved_is : moved ≡ with_answer card request

right-cases : (asked : Option Parts) (chained : Option (List ℕ)) (card : CardState) (value arc : List ℕ) (moved : CardState)
    → (true, moved) ≡ answered_at asked chained card value arc
    → (request : Parts) × (asked ≡ Some request) × (chained ≡ None) × (moved ≡ with_answer card request)
unfolding answered_at
right-cases None chained card value arc moved step = absurd (true≢false (ap (λ (p : Bool × CardState). p.0) step))
right-cases (Some request) (Some chain) card value arc moved step = absurd (true≢false (ap (λ (p : Bool × CardState). p.0) step))
right-cases (Some request) None card value arc moved step =
    elim (cases_Bool (is_answer card request value arc)) [
      | inl right ↦ (request, refl, refl, ap (λ (p : Bool × CardState). p.1) (step ∙ cond-true _ _ _ right))
      | inr wrong ↦ absurd (true≢false (ap (λ (p : Bool × CardState). p.0) (step ∙ cond-false _ _ _ wrong)))
    ]

pub right-moves : (card : CardState) (value arc : List ℕ) (moved : CardState) → CardStep card (Authenticate value arc true) moved → HasAnswer card moved
unfolding CardStep authenticated
right-moves card value arc moved step =
    let it = right-cases card.open_request card.chain card value arc moved step in
    record { request = it.0; opened = it.1; unanswered = it.2; moved_is = it.3 }

wrong-cases : (asked : Option Parts) (chained : Option (List ℕ)) (card : CardState) (value arc : List ℕ) (moved : CardState)
    → (false, moved) ≡ answered_at asked chained card value arc → moved ≡ card
unfolding answered_at
wrong-cases None chained card value arc moved step = ap (λ (p : Bool × CardState). p.1) step
wrong-cases (Some request) (Some chain) card value arc moved step = ap (λ (p : Bool × CardState). p.1) step
wrong-cases (Some request) None card value arc moved step =
    elim (cases_Bool (is_answer card request value arc)) [
      | inl right ↦ absurd (false≢true (ap (λ (p : Bool × CardState). p.0) (step ∙ cond-true _ _ _ right)))
      | inr wrong ↦ ap (λ (p : Bool × CardState). p.1) (step ∙ cond-false _ _ _ wrong)
    ]

-- any other answer leaves it
pub wrong-stays : (card : CardState) (value arc : List ℕ) (moved : CardState) → CardStep card (Authenticate value arc false) moved → moved ≡ card
unfolding CardStep authenticated
wrong-stays card value arc moved step = wrong-cases card.open_request card.chain card value arc moved step

-- what a script command makes of a card that ran it
pub record HasRun (card : CardState) (moved : CardState) : Type 0 where
  pub request : Parts
  pub chain : List ℕ
  pub command : Command
  pub next : List ℕ
  pub opened : card.open_request ≡ Some request
  pub answered : card.chain ≡ Some chain
  pub moved_is : moved ≡ with_command card command next

opening-true : (card : CardState) (opened : Option (Command × List ℕ)) (moved : CardState) → (true, moved) ≡ after_opening card opened
    → (command : Command) × (next : List ℕ) × (moved ≡ with_command card command next)
unfolding after_opening
opening-true card None moved step = absurd (true≢false (ap (λ (p : Bool × CardState). p.0) step))
opening-true card (Some (command, next)) moved step = (command, next, ap (λ (p : Bool × CardState). p.1) step)

opening-false : (card : CardState) (opened : Option (Command × List ℕ)) (moved : CardState) → (false, moved) ≡ after_opening card opened
    → moved ≡ with_failure card
unfolding after_opening
opening-false card None moved step = ap (λ (p : Bool × CardState). p.1) step
opening-false card (Some (command, next)) moved step = absurd (false≢true (ap (λ (p : Bool × CardState). p.0) step))

ran-cases : (asked : Option Parts) (chained : Option (List ℕ)) (card : CardState) (bytes : List ℕ) (moved : CardState)
    → (true, moved) ≡ command_at asked chained card bytes
    → (request : Parts) × (chain : List ℕ) × (command : Command) × (next : List ℕ) × (asked ≡ Some request) × (chained ≡ Some chain)
    × (moved ≡ with_command card command next)
unfolding command_at
ran-cases None chained card bytes moved step = absurd (true≢false (ap (λ (p : Bool × CardState). p.0) step))
ran-cases (Some request) None card bytes moved step = absurd (true≢false (ap (λ (p : Bool × CardState). p.0) step))
ran-cases (Some request) (Some chain) card bytes moved step =
    let it = opening-true card (opened_within card.count card.keys.suite (session_sm card.keys.suite card.keys.smi.0 request.ac) chain bytes) moved step in
    (request, chain, it.0, it.1, refl, refl, it.2)

pub ran-moves : (card : CardState) (bytes : List ℕ) (moved : CardState) → CardStep card (Run bytes true) moved → HasRun card moved
unfolding CardStep after_command
ran-moves card bytes moved step =
    let it = ran-cases card.open_request card.chain card bytes moved step in
    record { request = it.0; chain = it.1; command = it.2; next = it.3; opened = it.4; answered = it.5; moved_is = it.6 }

refused-cases : (asked : Option Parts) (chained : Option (List ℕ)) (card : CardState) (bytes : List ℕ) (moved : CardState)
    → (false, moved) ≡ command_at asked chained card bytes → (moved ≡ card) ⊎ (moved ≡ with_failure card)
unfolding command_at
refused-cases None chained card bytes moved step = inl (ap (λ (p : Bool × CardState). p.1) step)
refused-cases (Some request) None card bytes moved step = inl (ap (λ (p : Bool × CardState). p.1) step)
refused-cases (Some request) (Some chain) card bytes moved step =
    inr (opening-false card (opened_within card.count card.keys.suite (session_sm card.keys.suite card.keys.smi.0 request.ac) chain bytes) moved step)

-- any other leaves it, or is noted as a failure
pub refused-moves : (card : CardState) (bytes : List ℕ) (moved : CardState) → CardStep card (Run bytes false) moved
    → (moved ≡ card) ⊎ (moved ≡ with_failure card)
unfolding CardStep after_command
refused-moves card bytes moved step = refused-cases card.open_request card.chain card bytes moved step

-- what a card was issued with stays
pub record IsSameCard (card moved : CardState) : Type 0 where
  pub pan_is : moved.pan ≡ card.pan
  pub psn_is : moved.psn ≡ card.psn

same-open : (card : CardState) (request : Parts) → IsSameCard card (with_open card request)
unfolding with_open
same-open card request = record { pan_is = refl; psn_is = refl }

same-answer : (card : CardState) (request : Parts) → IsSameCard card (with_answer card request)
unfolding with_answer
same-answer card request = record { pan_is = refl; psn_is = refl }

same-command : (card : CardState) (command : Command) (next : List ℕ) → IsSameCard card (with_command card command next)
unfolding with_command
same-command card command next = record { pan_is = refl; psn_is = refl }

same-failure : (card : CardState) → IsSameCard card (with_failure card)
unfolding with_failure
same-failure card = record { pan_is = refl; psn_is = refl }

same-card : (card : CardState) → IsSameCard card card
same-card card = record { pan_is = refl; psn_is = refl }

pub tap-same : (card : CardState) (terminal : Terminal) (request : Parts) (moved : CardState) → CardStep card (Tap terminal (Some request)) moved
    → IsSameCard card moved
tap-same card terminal request moved step =
    subst (IsSameCard card) (sym (tap-opens card terminal request moved step).1) (same-open card request)

pub answer-same : (card : CardState) (value arc : List ℕ) (right : Bool) (moved : CardState) → CardStep card (Authenticate value arc right) moved
    → IsSameCard card moved
answer-same card value arc true moved step =
    let it = right-moves card value arc moved step in subst (IsSameCard card) (sym it.moved_is) (same-answer card it.request)
answer-same card value arc false moved step = subst (IsSameCard card) (sym (wrong-stays card value arc moved step)) (same-card card)

pub run-same : (card : CardState) (bytes : List ℕ) (right : Bool) (moved : CardState) → CardStep card (Run bytes right) moved → IsSameCard card moved
run-same card bytes true moved step =
    let it = ran-moves card bytes moved step in subst (IsSameCard card) (sym it.moved_is) (same-command card it.command it.next)
run-same card bytes false moved step =
    elim (refused-moves card bytes moved step) [
      | inl same ↦ subst (IsSameCard card) (sym same) (same-card card)
      | inr failed ↦ subst (IsSameCard card) (sym failed) (same-failure card)
    ]
