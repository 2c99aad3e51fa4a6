-- What a step adds to the commands that a card ran.
use Rattle.std.proofs.Common.{◌≡◌, ℕ, ◌-◌, Bool, true, false, cond, ◌==◌, List, [], ◌∷◌, ◌++◌, length, Option, Some, None, refl, ap, ap₂, ◌∙◌, arith, length-append}
use Rattle.std.specs.Prelude.{slice_get}
use Rattle.std.proofs.lemmas.Bool.{true≢false, false≢true}
use Rattle.issuer_base.specs.declared.command.Command.{Command}
use Rattle.issuer_base.specs.declared.request.Parts.{Parts}
use Rattle.key_derive.specs.SessionKey.{session_sm}
use Rattle.card_model.specs.declared.card.TheConstants.{LAST_COUNTER}
use Rattle.card_model.specs.declared.terminal.Terminal.{Terminal}
use Rattle.card_model.specs.Application.{CardState, next_request, is_answer}
use Rattle.card_model.specs.CardSteps.{CardStep, Tap, Authenticate, Run, tapped, answered_at, authenticated, command_at, after_command}
use Rattle.card_model.specs.CardSteps.{after_opening, opened_within, with_open, with_answer, with_command, with_failure}

tapped-ran : (card : CardState) (terminal : Terminal) (at_last : Bool)
    → let after : Option Parts × CardState = cond at_last (None, card) (Some (next_request card terminal), with_open card (next_request card terminal)) in
    after.1.ran ≡ card.ran
unfolding with_open
tapped-ran card terminal true = refl
tapped-ran card terminal false = refl

-- a tap adds none
pub tap-ran : (card after : CardState) (terminal : Terminal) (answer : Option Parts) → CardStep card (Tap terminal answer) after → after.ran ≡ card.ran
unfolding CardStep tapped
tap-ran card after terminal answer step =
    ap (λ (p : Option Parts × CardState). p.1.ran) step ∙ tapped-ran card terminal (card.atc == LAST_COUNTER)

answer-cases : (card : CardState) (request : Parts) (right : Bool)
    → let after : Bool × CardState = cond right (true, with_answer card request) (false, card) in after.1.ran ≡ card.ran
unfolding with_answer
answer-cases card request true = refl
answer-cases card request false = refl

answered-ran : (asked : Option Parts) (chained : Option (List ℕ)) (card : CardState) (value arc : List ℕ)
    → (answered_at asked chained card value arc).1.ran ≡ card.ran
unfolding answered_at
answered-ran None chained card value arc = refl
answered-ran (Some request) (Some chain) card value arc = refl
answered-ran (Some request) None card value arc = answer-cases card request (is_answer card request value arc)

-- nor does an answer
pub answer-ran : (card after : CardState) (value arc : List ℕ) (right : Bool) → CardStep card (Authenticate value arc right) after → after.ran ≡ card.ran
unfolding CardStep authenticated
answer-ran card after value arc right step =
    ap (λ (p : Bool × CardState). p.1.ran) step ∙ answered-ran card.open_request card.chain card value arc

-- one command more was run
pub record RanOneMore (before after : CardState) : Type 0 where
  pub command : Command
  pub ran_is : after.ran ≡ before.ran ++ command ∷ []

opening-ran : (card after : CardState) (opened : Option (Command × List ℕ)) → (true, after) ≡ after_opening card opened → RanOneMore card after
unfolding after_opening with_command
opening-ran card after None step = absurd (true≢false (ap (λ (p : Bool × CardState). p.0) step))
opening-ran card after (Some (command, next)) step = record { command = command; ran_is = ap (λ (p : Bool × CardState). p.1.ran) step }

command-cases : (asked : Option Parts) (chained : Option (List ℕ)) (card after : CardState) (bytes : List ℕ)
    → (true, after) ≡ command_at asked chained card bytes → RanOneMore card after
unfolding command_at
command-cases None chained card after bytes step = absurd (true≢false (ap (λ (p : Bool × CardState). p.0) step))
command-cases (Some request) None card after bytes step = absurd (true≢false (ap (λ (p : Bool × CardState). p.0) step))
command-cases (Some request) (Some chain) card after bytes step =
    opening-ran card after (opened_within card.count card.keys.suite (session_sm card.keys.suite card.keys.smi.0 request.ac) chain bytes) step

-- a command that was run is added
pub command-adds : (card after : CardState) (bytes : List ℕ) → CardStep card (Run bytes true) after → RanOneMore card after
unfolding CardStep after_command
command-adds card after bytes step = command-cases card.open_request card.chain card after bytes step

refused-opening : (card after : CardState) (opened : Option (Command × List ℕ)) → (false, after) ≡ after_opening card opened → after.ran ≡ card.ran
unfolding after_opening with_failure
refused-opening card after None step = ap (λ (p : Bool × CardState). p.1.ran) step
refused-opening card after (Some (command, next)) step = absurd (false≢true (ap (λ (p : Bool × CardState). p.0) step))

refused-cases : (asked : Option Parts) (chained : Option (List ℕ)) (card after : CardState) (bytes : List ℕ)
    → (false, after) ≡ command_at asked chained card bytes → after.ran ≡ card.ran
unfolding command_at
refused-cases None chained card after bytes step = ap (λ (p : Bool × CardState). p.1.ran) step
refused-cases (Some request) None card after bytes step = ap (λ (p : Bool × CardState). p.1.ran) step
refused-cases (Some request) (Some chain) card after bytes step =
    refused-opening card after (opened_within card.count card.keys.suite (session_sm card.keys.suite card.keys.smi.0 request.ac) chain bytes) step

-- any other adds none
pub refused-adds_none : (card after : CardState) (bytes : List ℕ) → CardStep card (Run bytes false) after → after.ran ≡ card.ran
unfolding CardStep after_command
refused-adds_none card after bytes step = refused-cases card.open_request card.chain card after bytes step

pushed : (earlier : List Command) (command : Command) → slice_get (earlier ++ command ∷ []) (length earlier) ≡ Some command
pushed [] command = refl
pushed (first ∷ earlier) command = pushed earlier command

-- the last of some commands
pub last-pushed : (ran earlier : List Command) (command : Command) → ran ≡ earlier ++ command ∷ [] → slice_get ran (length ran - 1) ≡ Some command
last-pushed ran earlier command is =
    let place : length ran - 1 ≡ length earlier = omega (arith, ap length is, length-append earlier (command ∷ [])) in
    ap₂ (λ (commands : List Command) (n : ℕ). slice_get commands n) is place ∙ pushed earlier command
