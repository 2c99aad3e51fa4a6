-- The steps of a card: a tap at a terminal, the issuer's answer, and an issuer script command.
use Rattle.std.specs.Prelude.{◌≡◌, ℕ, ◌+◌, Bool, true, false, ◌==◌, nat_lt, if◌then◌else◌, List, [], ◌∷◌, ◌++◌, Option}
use Rattle.std.specs.Prelude.{Some, None}
use Rattle.issuer_base.specs.declared.answer.Method.{Method}
use Rattle.issuer_base.specs.declared.command.Command.{Command}
use Rattle.issuer_base.specs.declared.request.Parts.{Parts}
use Rattle.issuer_base.specs.declared.request.Suite.{Suite}
use Rattle.key_derive.specs.declared.card.CardKeys.{CardKeys}
use Rattle.key_derive.specs.SessionKey.{session_sm}
use Rattle.secure_msg.specs.Sealing.{opened_command}
use Rattle.card_model.specs.declared.card.TheConstants.{LAST_COUNTER, MOST_COUNTED}
use Rattle.card_model.specs.declared.terminal.Terminal.{Terminal}
use Rattle.card_model.specs.Application.{CardState, next_request, is_answer}

-- a new card: its ATC, register and count are 0, no transaction is open, and it ran no command
unfoldable pub new_card : List ℕ → ℕ → ℕ → Method → CardKeys → CardState
new_card pan psn dki method keys = record {
  pan = pan;
  psn = psn;
  dki = dki;
  method = method;
  keys = keys;
  atc = 0;
  register = 0;
  count = 0;
  failed = false;
  open_request = None;
  chain = None;
  ran = [];
}

-- the card with this request opened: its ATC is increased, and any open transaction is closed
unfoldable pub with_open : CardState → Parts → CardState
with_open card request = record card { atc = card.atc + 1; open_request = Some request; chain = None }

-- a tap: a card at its last ATC stays as it is; any other opens its next request
unfoldable pub tapped : CardState → Terminal → Option Parts × CardState
tapped card terminal =
    if card.atc == LAST_COUNTER then (None, card)
    else (Some (next_request card terminal), with_open card (next_request card terminal))

-- the card that accepted the issuer's answer to this request: the register is its ATC, the count is 0, and the chain is
-- the request's cryptogram
unfoldable pub with_answer : CardState → Parts → CardState
with_answer card request = record card { register = card.atc; count = 0; failed = false; chain = Some request.ac }

-- the issuer's answer to a card with this open request and this chain: accepted if it answers the open request, and
-- none was yet; else the card stays as it is
unfoldable pub answered_at : Option Parts → Option (List ℕ) → CardState → List ℕ → List ℕ → Bool × CardState
answered_at (Some request) None card value arc =
    if is_answer card request value arc then (true, with_answer card request) else (false, card)
answered_at _ _ card value arc = (false, card)

-- the issuer's answer, with a response code
unfoldable pub authenticated : CardState → List ℕ → List ℕ → Bool × CardState
authenticated card value arc = answered_at card.open_request card.chain card value arc

-- the card that ran a command, and expects the next one at this chain
unfoldable pub with_command : CardState → Command → List ℕ → CardState
with_command card command next = record card {
  count = card.count + 1;
  chain = Some next;
  ran = card.ran ++ command
      ∷ [];
}

-- the card that refused a command
unfoldable pub with_failure : CardState → CardState
with_failure card = record card { failed = true }

-- the command that a card opens at a chain under its session key, and the next chain: none if the count is at its
-- greatest value
unfoldable pub opened_within : ℕ → Suite → List ℕ → List ℕ → List ℕ → Option (Command × List ℕ)
opened_within count suite key chain bytes =
    if nat_lt count MOST_COUNTED then opened_command suite key chain bytes else None

-- a card runs the command that it opened, and sets its failed bit if it opened none
unfoldable pub after_opening : CardState → Option (Command × List ℕ) → Bool × CardState
after_opening card (Some (command, next)) = (true, with_command card command next)
after_opening card None = (false, with_failure card)

-- an issuer script command to a card with this open request and this chain: a card without both stays as it is
unfoldable pub command_at : Option Parts → Option (List ℕ) → CardState → List ℕ → Bool × CardState
command_at (Some request) (Some chain) card bytes =
    after_opening card (opened_within card.count card.keys.suite
    (session_sm card.keys.suite card.keys.smi.0 request.ac) chain bytes)
command_at _ _ card bytes = (false, card)

-- an issuer script command to a card
unfoldable pub after_command : CardState → List ℕ → Bool × CardState
after_command card bytes = command_at card.open_request card.chain card bytes

-- an event of a card, with the card's answer
pub data CardEvent : Type 0 where
  Tap : (terminal : Terminal) (answer : Option Parts) → CardEvent
  Authenticate : (value arc : List ℕ) (answer : Bool) → CardEvent
  Run : (bytes : List ℕ) (answer : Bool) → CardEvent

-- by this event, with its answer, the first state becomes the second
unfoldable pub CardStep : CardState → CardEvent → CardState → Type 0
CardStep card (Tap terminal answer) after = (answer, after) ≡ tapped card terminal
CardStep card (Authenticate value arc answer) after = (answer, after) ≡ authenticated card value arc
CardStep card (Run bytes answer) after = (answer, after) ≡ after_command card bytes
