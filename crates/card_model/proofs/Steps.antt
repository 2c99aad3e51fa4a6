-- The steps of a card, one law for each way that a step can go.
use Rattle.std.proofs.Common.{◌≡◌, ◌≢◌, ℕ, Bool, true, false, ◌&&◌, cond, List, length, take, drop, Option, Some, None, is_some, refl, ap, ap₂, sym, ◌∙◌}
use Rattle.std.proofs.lemmas.Bool.{true≢false, eq-eqb, ne_eqb}
use Rattle.std.specs.Prelude.{nat_le}
use Rattle.std.specs.Str.{bytes_eq}
use Rattle.issuer_base.specs.declared.command.Command.{Command}
use Rattle.issuer_base.specs.declared.request.Parts.{Parts}
use Rattle.issuer_base.specs.declared.request.Suite.{Suite}
use Rattle.key_derive.specs.SuiteKey.{SuiteKey}
use Rattle.key_derive.specs.SessionKey.{session_of, session_sm}
use Rattle.arpc_methods.specs.Arpc.{value91}
use Rattle.card_model.specs.declared.card.TheConstants.{LAST_COUNTER}
use Rattle.card_model.specs.declared.terminal.Terminal.{Terminal}
use Rattle.card_model.specs.Application.{CardState, next_request, is_answer}
use Rattle.card_model.specs.CardSteps.{CardStep, Tap, Authenticate, Run, tapped, answered_at, authenticated, command_at, after_command}
use Rattle.card_model.specs.CardSteps.{after_opening, opened_within, with_open, with_answer, with_command, with_failure}

-- a card at its last counter stays as it is
pub tap-last : (card : CardState) (terminal : Terminal) → card.atc ≡ LAST_COUNTER → CardStep card (Tap terminal None) card
unfolding CardStep tapped
tap-last card terminal last =
    sym (ap (λ at_last. cond at_last (None, card) (Some (next_request card terminal), with_open card (next_request card terminal)))
    (eq-eqb card.atc LAST_COUNTER last))

-- any other card opens its next request
pub tap-next : (card : CardState) (terminal : Terminal) (request : Parts) → card.atc ≢ LAST_COUNTER
    → request ≡ next_request card terminal → CardStep card (Tap terminal (Some request)) (with_open card request)
unfolding CardStep tapped
tap-next card terminal request more is =
    ap (λ next. (Some next, with_open card next)) is
    ∙ sym (ap (λ at_last. cond at_last (None, card) (Some (next_request card terminal), with_open card (next_request card terminal)))
    (ne_eqb card.atc LAST_COUNTER more))

-- a card with no open request finds no answer right
pub answer-closed : (card : CardState) (value arc : List ℕ) → card.open_request ≡ None → CardStep card (Authenticate value arc false) card
unfolding CardStep authenticated answered_at
answer-closed card value arc closed = sym (ap (λ asked. answered_at asked card.chain card value arc) closed)

-- nobody finds a second answer right
answered_at-twice : (request : Parts) (chained : Option (List ℕ)) (card : CardState) (value arc : List ℕ) → is_some chained ≡ true
    → (false, card) ≡ answered_at (Some request) chained card value arc
unfolding answered_at
answered_at-twice request (Some chain) card value arc chained = refl
answered_at-twice request None card value arc chained = absurd (true≢false (sym chained))

-- a card whose open transaction was authenticated finds no answer right
pub answer-twice : (card : CardState) (request : Parts) (value arc : List ℕ) → card.open_request ≡ Some request
    → is_some card.chain ≡ true → CardStep card (Authenticate value arc false) card
unfolding CardStep authenticated
answer-twice card request value arc asked chained =
    answered_at-twice request card.chain card value arc chained
    ∙ sym (ap (λ asked. answered_at asked card.chain card value arc) asked)

-- a card that was not authenticated has no chain
pub no_chain : (chained : Option (List ℕ)) → is_some chained ≡ false → chained ≡ None
no_chain (Some chain) chained = absurd (true≢false chained)
no_chain None chained = refl

-- the answer to a request, under its session key
pub is_answer-under : (card : CardState) (request parts : Parts) (session : SuiteKey) (value arc : List ℕ) (right : Bool) → parts ≡ request
    → session ≡ session_of card.keys parts.atc
    → right ≡ (nat_le 8 (length value) && bytes_eq value (value91 session.suite card.method session.key parts.ac arc (take 4 (drop 4 value))))
    → is_answer card request value arc ≡ right
unfolding is_answer
is_answer-under card request parts session value arc right same key is =
    let with : SuiteKey → List ℕ → Bool = λ k ac. nat_le 8 (length value) && bytes_eq value (value91 k.suite card.method k.key ac arc (take 4 (drop 4 value))) in
    sym (is ∙ ap (λ k. with k parts.ac) key ∙ ap (λ (p : Parts). with (session_of card.keys p.atc) p.ac) same)

-- a card with an open request finds no other value right
pub answer-wrong : (card : CardState) (request : Parts) (value arc : List ℕ) → card.open_request ≡ Some request
    → card.chain ≡ None → is_answer card request value arc ≡ false → CardStep card (Authenticate value arc false) card
unfolding CardStep authenticated answered_at
answer-wrong card request value arc asked unchained wrong =
    sym (ap₂ (λ asked chained. answered_at asked chained card value arc) asked unchained
    ∙ ap (λ right. cond right (true, with_answer card request) (false, card)) wrong)

-- and finds the answer right
pub answer-right : (card : CardState) (request : Parts) (value arc : List ℕ) → card.open_request ≡ Some request
    → card.chain ≡ None → is_answer card request value arc ≡ true → CardStep card (Authenticate value arc true) (with_answer card request)
unfolding CardStep authenticated answered_at
answer-right card request value arc asked unchained right =
    sym (ap₂ (λ asked chained. answered_at asked chained card value arc) asked unchained
    ∙ ap (λ right. cond right (true, with_answer card request) (false, card)) right)

-- a card with no open request runs no command
pub command-closed : (card : CardState) (bytes : List ℕ) → card.open_request ≡ None → CardStep card (Run bytes false) card
unfolding CardStep after_command command_at
command-closed card bytes closed = sym (ap (λ asked. command_at asked card.chain card bytes) closed)

-- a card whose open transaction was not authenticated runs no command
pub command-early : (card : CardState) (request : Parts) (bytes : List ℕ) → card.open_request ≡ Some request
    → card.chain ≡ None → CardStep card (Run bytes false) card
unfolding CardStep after_command command_at
command-early card request bytes asked unchained = sym (ap₂ (λ asked chained. command_at asked chained card bytes) asked unchained)

-- a card at a chain takes what it opens
command-opened : (card : CardState) (request : Parts) (chain bytes : List ℕ) (opened : Option (Command × List ℕ))
    → card.open_request ≡ Some request → card.chain ≡ Some chain
    → opened ≡ opened_within card.count card.keys.suite (session_sm card.keys.suite card.keys.smi.0 request.ac) chain bytes
    → after_opening card opened ≡ after_command card bytes
unfolding after_command command_at
command-opened card request chain bytes opened asked chained is =
    ap (after_opening card) is ∙ sym (ap₂ (λ asked chained. command_at asked chained card bytes) asked chained)

-- what a card opens, under the session key of its request
pub opened-under : (count : ℕ) (suite : Suite) (smi : List ℕ) (request parts : Parts) (key chain bytes : List ℕ) (opened : Option (Command × List ℕ))
    → parts ≡ request → key ≡ session_sm suite smi parts.ac → opened ≡ opened_within count suite key chain bytes
    → opened ≡ opened_within count suite (session_sm suite smi request.ac) chain bytes
opened-under count suite smi request parts key chain bytes opened same is found =
    let with : List ℕ → Option (Command × List ℕ) = λ k. opened_within count suite k chain bytes in
    found ∙ ap with (is ∙ ap (λ (p : Parts). session_sm suite smi p.ac) same)

-- it notes a failure where it opens nothing
pub command-refused : (card : CardState) (request : Parts) (chain bytes : List ℕ)
    → card.open_request ≡ Some request → card.chain ≡ Some chain
    → None ≡ opened_within card.count card.keys.suite (session_sm card.keys.suite card.keys.smi.0 request.ac) chain bytes
    → CardStep card (Run bytes false) (with_failure card)
unfolding CardStep after_opening
command-refused card request chain bytes asked chained is = command-opened card request chain bytes None asked chained is

-- and else runs the command
pub command-ran : (card : CardState) (request : Parts) (chain bytes : List ℕ) (command : Command) (next : List ℕ)
    → card.open_request ≡ Some request → card.chain ≡ Some chain
    → Some (command, next) ≡ opened_within card.count card.keys.suite (session_sm card.keys.suite card.keys.smi.0 request.ac) chain bytes
    → CardStep card (Run bytes true) (with_command card command next)
unfolding CardStep after_opening
command-ran card request chain bytes command next asked chained is =
    command-opened card request chain bytes (Some (command, next)) asked chained is
