-- What a parsed line asks: its card is the issuer's, and what it asks may be recorded.
use Rattle.std.proofs.Common.{◌≡◌, ◌≤◌, ℕ, List, Bool, true, false, Option, None, Some, Result, Ok, Err, if◌then◌else◌, refl, sym, ap, ap₂, subst, ◌∙◌, IsTrue}
use Rattle.std.proofs.lemmas.Bool.{true≢false}
use Rattle.issuer_base.specs.declared.command.Command.{Command}
use Rattle.issuer_base.specs.declared.limits.TheConstants.{MAX_STATUS}
use Rattle.issuer_base.specs.declared.request.Request.{Request}
use Rattle.issuer_base.specs.declared.answer.Refusal.{Refusal}
use Rattle.issuer_base.specs.declared.answer.Refusal.TheVariants.{StoreFault, Pending, NotArqc, BadCryptogram}
use Rattle.issuer_base.specs.ScriptCommand.{is_command}
use Rattle.issuer_base.specs.ChipData.{is_arqc}
use Rattle.card_history.specs.declared.decision.Asked.{Asked}
use Rattle.card_history.specs.declared.decision.Asked.TheVariants.{Decide, Queue, Status}
use Rattle.issuer_base.specs.CardNames.{CardName, named}
use Rattle.card_history.specs.Records.{card_of}
use Rattle.chip_request.specs.declared.line.LineKind.{LineKind}
use Rattle.chip_request.specs.declared.line.LineKind.TheVariants.{Ask, Queue as IsQueue, Set as IsSet}
use Rattle.chip_request.specs.declared.reading.RequestFault.{RequestFault}
use Rattle.chip_request.specs.declared.reading.RequestFault.TheVariants.{BadTlv, Missing, BadField, Repeated}
use Rattle.chip_request.specs.LineParts.{line_of}
use Rattle.chip_request.specs.Lines.{ReadsAs}
use Rattle.chip_request.specs.Reading.{request_of}
use Rattle.chip_request.proofs.LineLaws.{line_reads}
use Rattle.key_derive.specs.declared.card.CardKeys.{CardKeys}
use Rattle.script_commands.specs.Commands.{command_of}
use Rattle.script_commands.proofs.Forms.{command_of-Some}
use Rattle.issuer_setup.specs.CardList.{number_of}
use Rattle.issuer_setup.specs.IssuerSetup.{Setup, keys_of, shard_of}
use Rattle.issuer_setup.proofs.Shards.{shard_of-known}
use Rattle.line_checks.specs.Reading.{checked, checked_data, of_card, under_keys, is_right, command_for, status_for, said_by, reading}
use Rattle.shard_book.specs.Grounds.{IsCardOfShard}
use Rattle.shard_book.proofs.Adopted.{checked-own}

-- a known card is one of its shard's
card-home : (issuer : Setup) (name : CardName) (number : ℕ) → number_of name issuer.cards ≡ Some number → IsCardOfShard issuer (shard_of issuer name) name
card-home issuer name number known = record { number = number; number_is = known; home = sym (shard_of-known issuer name number known) }

-- ---- requests

-- a request that may be recorded in the shard of its card
pub record AsksRequest (issuer : Setup) (request : Request) : Type 0 where
  pub home : IsCardOfShard issuer (shard_of issuer (card_of request)) (card_of request)
  pub passes : checked issuer request ≡ Ok (Decide request)

home-of : (issuer : Setup) (request other : Request) (found : Option ℕ) → number_of (card_of request) issuer.cards ≡ found
    → of_card issuer found request ≡ Ok (Decide other) → IsCardOfShard issuer (shard_of issuer (card_of request)) (card_of request)
home-of issuer request other None is passes = absurd (cc)
home-of issuer request other (Some number) is passes = card-home issuer (card_of request) number is

checked-asks : (issuer : Setup) (request other : Request) → checked issuer request ≡ Ok (Decide other) → AsksRequest issuer other
checked-asks issuer request other passes =
    let same = checked-own issuer request other passes in
    subst (AsksRequest issuer) (sym same) (record {
      home = home-of issuer request other (number_of (card_of request) issuer.cards) refl passes;
      passes = passes ∙ ap (λ (request : Request). Ok (Decide request)) same;
    })

data-asks : (issuer : Setup) (data_says : Result Request RequestFault) (request : Request) → checked_data issuer data_says ≡ Ok (Decide request)
    → AsksRequest issuer request
data-asks issuer (Err fault) request passes = absurd (cc)
data-asks issuer (Ok given) request passes = checked-asks issuer given request passes

command-no_request : (name : CardName) (found : Option ℕ) (given : Option Command) (request : Request) → command_for name found given ≡ Ok (Decide request) → ⊥
command-no_request name None given request passes = cc
command-no_request name (Some card) None request passes = cc
command-no_request name (Some card) (Some command) request passes = cc

status-no_request : (name : CardName) (found : Option ℕ) (status : ℕ) (request : Request) → status_for name found status ≡ Ok (Decide request) → ⊥
status-no_request name None status request passes = cc
status-no_request name (Some card) status request passes = cc

said-request : (issuer : Setup) (says : Result LineKind ℕ) (request : Request) → said_by issuer says ≡ Ok (Decide request) → AsksRequest issuer request
said-request issuer (Err column) request passes = absurd (cc)
said-request issuer (Ok (Ask bytes)) request passes = data-asks issuer (request_of bytes.items) request passes
said-request issuer (Ok (IsQueue pan psn bytes)) request passes =
    absurd (command-no_request (named pan psn) (number_of (named pan psn) issuer.cards) (command_of bytes.items) request passes)
said-request issuer (Ok (IsSet pan psn status)) request passes =
    absurd (status-no_request (named pan psn) (number_of (named pan psn) issuer.cards) status request passes)

pub asks-request : (issuer : Setup) (line : List ℕ) (request : Request) → reading issuer line ≡ Ok (Decide request) → AsksRequest issuer request
asks-request issuer line request read = said-request issuer (line_of line) request read

-- ---- commands and statuses

right-only : (right : Bool) (request : Request) (asked : Asked)
    → (let says : Result Asked Refusal = if right then Ok (Decide request) else Err BadCryptogram in says) ≡ Ok asked → asked ≡ Decide request
right-only true request asked passes = cc
right-only false request asked passes = absurd (cc)

keys-only : (keys : Option CardKeys) (request : Request) (asked : Asked) → under_keys keys request ≡ Ok asked → asked ≡ Decide request
keys-only None request asked passes = absurd (cc)
keys-only (Some keys) request asked passes = right-only (is_right keys request) request asked passes

arqc-only : (arqc : Bool) (keys : Option CardKeys) (request : Request) (asked : Asked)
    → (if arqc then under_keys keys request else Err NotArqc) ≡ Ok asked → asked ≡ Decide request
arqc-only false keys request asked passes = absurd (cc)
arqc-only true keys request asked passes = keys-only keys request asked passes

card-only : (issuer : Setup) (found : Option ℕ) (request : Request) (asked : Asked) → of_card issuer found request ≡ Ok asked → asked ≡ Decide request
card-only issuer None request asked passes = absurd (cc)
card-only issuer (Some number) request asked passes = arqc-only (is_arqc request) (keys_of issuer number request) request asked passes

-- chip data ask for a decision alone
data-only : (issuer : Setup) (says : Result Request RequestFault) (asked : Asked) → checked_data issuer says ≡ Ok asked
    → (request : Request) × (asked ≡ Decide request)
data-only issuer (Err fault) asked passes = absurd (cc)
data-only issuer (Ok request) asked passes = (request, card-only issuer (number_of (card_of request) issuer.cards) request asked passes)

-- a command that may wait for a card of the issuer
pub record AsksCommand (issuer : Setup) (name : CardName) (command : Command) : Type 0 where
  pub home : IsCardOfShard issuer (shard_of issuer name) name
  pub form : IsTrue (is_command command)

command-asks : (issuer : Setup) (given : CardName) (found : Option ℕ) (bytes : List ℕ) (read : Option Command) (pan : List ℕ) (psn : ℕ) (command : Command)
    → number_of given issuer.cards ≡ found → command_of bytes ≡ read → command_for given found read ≡ Ok (Queue pan psn command)
    → AsksCommand issuer (named pan psn) command
command-asks issuer given None bytes read pan psn command found_is read_is passes = absurd (cc)
command-asks issuer given (Some number) bytes None pan psn command found_is read_is passes = absurd (cc)
command-asks issuer given (Some number) bytes (Some its) pan psn command found_is read_is passes =
    let pans : given.pan ≡ pan = cc in
    let psns : given.psn ≡ psn = cc in
    let same_name : given ≡ named pan psn = ap₂ named pans psns in
    let same : its ≡ command = cc in
    record {
      home = subst (λ (name : CardName). IsCardOfShard issuer (shard_of issuer name) name) same_name (card-home issuer given number found_is);
      form = subst (λ (command : Command). IsTrue (is_command command)) same (command_of-Some bytes its read_is).form;
    }

status-no_command : (name : CardName) (found : Option ℕ) (status : ℕ) (pan : List ℕ) (psn : ℕ) (command : Command)
    → status_for name found status ≡ Ok (Queue pan psn command) → ⊥
status-no_command name None status pan psn command passes = cc
status-no_command name (Some card) status pan psn command passes = cc

said-command : (issuer : Setup) (says : Result LineKind ℕ) (pan : List ℕ) (psn : ℕ) (command : Command) → said_by issuer says ≡ Ok (Queue pan psn command)
    → AsksCommand issuer (named pan psn) command
said-command issuer (Err column) pan psn command passes = absurd (cc)
said-command issuer (Ok (Ask bytes)) pan psn command passes =
    let its = data-only issuer (request_of bytes.items) (Queue pan psn command) passes in
    let no : Queue pan psn command ≡ Decide its.0 = its.1 in absurd (cc)
said-command issuer (Ok (IsQueue given number bytes)) pan psn command passes =
    command-asks issuer (named given number) (number_of (named given number) issuer.cards) bytes.items (command_of bytes.items) pan psn command refl refl passes
said-command issuer (Ok (IsSet given number status)) pan psn command passes =
    absurd (status-no_command (named given number) (number_of (named given number) issuer.cards) status pan psn command passes)

pub asks-command : (issuer : Setup) (line : List ℕ) (pan : List ℕ) (psn : ℕ) (command : Command) → reading issuer line ≡ Ok (Queue pan psn command)
    → AsksCommand issuer (named pan psn) command
asks-command issuer line pan psn command read = said-command issuer (line_of line) pan psn command read

-- a status that a card of the issuer may have
pub record AsksStatus (issuer : Setup) (name : CardName) (status : ℕ) : Type 0 where
  pub home : IsCardOfShard issuer (shard_of issuer name) name
  pub within : status ≤ MAX_STATUS

status-asks : (issuer : Setup) (given : CardName) (found : Option ℕ) (its : ℕ) (pan : List ℕ) (psn status : ℕ) → number_of given issuer.cards ≡ found
    → its ≤ MAX_STATUS → status_for given found its ≡ Ok (Status pan psn status) → AsksStatus issuer (named pan psn) status
status-asks issuer given None its pan psn status found_is within passes = absurd (cc)
status-asks issuer given (Some number) its pan psn status found_is within passes =
    let pans : given.pan ≡ pan = cc in
    let psns : given.psn ≡ psn = cc in
    let same_name : given ≡ named pan psn = ap₂ named pans psns in
    let same : its ≡ status = cc in
    record {
      home = subst (λ (name : CardName). IsCardOfShard issuer (shard_of issuer name) name) same_name (card-home issuer given number found_is);
      within = subst (λ status. status ≤ MAX_STATUS) same within;
    }

command-no_status : (name : CardName) (found : Option ℕ) (given : Option Command) (pan : List ℕ) (psn status : ℕ)
    → command_for name found given ≡ Ok (Status pan psn status) → ⊥
command-no_status name None given pan psn status passes = cc
command-no_status name (Some card) None pan psn status passes = cc
command-no_status name (Some card) (Some command) pan psn status passes = cc

said-status : (issuer : Setup) (line : List ℕ) (says : Result LineKind ℕ) (pan : List ℕ) (psn status : ℕ) → ReadsAs line says
    → said_by issuer says ≡ Ok (Status pan psn status) → AsksStatus issuer (named pan psn) status
said-status issuer line (Err column) pan psn status reads passes = absurd (cc)
said-status issuer line (Ok (Ask bytes)) pan psn status reads passes =
    let its = data-only issuer (request_of bytes.items) (Status pan psn status) passes in
    let no : Status pan psn status ≡ Decide its.0 = its.1 in absurd (cc)
said-status issuer line (Ok (IsQueue given number bytes)) pan psn status reads passes =
    absurd (command-no_status (named given number) (number_of (named given number) issuer.cards) (command_of bytes.items) pan psn status passes)
said-status issuer line (Ok (IsSet given number its)) pan psn status reads passes =
    status-asks issuer (named given number) (number_of (named given number) issuer.cards) its pan psn status refl reads.2 passes

pub asks-status : (issuer : Setup) (line : List ℕ) (pan : List ℕ) (psn status : ℕ) → reading issuer line ≡ Ok (Status pan psn status)
    → AsksStatus issuer (named pan psn) status
asks-status issuer line pan psn status read = said-status issuer line (line_of line) pan psn status (line_reads line) read

-- ---- refusals

-- whether it is a refusal for what other callers or a store do
abbrev is_at_turn : Result Asked Refusal → Bool
is_at_turn (Err Pending) = true
is_at_turn (Err StoreFault) = true
is_at_turn _ = false

right-read : (right : Bool) (request : Request) → is_at_turn (if right then Ok (Decide request) else Err BadCryptogram) ≡ false
right-read true request = refl
right-read false request = refl

keys-read : (keys : Option CardKeys) (request : Request) → is_at_turn (under_keys keys request) ≡ false
keys-read None request = refl
keys-read (Some keys) request = right-read (is_right keys request) request

arqc-read : (arqc : Bool) (keys : Option CardKeys) (request : Request) → is_at_turn (if arqc then under_keys keys request else Err NotArqc) ≡ false
arqc-read false keys request = refl
arqc-read true keys request = keys-read keys request

card-read : (issuer : Setup) (found : Option ℕ) (request : Request) → is_at_turn (of_card issuer found request) ≡ false
card-read issuer None request = refl
card-read issuer (Some number) request = arqc-read (is_arqc request) (keys_of issuer number request) request

data-read : (issuer : Setup) (says : Result Request RequestFault) → is_at_turn (checked_data issuer says) ≡ false
data-read issuer (Err (BadTlv place)) = refl
data-read issuer (Err (Missing tag)) = refl
data-read issuer (Err (BadField tag)) = refl
data-read issuer (Err (Repeated tag)) = refl
data-read issuer (Ok request) = card-read issuer (number_of (card_of request) issuer.cards) request

command-read : (name : CardName) (found : Option ℕ) (given : Option Command) → is_at_turn (command_for name found given) ≡ false
command-read name None given = refl
command-read name (Some card) None = refl
command-read name (Some card) (Some command) = refl

status-read : (name : CardName) (found : Option ℕ) (status : ℕ) → is_at_turn (status_for name found status) ≡ false
status-read name None status = refl
status-read name (Some card) status = refl

said-read : (issuer : Setup) (says : Result LineKind ℕ) → is_at_turn (said_by issuer says) ≡ false
said-read issuer (Err column) = refl
said-read issuer (Ok (Ask bytes)) = data-read issuer (request_of bytes.items)
said-read issuer (Ok (IsQueue pan psn bytes)) = command-read (named pan psn) (number_of (named pan psn) issuer.cards) (command_of bytes.items)
said-read issuer (Ok (IsSet pan psn status)) = status-read (named pan psn) (number_of (named pan psn) issuer.cards) status

-- no request is refused for a fault of a store as it is checked
pub checked-no_store : (issuer : Setup) (request : Request) → checked issuer request ≡ Err StoreFault → ⊥
checked-no_store issuer request read =
    true≢false (sym (ap is_at_turn read) ∙ card-read issuer (number_of (card_of request) issuer.cards) request)

-- no line is refused for a fault of a store as it is read
pub asks-no_store : (issuer : Setup) (line : List ℕ) → reading issuer line ≡ Err StoreFault → ⊥
asks-no_store issuer line read = true≢false (sym (ap is_at_turn read) ∙ said-read issuer (line_of line))

-- nor for an ATC that is pending
pub asks-no_pending : (issuer : Setup) (line : List ℕ) → reading issuer line ≡ Err Pending → ⊥
asks-no_pending issuer line read = true≢false (sym (ap is_at_turn read) ∙ said-read issuer (line_of line))
