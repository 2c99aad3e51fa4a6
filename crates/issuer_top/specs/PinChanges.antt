-- How a run ends that writes a change of a PIN.
use Rattle.std.specs.Prelude.{◌≡◌, ℕ, ◌<◌, ◌⊎◌, List, Option, None, Some, IsSomeAnd, Result, Ok, Err}
use Rattle.std.specs.Option.{option_and_then}
use Rattle.issuer_base.specs.OutsideFaults.{Rose}
use Rattle.answer_text.specs.QueueText.{queue_text}
use Rattle.answer_text.specs.StopText.{status_of_stop, stop_text}
use Rattle.answer_text.specs.declared.stop_line.Stop.{Stop}
use Rattle.answer_text.specs.declared.stop_line.Stop.TheVariants.{NoKey}
use Rattle.des_block.specs.declared.Key16.{Key16}
use Rattle.key_derive.specs.declared.card.KeySet.{KeySet}
use Rattle.key_derive.specs.CardKey.{card_smc}
use Rattle.secure_msg.specs.PinChange.{pin_command}
use Rattle.card_history.specs.declared.decision.Asked.TheVariants.{Queue}
use Rattle.line_reader.specs.Lines.{ended}
use Rattle.line_checks.specs.Reading.{reading}
use Rattle.issuer_setup.specs.CardList.{number_of}
use Rattle.issuer_setup.specs.IssuerSetup.{Setup}
use Rattle.issuer_setup.specs.KeyList.{key_of}
use Rattle.config_read.specs.Configuration.{configured}
use Rattle.command_line.specs.Command.{PinOrder, IsPin}
use Rattle.desk_host.specs.SeenStores.{no_journals}
use Rattle.issuer_top.specs.Opened.{OpenedConfigOnly}
use Rattle.issuer_top.specs.Opening.{SaysIssuer}
use Rattle.issuer_top.specs.Stopping.{GivesStop, GivesText}
use Rattle.issuer_top.specs.Seen.{Seen}
use Rattle.issuer_top.specs.Stops.{StopsAtConfig}
use Rattle.issuer_top.specs.Ways.{Ways, Runs}
use Rattle.issuer_top.specs.declared.ending.Ending.{Ending}

-- the master key for confidentiality of the order's card under a key set, if the card exists and the set has the
-- issuer's
abbrev pub smc_under : PinOrder → Option ℕ → Option KeySet → Option Key16
smc_under order None set = None
smc_under order (Some card) set = option_and_then (λ set. card_smc set order.pan order.psn) set

-- that under the key set of the order's derivation key index
abbrev pub smc_for : Setup → PinOrder → Option Key16
smc_for issuer order =
    smc_under order (number_of (record { pan = order.pan; psn = order.psn }) issuer.cards)
    (key_of order.dki issuer.keys)

-- the line that queues the change of the PIN for the card that has this key
abbrev pub change_text : PinOrder → Key16 → List ℕ
change_text order smc = queue_text order.pan order.psn (pin_command smc.0 order.salt order.pin)

-- the line of an order, or why there is none: no card has its numbers, no key set its index, or that set no such key
abbrev pub change_by : PinOrder → Option Key16 → Result (List ℕ) Stop
change_by order None = Err NoKey
change_by order (Some smc) = Ok (change_text order smc)

abbrev pub changing : Setup → PinOrder → Result (List ℕ) Stop
changing issuer order = change_by order (smc_for issuer order)

-- the text is a line, and with this issuer `serve` takes that line for the change of the order's PIN on its card, under
-- the card's key
pub record IsReadAsChange (issuer : Setup) (order : PinOrder) (text : List ℕ) : Type 0 where
  pub line : List ℕ
  pub line_is : text ≡ ended line
  pub smc : Key16
  pub smc_is : smc_for issuer order ≡ Some smc
  pub read : reading issuer line ≡ Ok (Queue order.pan order.psn (pin_command smc.0 order.salt order.pin))

-- the sink was given the line, or the last line of a run that stops
abbrev pub ChangesBy : Result (List ℕ) Stop → Option (List ℕ) → Option (List ℕ) → ℕ → ℕ → Ending → Type 0
ChangesBy (Ok text) held_before held_after faults_before faults_after ending =
    GivesText held_before held_after faults_before faults_after text ending
ChangesBy (Err stop) held_before held_after faults_before faults_after ending =
    GivesStop held_before held_after faults_before faults_after stop ending

-- the status of a run that writes a change of a PIN, unless the sink fails
abbrev pub change_status : Result (List ℕ) Stop → ℕ
change_status (Ok text) = 0
change_status (Err stop) = status_of_stop stop

-- ---- the ways to end

-- the order's configuration alone was opened, and says this issuer
pub record IsOrdered (order : PinOrder) (issuer : Setup) (seen : Seen) : Type 0 where
  pub opened : OpenedConfigOnly seen
  pub none_opened : seen.journals ≡ no_journals
  pub said : SaysIssuer seen order.config issuer

-- status 0: the line that queues a change of a PIN is the text, and `serve` reads it as that change
pub record IsChanged (order : PinOrder) (seen : Seen) (text : List ℕ) : Type 0 where
  pub issuer : Setup
  pub ordered : IsOrdered order issuer seen
  pub text_is : changing issuer order ≡ Ok text
  pub read : IsReadAsChange issuer order text

-- status 12: no card has the order's numbers, no key set its index, or that set no master key for confidentiality
pub record HasNoKey (order : PinOrder) (seen : Seen) (text : List ℕ) : Type 0 where
  pub issuer : Setup
  pub ordered : IsOrdered order issuer seen
  pub cause : changing issuer order ≡ Err NoKey
  pub last : text ≡ stop_text NoKey

-- how a run stops once its configuration gave an issuer
abbrev pub StopsToChange : PinOrder → Seen → Stop → List ℕ → Type 0
StopsToChange order seen NoKey text = HasNoKey order seen text
StopsToChange order seen stop text = ⊥

abbrev pub ways_to_change : PinOrder → Seen → Ways
ways_to_change order seen = record {
  IsDone = IsChanged order seen;
  Stops = λ stop text. StopsAtConfig order.config seen stop text ⊎ StopsToChange order seen stop text;
  IsDue = IsChanged order seen;
}

-- ---- the command

-- the desk tells of an issuer that has the card and the key, and no count rose
pub record ChangesInOrder (order : PinOrder) (seen : Seen) : Type 0 where
  pub content : List ℕ
  pub issuer : Setup
  pub line : List ℕ
  pub config_held : seen.desk.tells order.config ≡ Some (Some content)
  pub says : configured content ≡ Ok issuer
  pub has_key : changing issuer order ≡ Ok line
  pub desk_stood : Rose seen.desk.faults_before seen.desk.faults_after → ⊥
  pub config_stood : IsSomeAnd seen.config (λ input. 0 < input.faults) → ⊥
  pub sink_stood : Rose seen.sink.faults_before seen.sink.faults_after → ⊥

-- the configuration gave no issuer: it is broken, it failed, or no memory was left
abbrev pub IsUnread : ℕ → Type 0
IsUnread status = (status ≡ 2) ⊎ ((status ≡ 3) ⊎ (status ≡ 7))

-- the configuration gave an issuer, and the status is 0 or 12, as it has the card and the key or not
abbrev pub IsAnswered : PinOrder → ℕ → Seen → Type 0
IsAnswered order status seen =
    (issuer : Setup) × SaysIssuer seen order.config issuer × (status ≡ change_status (changing issuer order))

-- the run ended in one of its ways: the status is 2, 3 or 7 without an issuer, and then 0 or 12 by the issuer; or 4, and
-- the sink failed. Where all was in order, the change is written, or no memory was left
pub record Changes (order : PinOrder) (status : ℕ) (seen : Seen) : Type 0 where
  pub runs : Runs (ways_to_change order seen) (ChangesInOrder order seen) status seen
  pub status_is : IsUnread status
      ⊎ (IsAnswered order status seen ⊎ ((status ≡ 4) × Rose seen.sink.faults_before seen.sink.faults_after))

-- if the words are the command to change a PIN, with this order, the run ends in one of its ways
abbrev pub RunsPin : List (List ℕ) → ℕ → Seen → Type 0
RunsPin words status seen = (order : PinOrder) → IsPin words order → Changes order status seen
