-- How a run stops before its configuration gives an issuer, and before its journals are loaded.
use Rattle.std.specs.Prelude.{◌≡◌, ℕ, ◌<◌, ◌⊎◌, true, false, List, is_some, IsSomeAnd, Err}
use Rattle.issuer_setup.specs.IssuerSetup.{Setup}
use Rattle.config_read.specs.declared.fault.ConfigFault.{ConfigFault}
use Rattle.answer_text.specs.StopText.{stop_text}
use Rattle.answer_text.specs.declared.stop_line.Stop.{Stop}
use Rattle.answer_text.specs.declared.stop_line.Stop.TheVariants.{Config, ReadFault, NoMemory}
use Rattle.desk_host.specs.Configuration.{config_stop}
use Rattle.desk_host.specs.Left.{LeaveJournals}
use Rattle.desk_host.specs.Loading.{GivesNoHost}
use Rattle.desk_host.specs.SeenStores.{no_journals}
use Rattle.issuer_top.specs.Opened.{OpenedNoInput, OpenedConfigOnly, FailsToOpen}
use Rattle.issuer_top.specs.Opening.{IsConfigured, SaysIssuer}
use Rattle.issuer_top.specs.Seen.{Seen}
use Rattle.issuer_top.specs.Ways.{Ways}

-- ---- the configuration

-- status 2: the configuration is broken, and its place is told; no journal was opened, nor another input
pub record IsConfig (config : List ℕ) (seen : Seen) (stop : Stop) (text : List ℕ) : Type 0 where
  pub fault : ConfigFault
  pub opened : OpenedConfigOnly seen
  pub none_opened : seen.journals ≡ no_journals
  pub broken : IsConfigured (seen.desk.tells config) (Err fault)
  pub stop_is : stop ≡ config_stop fault
  pub last : text ≡ stop_text stop

-- status 3: the desk failed at the configuration's name
pub record CannotOpenConfig (config : List ℕ) (seen : Seen) (text : List ℕ) : Type 0 where
  pub fails : FailsToOpen seen config false
  pub none_opened : seen.journals ≡ no_journals
  pub last : text ≡ stop_text ReadFault

-- status 3: the configuration failed while it was read
pub record CannotReadConfig (seen : Seen) (text : List ℕ) : Type 0 where
  pub opened : OpenedConfigOnly seen
  pub failed : IsSomeAnd seen.config (λ input. 0 < input.faults)
  pub none_opened : seen.journals ≡ no_journals
  pub last : text ≡ stop_text ReadFault

-- status 7: no memory was left for the configuration
pub record CannotConfigure (seen : Seen) (text : List ℕ) : Type 0 where
  pub opened : OpenedNoInput seen ⊎ OpenedConfigOnly seen
  pub none_opened : seen.journals ≡ no_journals
  pub last : text ≡ stop_text NoMemory

-- the configuration of this name gives no issuer, for this cause
abbrev pub StopsAtConfig : List ℕ → Seen → Stop → List ℕ → Type 0
StopsAtConfig config seen (Config part index) text = IsConfig config seen (Config part index) text
StopsAtConfig config seen ReadFault text = CannotOpenConfig config seen text ⊎ CannotReadConfig seen text
StopsAtConfig config seen NoMemory text = CannotConfigure seen text
StopsAtConfig config seen stop text = ⊥

-- a run that stops so, and in no other way
abbrev pub ways_to_give_no_issuer : List ℕ → Seen → Ways
ways_to_give_no_issuer config seen =
    record { IsDone = λ text. ⊥; Stops = StopsAtConfig config seen; IsDue = λ text. ⊥ }

-- ---- the journals

-- statuses 5, 6 and 7: the journals weren't loaded, for this cause. The old ones stay, and the whole lines of the others;
-- no other input was opened
pub record HasNoHost (config journal : List ℕ) (seen : Seen) (stop : Stop) (text : List ℕ) : Type 0 where
  pub issuer : Setup
  pub said : SaysIssuer seen config issuer
  pub config_is : is_some seen.config ≡ true
  pub requests_is : is_some seen.requests ≡ false
  pub cause : GivesNoHost issuer journal seen.desk.logs
      (record { before = seen.desk.faults_before; after = seen.desk.faults_after; last = seen.desk.last_fault })
      seen.journals stop
  pub left : LeaveJournals journal seen.desk.logs seen.journals
  pub last : text ≡ stop_text stop

-- a run over the journals of this name stops before they are loaded: at its configuration, or at them
abbrev pub StopsBefore : List ℕ → List ℕ → Seen → Stop → List ℕ → Type 0
StopsBefore config journal seen stop text = StopsAtConfig config seen stop text ⊎ HasNoHost config journal seen stop text
