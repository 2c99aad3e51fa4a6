-- A configuration: what it says, and how much of it is read.
use Rattle.std.specs.Prelude.{◌≡◌, ℕ, ◌+◌, ◌≤◌, Bool, true, false, List, length, Option, Result, Ok, Err}
use Rattle.std.specs.Io.KnownBytes.{Consumes, IsAtEnd}
use Rattle.answer_text.specs.declared.stop_line.Stop.{Stop}
use Rattle.answer_text.specs.declared.stop_line.Stop.TheVariants.{Usage, Config, ReadFault, StoreFault, BadJournal}
use Rattle.answer_text.specs.declared.stop_line.Stop.TheVariants.{BadOldJournal, NoMemory as Memory, TooLong, BadDol, BadData, NoKey}
use Rattle.answer_text.specs.declared.stop_line.Stop.TheVariants.{BadFeed}
use Rattle.issuer_setup.specs.IssuerSetup.{Setup}
use Rattle.issuer_setup.specs.KeyList.{AreKeys}
use Rattle.world_net.specs.WorldRuns.{IsIssuer}
use Rattle.config_read.specs.declared.fault.ConfigFault.{ConfigFault}
use Rattle.config_read.specs.declared.fault.ConfigFault.TheVariants.{NotJson, At, NoMemory as NoRoom}
use Rattle.config_read.specs.declared.fault.ConfigPart.TheVariants.{Whole}
use Rattle.config_read.specs.Configuration.{configured}
use Rattle.config_read.specs.Faults.{number_of_part}
use Rattle.issuer_base.specs.Tells.{Tells}
use Rattle.config_read.specs.declared.config.TheConstants.{MAX_CONFIG_BYTES}
use Rattle.desk_host.specs.declared.config.TextFault.{TextFault}
use Rattle.desk_host.specs.declared.config.TextFault.TheVariants.{Read, NoMemory}

-- this text was read, to its end or to the first byte past the limit
pub record IsRead (was now : Option (List ℕ)) (text : List ℕ) : Type 0 where
  pub consumed : Consumes was now text
  pub bounded : length text ≤ MAX_CONFIG_BYTES + 1
  pub to_the_end : length text ≤ MAX_CONFIG_BYTES → IsAtEnd now

-- the text was not read because the input failed
abbrev pub is_read_fault : {T : Type 0} → Result T TextFault → Bool
is_read_fault (Ok text) = false
is_read_fault (Err Read) = true
is_read_fault (Err NoMemory) = false

-- how a run stops where a configuration says no issuer: of bytes that aren't JSON the whole is broken
abbrev pub config_stop : ConfigFault → Stop
config_stop NotJson = Config (number_of_part Whole) 0
config_stop (At part index) = Config (number_of_part part) index
config_stop NoRoom = Memory

-- an issuer's parts are sound, as their types say: its shards, cards and key sets
pub record HasSoundParts (issuer : Setup) : Type 0 where
  pub valid : IsIssuer issuer
  pub keys : AreKeys issuer.keys

-- the configuration says this issuer
pub record Says (left : Option (List ℕ)) (issuer : Setup) : Type 0 where
  pub content : List ℕ
  pub held : Tells left content
  pub says : configured content ≡ Ok issuer

-- the configuration is broken, at this place
pub record IsBroken (left : Option (List ℕ)) (stop : Stop) : Type 0 where
  pub content : List ℕ
  pub fault : ConfigFault
  pub held : Tells left content
  pub broken : configured content ≡ Err fault
  pub stop_is : stop ≡ config_stop fault

-- why a configuration gave no issuer
abbrev pub GivesNoIssuer : Option (List ℕ) → Stop → Type 0
GivesNoIssuer left (Config part index) = IsBroken left (Config part index)
GivesNoIssuer left ReadFault = Unit {0}
GivesNoIssuer left Memory = Unit {0}
GivesNoIssuer left Usage = ⊥
GivesNoIssuer left (StoreFault shard) = ⊥
GivesNoIssuer left (BadJournal shard line) = ⊥
GivesNoIssuer left (BadOldJournal shard line) = ⊥
GivesNoIssuer left (TooLong line) = ⊥
GivesNoIssuer left (BadDol at) = ⊥
GivesNoIssuer left (BadData at) = ⊥
GivesNoIssuer left (BadFeed line) = ⊥
GivesNoIssuer left NoKey = ⊥

-- the run stops since the input failed
abbrev pub is_read_cause : Stop → Bool
is_read_cause ReadFault = true
is_read_cause (Config part index) = false
is_read_cause Memory = false
is_read_cause Usage = false
is_read_cause (StoreFault shard) = false
is_read_cause (BadJournal shard line) = false
is_read_cause (BadOldJournal shard line) = false
is_read_cause (TooLong line) = false
is_read_cause (BadDol at) = false
is_read_cause (BadData at) = false
is_read_cause (BadFeed line) = false
is_read_cause NoKey = false

-- the input failed
abbrev pub is_read_stop : {T : Type 0} → Result T Stop → Bool
is_read_stop (Ok x) = false
is_read_stop (Err stop) = is_read_cause stop
