-- What a desk gives under a name, what stops a run where it gives no input, and what a configuration says.
use Rattle.std.specs.Prelude.{◌≡◌, ℕ, ◌<◌, ◌⊎◌, List, Option, None, Some, Result, Ok, Err}
use Rattle.issuer_base.specs.OutsideFaults.{Rose}
use Rattle.issuer_base.specs.Tells.{Tells}
use Rattle.issuer_base.specs.declared.outside.DeskCall.TheVariants.{Read}
use Rattle.issuer_base.specs.declared.outside.DeskFault.{DeskFault}
use Rattle.issuer_base.specs.declared.outside.DeskFault.TheVariants.{Fault, NoMemory as NoRoom}
use Rattle.answer_text.specs.declared.stop_line.Stop.{Stop}
use Rattle.answer_text.specs.declared.stop_line.Stop.TheVariants.{ReadFault, NoMemory}
use Rattle.issuer_setup.specs.IssuerSetup.{Setup}
use Rattle.config_read.specs.declared.fault.ConfigFault.{ConfigFault}
use Rattle.config_read.specs.Configuration.{configured}
use Rattle.desk_host.specs.Configuration.{config_stop}
use Rattle.issuer_top.specs.Seen.{Seen, SeenDesk, SeenInput}

-- the desk gave an input that has this left: it is what the desk tells of the name, and something stands there
pub record GivesInput (told : Option (Option (List ℕ))) (left : Option (List ℕ)) : Type 0 where
  pub tells : Tells told left
  pub stands : told ≡ Some None → ⊥

-- why a run stops where the desk gives no input
abbrev pub stop_of : DeskFault → Stop
stop_of Fault = ReadFault
stop_of NoRoom = NoMemory

-- ---- the configuration

-- what the desk tells of the configuration says this: an issuer, or why there is none
pub record IsConfigured (told : Option (Option (List ℕ))) (said : Result Setup ConfigFault) : Type 0 where
  pub content : List ℕ
  pub held : Tells told (Some content)
  pub says : configured content ≡ said

-- the configuration of this name says this issuer, where the desk tells of it
pub record SaysIssuer (seen : Seen) (config : List ℕ) (issuer : Setup) : Type 0 where
  pub content : List ℕ
  pub held : Tells (seen.desk.tells config) (Some content)
  pub says : configured content ≡ Ok issuer

-- the desk failed at this name of an input
pub record FailedAt (desk : SeenDesk) (name : List ℕ) : Type 0 where
  pub rose : Rose desk.faults_before desk.faults_after
  pub call_is : desk.last_fault ≡ Some (record { call = Read; name = name })

-- why a configuration wasn't opened: the desk failed at its name, or no memory was left
abbrev pub GivesNoInput : SeenDesk → List ℕ → Stop → Type 0
GivesNoInput desk name cause =
    ((cause ≡ ReadFault) × FailedAt desk name) ⊎ ((cause ≡ NoMemory) × (desk.faults_after ≡ desk.faults_before))

-- why a configuration that was opened says no issuer: it is broken, it failed, or no memory was left
abbrev pub SaysNoIssuer : Option (Option (List ℕ)) → SeenInput → Stop → Type 0
SaysNoIssuer told input cause =
    ((fault : ConfigFault) × IsConfigured told (Err fault) × (cause ≡ config_stop fault))
    ⊎ (((cause ≡ ReadFault) × (0 < input.faults)) ⊎ (cause ≡ NoMemory))

-- why the configuration of this name gave no issuer, as it was opened or not
abbrev pub OpensNoIssuer : SeenDesk → List ℕ → Option SeenInput → Stop → Type 0
OpensNoIssuer desk name None cause = GivesNoInput desk name cause
OpensNoIssuer desk name (Some input) cause =
    (desk.faults_after ≡ desk.faults_before) × SaysNoIssuer (desk.tells name) input cause
