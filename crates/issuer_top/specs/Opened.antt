-- Which inputs a run opened.
use Rattle.std.specs.Prelude.{◌≡◌, ℕ, Bool, true, false, List, Some, is_some}
use Rattle.issuer_base.specs.OutsideFaults.{Rose}
use Rattle.issuer_base.specs.declared.outside.DeskCall.TheVariants.{Read}
use Rattle.issuer_top.specs.Seen.{Seen}

-- just these inputs were opened, and the desk failed at no name
pub record HasOpened (seen : Seen) (config requests : Bool) : Type 0 where
  pub config_is : is_some seen.config ≡ config
  pub requests_is : is_some seen.requests ≡ requests
  pub desk_stood : seen.desk.faults_after ≡ seen.desk.faults_before

-- no input was opened, the configuration alone, or both
abbrev pub OpenedNoInput : Seen → Type 0
OpenedNoInput seen = HasOpened seen false false

abbrev pub OpenedConfigOnly : Seen → Type 0
OpenedConfigOnly seen = HasOpened seen true false

abbrev pub OpenedBothInputs : Seen → Type 0
OpenedBothInputs seen = HasOpened seen true true

-- the desk failed at this name of an input, and the request file was not opened; the configuration was, or was not
pub record FailsToOpen (seen : Seen) (name : List ℕ) (config : Bool) : Type 0 where
  pub config_is : is_some seen.config ≡ config
  pub requests_is : is_some seen.requests ≡ false
  pub rose : Rose seen.desk.faults_before seen.desk.faults_after
  pub call_is : seen.desk.last_fault ≡ Some (record { call = Read; name = name })
