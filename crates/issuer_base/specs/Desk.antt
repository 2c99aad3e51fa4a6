-- What a desk answers: whether the fault is its own, and its last call that failed.
use Rattle.std.specs.Prelude.{ℕ, Bool, true, false, List, Option, Some, if◌then◌else◌, Result, Ok, Err}
use Rattle.issuer_base.specs.declared.outside.DeskCall.{DeskCall}
use Rattle.issuer_base.specs.declared.outside.DeskFault.{DeskFault}
use Rattle.issuer_base.specs.declared.outside.DeskFault.TheVariants.{Fault, NoMemory}

-- a call of a desk that failed: which one, and the name that it was given
pub record FailedCall : Type 0 where
  pub call : DeskCall
  pub name : List ℕ

-- the last call that failed, after one more call
abbrev pub last_after : DeskCall → List ℕ → Bool → Option FailedCall → Option FailedCall
last_after call name failed last = if failed then Some (record { call = call; name = name }) else last

-- the desk reports that the fault is its own
abbrev pub is_fault : {T : Type 0} → Result T DeskFault → Bool
is_fault (Ok opened) = false
is_fault (Err Fault) = true
is_fault (Err NoMemory) = false
