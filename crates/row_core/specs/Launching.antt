-- How the decision of a request on the newest ATC changes what a row holds of its card's scripts.
use Rattle.std.specs.Prelude.{◌≡◌, ℕ, ◌+◌, ◌≤◌, if◌then◌else◌, true, false, List, length, take, drop, Option, Some, None}
use Rattle.issuer_base.specs.ScriptTemplate.{template_size}
use Rattle.issuer_base.specs.declared.limits.TheConstants.{MAX_TEMPLATE_BYTES}
use Rattle.issuer_base.specs.declared.command.Command.{Command}
use Rattle.issuer_base.specs.declared.request.Request.{Request}
use Rattle.card_history.specs.Scripts.{Scripts, in_flight, is_newest, with_newest, with_decision}
use Rattle.row_core.specs.CardRow.{CardRow, KeptScripts, kept_of, KeepsScripts}
use Rattle.row_core.specs.declared.scripts.Launch.{Launch}

-- what a row holds once the flight of the reply on this ATC has begun
abbrev pub launched_from : KeptScripts → ℕ → Launch → KeptScripts
launched_from kept counter launch = record {
  commands = record { queued = kept.commands.queued; undone = drop launch.ran kept.commands.undone };
  done = kept.done + launch.ran;
  flight = if launch.halted then None else Some (record { counter = counter; size = launch.size });
  halted = launch.halted;
}

-- the commands that the reply carries
abbrev pub carried : KeptScripts → Launch → List Command
carried kept launch = take launch.size (drop launch.ran kept.commands.undone)

-- the launch is the settlement and the new flight of any scripts of which a row holds this
pub record IsLaunch (kept : KeptScripts) (request : Request) (launch : Launch) : Type 0 where
  pub within : launch.ran + launch.size ≤ length kept.commands.undone
  pub fit : template_size (carried kept launch) ≤ MAX_TEMPLATE_BYTES
  pub after : (scripts : Scripts) → kept ≡ kept_of scripts → scripts.done ≤ length scripts.queue
      → kept_of (with_newest request scripts) ≡ launched_from kept request.atc launch
  pub batch : (scripts : Scripts) → kept ≡ kept_of scripts → scripts.done ≤ length scripts.queue
      → in_flight (with_newest request scripts) ≡ carried kept launch

-- what the decision of this request begins: a launch if its ATC is the newest, else nothing
abbrev pub IsLaunchFor : CardRow → Request → Option Launch → Type 0
IsLaunchFor row request None = is_newest request.atc row.hi ≡ false
IsLaunchFor row request (Some launch) = (is_newest request.atc row.hi ≡ true) × IsLaunch row.scripts request launch

-- what a row holds changes by the decision of this request, except its slots
pub record TakesOff (before after : CardRow) (request : Request) : Type 0 where
  pub method_is : after.method ≡ before.method
  pub status_is : after.status ≡ before.status
  pub slots_are : after.slots ≡ before.slots
  pub hi_is : (scripts : Scripts) → KeepsScripts before scripts → after.hi ≡ (with_decision request scripts).hi
  pub scripts_are : (scripts : Scripts) → KeepsScripts before scripts
      → after.scripts ≡ kept_of (with_decision request scripts)
