-- The model of a card's queue of issuer script commands: EMV 4.3 Book 3, section 10.10.
use Rattle.std.specs.Prelude.{ℕ, ◌<◌, List, [], length}
use Rattle.issuer_base.specs.declared.command.Command.{Command}
use Rattle.issuer_base.specs.declared.limits.TheConstants.{MAX_UNDONE, MAX_QUEUED}

-- how many commands were ever queued for a card, and the undone ones of them, the oldest first
pub record CommandQueue : Type 0 where
  pub queued : ℕ
  pub undone : List Command

-- no command was ever queued
abbrev pub no_commands : CommandQueue
no_commands = record { queued = 0; undone = [] }

-- one more command may be queued: fewer than 64 are undone, and fewer than 4,294,967,295 were ever queued
pub record TakesOneMore (queue : CommandQueue) : Type 0 where
  pub has_place : length queue.undone < MAX_UNDONE
  pub has_number : queue.queued < MAX_QUEUED
