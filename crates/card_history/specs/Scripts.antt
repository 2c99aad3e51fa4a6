-- What a shard's history states of a card's issuer script commands: which are done, which are in flight, which the next
-- reply carries, and whether the card's scripts are halted. EMV 4.3 Book 3, section 10.10.
use Rattle.std.specs.Prelude.{ℕ, ◌+◌, nat_lt, Bool, true, false, if◌then◌else◌, List, [], ◌∷◌, ◌++◌, length, take, drop, fold, Option, Some, None}
use Rattle.std.specs.Option.{option_map_or}
use Rattle.issuer_base.specs.declared.command.Command.{Command}
use Rattle.issuer_base.specs.declared.request.Request.{Request}
use Rattle.issuer_base.specs.declared.entry.Entry.{Entry}
use Rattle.issuer_base.specs.declared.entry.Entry.TheVariants.{Decided, Queued, Status}
use Rattle.issuer_base.specs.ChipData.{script_count, last_online}
use Rattle.cvr_settle.specs.declared.settlement.Flight.{Flight}
use Rattle.cvr_settle.specs.declared.settlement.Settled.{Settled}
use Rattle.cvr_settle.specs.declared.settlement.Settled.TheVariants.{Ran, Nothing, Halt}
use Rattle.cvr_settle.specs.Settlement.{settled}
use Rattle.script_queue.specs.CommandQueue.{CommandQueue}
use Rattle.script_queue.specs.ScriptTemplate.{fitting_front}
use Rattle.issuer_base.specs.CardNames.{CardName}
use Rattle.card_history.specs.Records.{is_of, has_numbers}

-- a card's scripts: all commands that were queued for it, the oldest first, the greatest decided ATC, how many of the
-- commands are done, the batch in flight, and whether no command is sent any more
pub record Scripts : Type 0 where
  pub queue : List Command
  pub hi : Option ℕ
  pub done : ℕ
  pub flight : Option Flight
  pub halted : Bool

-- a card's scripts before any record
abbrev pub no_scripts : Scripts
no_scripts = record { queue = []; hi = None; done = 0; flight = None; halted = false }

-- the commands that aren't done yet
abbrev pub undone : Scripts → List Command
undone scripts = drop scripts.done scripts.queue

-- the undone commands, and the number of all
abbrev pub waiting : Scripts → CommandQueue
waiting scripts = record { queued = length scripts.queue; undone = undone scripts }

-- the commands in flight are the first undone ones
abbrev pub in_flight : Scripts → List Command
in_flight scripts = option_map_or (λ flight. take flight.size (undone scripts)) scripts.flight []

-- a command is appended to the queue
abbrev pub with_command : Command → Scripts → Scripts
with_command command scripts = record {
  queue = scripts.queue ++ command ∷ [];
  hi = scripts.hi;
  done = scripts.done;
  flight = scripts.flight;
  halted = scripts.halted;
}

-- the scripts after the card's report of the flight: so many more commands are done, or none, or the scripts are halted
-- for good
abbrev pub settled_by : Settled → Scripts → Scripts
settled_by (Ran count) scripts =
    record {
      queue = scripts.queue;
      hi = scripts.hi;
      done = scripts.done + count;
      flight = None;
      halted = scripts.halted;
    }
settled_by Nothing scripts =
    record { queue = scripts.queue; hi = scripts.hi; done = scripts.done; flight = None; halted = scripts.halted }
settled_by Halt scripts =
    record { queue = scripts.queue; hi = scripts.hi; done = scripts.done; flight = None; halted = true }

-- the scripts once the flight of the reply on this ATC has begun: the longest prefix of the undone commands that one
-- template carries, possibly empty; there is none if the scripts are halted. The ATC is the greatest one now
abbrev pub launched : ℕ → Scripts → Scripts
launched counter scripts = record {
  queue = scripts.queue;
  hi = Some counter;
  done = scripts.done;
  flight =
      if scripts.halted then None
      else Some (record { counter = counter; size = length (fitting_front (undone scripts)) });
  halted = scripts.halted;
}

-- a decision on an ATC above the greatest: the request's application data settle the flight, and the next one begins
abbrev pub with_newest : Request → Scripts → Scripts
with_newest request scripts =
    launched request.atc (settled_by (settled scripts.flight (last_online request) (script_count request)) scripts)

-- whether an ATC is above the greatest one, or the first
abbrev pub is_newest : ℕ → Option ℕ → Bool
is_newest counter greatest = option_map_or (λ top. nat_lt top counter) greatest true

-- a decision: one that isn't on the newest ATC settles nothing, and leaves the flight
abbrev pub with_decision : Request → Scripts → Scripts
with_decision request scripts = if is_newest request.atc scripts.hi then with_newest request scripts else scripts

-- the card's scripts after one more record of the shard
abbrev pub after_record : CardName → Scripts → Entry → Scripts
after_record card scripts (Decided request reply) =
    if is_of card request then with_decision request scripts else scripts
after_record card scripts (Queued pan psn command) =
    if has_numbers card pan psn then with_command command scripts else scripts
after_record card scripts (Status pan psn status) = scripts

-- a card's scripts after the history of its shard
abbrev pub scripts_of : CardName → List Entry → Scripts
scripts_of card history = fold (after_record card) no_scripts history

-- the batch that goes with the reply to this request: the new flight's commands, and none if the ATC isn't the newest
abbrev pub batch_of : Request → Scripts → List Command
batch_of request scripts = if is_newest request.atc scripts.hi then in_flight (with_newest request scripts) else []

-- the number of its first command, from 0: how many are done after settlement
abbrev pub first_of : Request → Scripts → ℕ
first_of request scripts = (with_newest request scripts).done
