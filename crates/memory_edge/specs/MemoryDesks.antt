-- The model of a desk in memory, and what it opens under a name.
use Rattle.std.specs.Prelude.{ℕ, ◌-◌, ◌^◌, Bool, false, true, List, [], reverse, find, bytes_eq, Option, None, Some}
use Rattle.std.specs.Prelude.{Result, Ok, Err}
use Rattle.std.specs.Option.{option_map}
use Rattle.issuer_base.specs.Desk.{FailedCall, last_after}
use Rattle.issuer_base.specs.declared.outside.DeskCall.{DeskCall}
use Rattle.issuer_base.specs.declared.outside.DeskFault.{DeskFault}
use Rattle.issuer_base.specs.declared.outside.DeskFault.TheVariants.{Fault, NoMemory}
use Rattle.memory_edge.specs.OutsideMemory.{Calls, SourceState, after_call, no_calls}
use Rattle.memory_edge.specs.MemoryStores.{StoreState, opened_store}
use Rattle.memory_edge.specs.declared.memory_desk.TheConstants.{NEW_JOURNAL_ROOM}

-- an input of a desk in memory: its name, its bytes, and the numbers of the reads that fail
pub record HeldInput : Type 0 where
  pub name : List ℕ
  pub bytes : List ℕ
  pub fails : List ℕ

-- a journal of a desk in memory: its name, its bytes, how many it has room for, and the numbers of the calls of its
-- store that fail
pub record HeldJournal : Type 0 where
  pub name : List ℕ
  pub bytes : List ℕ
  pub room : ℕ
  pub fails : List ℕ

-- a desk in memory: its inputs and its journals in the order of their addition, its calls, and the last one that failed
pub record DeskState : Type 0 where
  pub inputs : List HeldInput
  pub journals : List HeldJournal
  pub calls : Calls
  pub last_fault : Option FailedCall

-- a desk with no entries
abbrev pub empty_desk : List ℕ → DeskState
empty_desk fails = record { inputs = []; journals = []; calls = no_calls fails; last_fault = None }

-- the last input that was added under the name
abbrev pub input_under : List HeldInput → List ℕ → Option HeldInput
input_under inputs name = find (λ input. bytes_eq input.name name) (reverse inputs)

-- the input's bytes under each name, or that there is no input
abbrev pub bytes_under : List HeldInput → List ℕ → Option (Option (List ℕ))
bytes_under inputs name = Some (option_map (λ input. input.bytes) (input_under inputs name))

-- a new source over an input
abbrev pub source_over : HeldInput → SourceState
source_over input = record { left = input.bytes; step = 2 ^ 64 - 1; calls = no_calls input.fails }

-- the last journal that was added under the name
abbrev pub journal_under : List HeldJournal → List ℕ → Option HeldJournal
journal_under journals name = find (λ journal. bytes_eq journal.name name) (reverse journals)

-- a new store over a journal, or over a new one
abbrev pub store_over : Option HeldJournal → StoreState
store_over (Some journal) = opened_store journal.bytes journal.room journal.fails
store_over None = opened_store [] NEW_JOURNAL_ROOM []

-- the store that is opened under a name
abbrev pub store_under : List HeldJournal → List ℕ → StoreState
store_under journals name = store_over (journal_under journals name)

-- the bytes of the journal under each name
abbrev pub logs_under : List HeldJournal → List ℕ → Option (List ℕ)
logs_under journals name = Some (store_under journals name).disk.now.bytes

-- the desk after a call that was given this name, and failed or not
abbrev pub after_one : DeskCall → List ℕ → Bool → DeskState → DeskState
after_one call name failed desk = record {
  inputs = desk.inputs;
  journals = desk.journals;
  calls = after_call desk.calls failed;
  last_fault = last_after call name failed desk.last_fault;
}

-- the desk after a call with this answer: one that ran out of memory isn't counted
abbrev pub after_open : {T : Type 0} → DeskCall → List ℕ → Result T DeskFault → DeskState → DeskState
after_open call name (Ok opened) desk = after_one call name false desk
after_open call name (Err Fault) desk = after_one call name true desk
after_open call name (Err NoMemory) desk = desk
