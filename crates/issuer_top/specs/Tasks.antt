-- What is done of what the words ask for.
use Rattle.std.specs.Prelude.{ℕ, List, Option, None, Some}
use Rattle.command_line.specs.Command.{IsNoCommand}
use Rattle.command_line.specs.Pairs.{IsTask, order_of, request_file}
use Rattle.command_line.specs.declared.words.Task.{Task}
use Rattle.command_line.specs.declared.words.Task.TheVariants.{Serve, Show, Play, Fill, Pin, Clear, Export, Standby}
use Rattle.issuer_top.specs.Clearing.{ways_to_clear}
use Rattle.issuer_top.specs.Exporting.{ways_to_export}
use Rattle.issuer_top.specs.Filling.{ways_to_fill}
use Rattle.issuer_top.specs.PinChanges.{ways_to_change}
use Rattle.issuer_top.specs.Played.{ways_to_play}
use Rattle.issuer_top.specs.Refusing.{ways_to_refuse}
use Rattle.issuer_top.specs.Seen.{Seen}
use Rattle.issuer_top.specs.Serving.{ways_to_serve}
use Rattle.issuer_top.specs.Showing.{ways_to_show}
use Rattle.issuer_top.specs.Standing.{ways_to_stand_by}
use Rattle.issuer_top.specs.Ways.{Ways, Ends}

-- the words ask for this, or they are no command
abbrev pub IsAsked : List (List ℕ) → Option Task → Type 0
IsAsked words None = IsNoCommand words
IsAsked words (Some task) = IsTask words task

-- the ways in which the run of a task may end
abbrev pub ways_of : Option Task → Seen → Ways
ways_of None seen = ways_to_refuse seen
ways_of (Some (Serve names)) seen = ways_to_serve names.config.now (request_file names) names.journal.now seen
ways_of (Some (Show names)) seen = ways_to_show names.config.now names.journal.now seen
ways_of (Some (Play size)) seen = ways_to_play size.cards size.steps size.seed seen
ways_of (Some (Fill texts)) seen = ways_to_fill texts.dol.items texts.data.items seen
ways_of (Some (Pin order)) seen = ways_to_change (order_of order) seen
ways_of (Some (Clear names)) seen = ways_to_clear names.config.now names.clearing.now names.journal.now seen
ways_of (Some (Export names)) seen = ways_to_export names.config.now names.journal.now seen
ways_of (Some (Standby names)) seen = ways_to_stand_by names.config.now names.feed.now names.journal.now seen

-- what the words ask for is done, and the run ended in one of its ways
pub record DoesTask (words : List (List ℕ)) (status : ℕ) (seen : Seen) : Type 0 where
  pub task : Option Task
  pub asked : IsAsked words task
  pub ends : Ends (ways_of task seen) status seen
