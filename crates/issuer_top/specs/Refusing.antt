-- How a run ends whose words are no command, and one that needs no desk.
use Rattle.std.specs.Prelude.{◌≡◌, ℕ, List}
use Rattle.answer_text.specs.StopText.{stop_text}
use Rattle.answer_text.specs.declared.stop_line.Stop.{Stop}
use Rattle.answer_text.specs.declared.stop_line.Stop.TheVariants.{Usage}
use Rattle.command_line.specs.Command.{IsNoCommand}
use Rattle.desk_host.specs.SeenStores.{no_journals}
use Rattle.issuer_top.specs.Filling.{RunsFill}
use Rattle.issuer_top.specs.Opened.{OpenedNoInput}
use Rattle.issuer_top.specs.Played.{RunsWorld}
use Rattle.issuer_top.specs.Seen.{Seen}
use Rattle.issuer_top.specs.Ways.{Ways, Ends}

-- status 1: nothing was opened
pub record IsUsage (seen : Seen) (text : List ℕ) : Type 0 where
  pub opened : OpenedNoInput seen
  pub none_opened : seen.journals ≡ no_journals
  pub last : text ≡ stop_text Usage

-- how a run stops
abbrev pub StopsToRefuse : Seen → Stop → List ℕ → Type 0
StopsToRefuse seen Usage text = IsUsage seen text
StopsToRefuse seen stop text = ⊥

-- a run whose words are no command ends in no other way
abbrev pub ways_to_refuse : Seen → Ways
ways_to_refuse seen = record { IsDone = λ text. ⊥; Stops = StopsToRefuse seen; IsDue = λ text. ⊥ }

-- the words that need no desk: to play a world, to fill a DOL, or none that is a command
pub record RunsAlone (words : List (List ℕ)) (status : ℕ) (seen : Seen) : Type 0 where
  pub world : RunsWorld words status seen
  pub fill : RunsFill words status seen
  pub none : IsNoCommand words → Ends (ways_to_refuse seen) status seen
