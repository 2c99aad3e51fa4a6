-- How a run ends that shows all cards.
use Rattle.std.specs.Prelude.{◌≡◌, ℕ, List}
use Rattle.issuer_setup.specs.IssuerSetup.{Setup}
use Rattle.host_loading.specs.Books.{ShardBook}
use Rattle.command_line.specs.Command.{IsShow}
use Rattle.desk_host.specs.Kept.{KeepJournals}
use Rattle.desk_host.specs.Lawful.{IsLawful}
use Rattle.desk_host.specs.Shown.{shown_text}
use Rattle.issuer_top.specs.InOrder.{IsInOrder}
use Rattle.issuer_top.specs.Opened.{OpenedConfigOnly}
use Rattle.issuer_top.specs.Opening.{SaysIssuer}
use Rattle.issuer_top.specs.Seen.{Seen}
use Rattle.issuer_top.specs.Stops.{StopsBefore}
use Rattle.issuer_top.specs.Ways.{Ways, Runs}

-- status 0: all cards are shown; the journals are kept as they were loaded, and the run is lawful
pub record IsShown (config journal : List ℕ) (seen : Seen) (text : List ℕ) : Type 0 where
  pub issuer : Setup
  pub books : List ShardBook
  pub opened : OpenedConfigOnly seen
  pub said : SaysIssuer seen config issuer
  pub kept : KeepJournals issuer journal seen.desk.logs seen.journals books books
  pub lawful : IsLawful issuer books books
  pub shown : text ≡ shown_text issuer books issuer.cards

-- what was due at status 4 is the same text
abbrev pub ways_to_show : List ℕ → List ℕ → Seen → Ways
ways_to_show config journal seen = record {
  IsDone = IsShown config journal seen;
  Stops = StopsBefore config journal seen;
  IsDue = IsShown config journal seen;
}

-- if the words are the command to show, with these names, the run ends in one of its ways
abbrev pub RunsShow : List (List ℕ) → ℕ → Seen → Type 0
RunsShow words status seen = (config journal : List ℕ) → IsShow words config journal
    → Runs (ways_to_show config journal seen) (IsInOrder config journal seen) status seen
