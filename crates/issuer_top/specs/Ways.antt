-- How a run of a command may end: the texts that it may write, and what each of them says.
use Rattle.std.specs.Prelude.{◌≡◌, ◌⊎◌, ℕ, List}
use Rattle.std.specs.Io.KnownBytes.{Appends}
use Rattle.issuer_base.specs.OutsideFaults.{Rose}
use Rattle.issuer_base.specs.Sink.{AppendsFront}
use Rattle.answer_text.specs.declared.stop_line.Stop.{Stop}
use Rattle.issuer_top.specs.Seen.{Seen}
use Rattle.issuer_top.specs.Status.{status_of}
use Rattle.issuer_top.specs.declared.ending.Ending.{Ending}
use Rattle.issuer_top.specs.declared.ending.Ending.TheVariants.{Done, Stopped, WriteFault}

-- the ways in which a run of a command may end, each with the text that it writes
pub record Ways : Type 1 where
  -- status 0: all is done
  pub IsDone : List ℕ → Type 0
  -- the run stops early, for this cause
  pub Stops : Stop → List ℕ → Type 0
  -- status 4: this text was due when the sink failed, and the run hadn't stopped before
  pub IsDue : List ℕ → Type 0

-- the sink took all of a text of this kind, and nothing else
abbrev pub Writes : (List ℕ → Type 0) → Seen → Type 0
Writes IsText seen = (text : List ℕ) × IsText text × Appends seen.sink.held_before seen.sink.held_after text

-- status 4: the sink failed, and took a prefix of a text that was due, but not all of it
pub record IsWriteFault (ways : Ways) (seen : Seen) : Type 0 where
  pub rose : Rose seen.sink.faults_before seen.sink.faults_after
  pub text : List ℕ
  pub due : ((stop : Stop) × ways.Stops stop text) ⊎ ways.IsDue text
  pub front : AppendsFront seen.sink.held_before seen.sink.held_after text

-- how a run ended
abbrev pub EndsBy : Ways → Seen → Ending → Type 0
EndsBy ways seen Done = Writes ways.IsDone seen
EndsBy ways seen (Stopped stop) = Writes (ways.Stops stop) seen
EndsBy ways seen WriteFault = IsWriteFault ways seen

-- a run with this status ended in one of these ways, and in one that has the status
pub record Ends (ways : Ways) (status : ℕ) (seen : Seen) : Type 0 where
  pub ending : Ending
  pub status_is : status ≡ status_of ending
  pub ends_by : EndsBy ways seen ending

-- a run ended in one of these ways; and where all was in order, all is done, or no memory was left
pub record Runs (ways : Ways) (IsInOrder : Type 0) (status : ℕ) (seen : Seen) : Type 0 where
  pub ends : Ends ways status seen
  pub completes : IsInOrder → (status ≡ 0) ⊎ (status ≡ 7)
