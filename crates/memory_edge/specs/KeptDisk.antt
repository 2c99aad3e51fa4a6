-- The moments of a disk in memory, computed from its changes.
use Rattle.std.specs.Prelude.{◌≡◌, ℕ, ◌≤◌, List, [], ◌∷◌, ◌++◌, length, take}
use Rattle.issuer_base.specs.Stores.{Moment, Disk, timeline}
use Rattle.memory_edge.specs.declared.kept_disk.Change.{Change}
use Rattle.memory_edge.specs.declared.kept_disk.Change.TheVariants.{Appended, Cut, Synced}

-- a moment with these bytes, all of them durable
abbrev pub all_safe : List ℕ → Moment
all_safe bytes = record { bytes = bytes; safe = length bytes }

-- a disk that was just opened
abbrev pub opened_disk : List ℕ → Disk
opened_disk bytes = record { past = []; now = all_safe bytes }

-- the disk moves to another moment
abbrev pub goes_to : Disk → Moment → Disk
goes_to disk moment = record { past = timeline disk; now = moment }

-- a piece is appended to the bytes
abbrev pub appended : List ℕ → Moment → Moment
appended piece moment = record { bytes = moment.bytes ++ piece; safe = moment.safe }

-- the bytes are truncated to a length, and all durable
abbrev pub cut_to : ℕ → Moment → Moment
cut_to len moment = record { bytes = take len moment.bytes; safe = len }

-- the moment after a change
abbrev pub changed : Moment → Change → Moment
changed moment (Appended piece) = appended piece.items moment
changed moment (Cut len) = cut_to len moment
changed moment Synced = all_safe moment.bytes

-- the moment after some changes
abbrev pub moment_after : Moment → List Change → Moment
moment_after moment [] = moment
moment_after moment (change ∷ changes) = moment_after (changed moment change) changes

-- the moments before each of some changes
abbrev pub moments_before : Moment → List Change → List Moment
moments_before moment [] = []
moments_before moment (change ∷ changes) = moment ∷ moments_before (changed moment change) changes

-- the changes since the disk was opened lead to these bytes and this durable length, which is within them
pub record IsKept (opening : List ℕ) (changes : List Change) (present : Moment) : Type 0 where
  pub leads : moment_after (all_safe opening) changes ≡ present
  pub within : present.safe ≤ length present.bytes
