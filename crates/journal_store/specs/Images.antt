-- What a crash may leave of a text that is appended to, and of one that is truncated.
use Rattle.std.specs.Prelude.{◌≡◌, ◌⊎◌, ◌≤◌, ℕ, List, ◌++◌, length, take}
use Rattle.issuer_base.specs.Stores.{Disk, Moment, MayLeave, Passes}

-- the text, followed by a prefix of the tail
abbrev pub IsImage : List ℕ → List ℕ → List ℕ → Type 0
IsImage text tail image = (kept : ℕ) × (image ≡ text ++ take kept tail)

-- the text, followed by a prefix of one tail or of the other
abbrev pub IsEitherImage : List ℕ → List ℕ → List ℕ → List ℕ → Type 0
IsEitherImage text tail other image = IsImage text tail image ⊎ IsImage text other image

-- a moment at which the bytes are the text and a prefix of the tail, and at least the text is durable
pub record HasSafeText (text tail : List ℕ) (moment : Moment) : Type 0 where
  pub image : IsImage text tail moment.bytes
  pub safe : length text ≤ moment.safe

-- an image that a crash at this moment may leave, or the moment's first `sure` bytes
abbrev pub IsCutImage : ℕ → Moment → List ℕ → Type 0
IsCutImage sure moment image = MayLeave moment image ⊎ (image ≡ take sure moment.bytes)

-- at this moment the bytes are as they were, and no durable one is lost
pub record IsKept (old moment : Moment) : Type 0 where
  pub holds : moment.bytes ≡ old.bytes
  pub at_least : old.safe ≤ moment.safe

-- the store is only read: at each moment its bytes are as they were
abbrev pub OnlyReads : Disk → Disk → Type 0
OnlyReads old new = Passes (IsKept old.now) old new
