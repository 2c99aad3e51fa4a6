-- What a store holds, what a crash may leave of it, and what its calls do to both.
use Rattle.std.specs.Prelude.{◌≡◌, ◌⊎◌, ℕ, ◌+◌, ◌≤◌, min, Bool, false, List, [], ◌∷◌, ◌++◌, length, take, drop}
use Rattle.std.specs.Prelude.{Option, None, Some, ⊤, MatchBool, All, Contains}

-- a store at one moment: its bytes, and the length of their durable prefix
pub record Moment : Type 0 where
  pub bytes : List ℕ
  pub safe : ℕ

-- a store's disk: the moments that it has been through, the oldest first, and the present one
pub record Disk : Type 0 where
  pub past : List Moment
  pub now : Moment

-- all its moments, the oldest first and the present one last
abbrev pub timeline : Disk → List Moment
timeline disk = disk.past ++ disk.now ∷ []

-- the number of its present moment, counted from 0
abbrev pub present : Disk → ℕ
present disk = length disk.past

-- a crash at this moment may leave the image: a prefix of the bytes that has at least the durable ones
pub record MayLeave (moment : Moment) (image : List ℕ) : Type 0 where
  pub has_safe : moment.safe ≤ length image
  pub is_front : image ≡ take (length image) moment.bytes

-- a crash at some moment since the one of this number may leave the image
abbrev pub MayLeaveSince : ℕ → Disk → List ℕ → Type 0
MayLeaveSince number disk image =
    (moment : Moment) × Contains (drop number (timeline disk)) moment × MayLeave moment image

-- whatever a crash since the moment of this number may leave has P
pub record LeavesSince (P : List ℕ → Type 0) (number : ℕ) (disk : Disk) : Type 0 where
  pub each : (image : List ℕ) → MayLeaveSince number disk image → P image

-- new extends old by some more moments, maybe none
pub record GoesOn (old new : Disk) : Type 0 where
  pub added : List Moment
  pub grown : timeline new ≡ timeline old ++ added

-- new extends old by some more moments, and whatever a crash since the present moment of old may leave has P
pub record LeavesOnly (P : List ℕ → Type 0) (old new : Disk) : Type 0 where
  pub goes_on : GoesOn old new
  pub leaves : LeavesSince P (present old) new

-- new extends old by some more moments: each of these has P, and so has the present one
pub record Passes (P : Moment → Type 0) (old new : Disk) : Type 0 where
  pub goes_on : GoesOn old new
  pub each : All P goes_on.added
  pub last : P new.now

-- a moment with these bytes, of which at least so many are durable, and no more than there are
pub record HasSafe (content : List ℕ) (least : ℕ) (moment : Moment) : Type 0 where
  pub holds : moment.bytes ≡ content
  pub at_least : least ≤ moment.safe
  pub within : moment.safe ≤ length content

-- while a store is read or synced its bytes stay, and no durable one is lost
abbrev pub WhileKept : Moment → Moment → Type 0
WhileKept old = HasSafe old.bytes old.safe

-- while a piece is appended a prefix of it follows the bytes, and no durable one is lost
abbrev pub WhileAppended : List ℕ → Moment → Moment → Type 0
WhileAppended piece old moment = (taken : ℕ) × HasSafe (old.bytes ++ take taken piece) old.safe moment

-- while a store is truncated its bytes are truncated or not, and no durable one of those that stay is lost
abbrev pub WhileCut : ℕ → Moment → Moment → Type 0
WhileCut len old moment = HasSafe old.bytes old.safe moment ⊎ HasSafe (take len old.bytes) (min old.safe len) moment

-- a read keeps the disk: each moment that it passes through has the same bytes
abbrev pub KeepsDisk : Disk → Disk → Type 0
KeepsDisk old new = Passes (WhileKept old.now) old new

-- an append passes through prefixes of the piece, and at Ok the whole piece follows the bytes
pub record AppendsToDisk (piece : List ℕ) (failed : Bool) (old new : Disk) : Type 0 where
  pub passes : Passes (WhileAppended piece old.now) old new
  pub done : failed ≡ false → new.now.bytes ≡ old.now.bytes ++ piece

-- a truncation passes through the bytes truncated or not, and at Ok they are truncated and all durable
pub record CutsDisk (len : ℕ) (failed : Bool) (old new : Disk) : Type 0 where
  pub passes : Passes (WhileCut len old.now) old new
  pub done : failed ≡ false → new.now ≡ record { bytes = take len old.now.bytes; safe = len }

-- a sync keeps the bytes, and at Ok they are all durable
pub record SyncsDisk (failed : Bool) (old new : Disk) : Type 0 where
  pub passes : Passes (WhileKept old.now) old new
  pub done : failed ≡ false → new.now.safe ≡ length new.now.bytes

-- how an append changes the bytes: the whole piece follows them, or after a fault a prefix of it
abbrev pub AppendsToBytes : List ℕ → Bool → List ℕ → List ℕ → Type 0
AppendsToBytes piece failed old new =
    MatchBool failed ((taken : ℕ) × (new ≡ old ++ take taken piece)) (new ≡ old ++ piece)

-- how a truncation changes the bytes: they are truncated, or after a fault truncated or not
abbrev pub CutsBytes : ℕ → Bool → List ℕ → List ℕ → Type 0
CutsBytes len failed old new = MatchBool failed ((new ≡ old) ⊎ (new ≡ take len old)) (new ≡ take len old)

-- observable before and after, and then so related; or observable neither time
abbrev pub BothTold : {T : Type 0} → (T → T → Type 0) → Option T → Option T → Type 0
BothTold R None None = ⊤
BothTold R None (Some new) = ⊥
BothTold R (Some old) None = ⊥
BothTold R (Some old) (Some new) = R old new

-- a store of this size states its room, the size up to which it works, and so many more bytes are within it
pub record HasRoom (bytes size : ℕ) (room : Option ℕ) : Type 0 where
  pub most : ℕ
  pub told : room ≡ Some most
  pub within : size + bytes ≤ most

-- a call that adds so many bytes leaves the stated room, and doesn't fail if there is room for them
pub record WorksWithin (bytes : ℕ) (failed : Bool) (size : ℕ) (old new : Option ℕ) : Type 0 where
  pub stays : new ≡ old
  pub works : HasRoom bytes size old → failed ≡ false
