-- What serving a file of request lines does, from its first line on.
use Rattle.std.specs.Prelude.{◌≡◌, ◌⊎◌, ℕ, Bool, true, false, List, [], ◌∷◌, ◌++◌, map, Option, Result, Ok}
use Rattle.std.specs.Io.KnownBytes.{Appends}
use Rattle.issuer_base.specs.declared.faults.WriteFault.{WriteFault}
use Rattle.issuer_base.specs.Sink.{AppendsFront, WritesAll}
use Rattle.issuer_base.specs.Tells.{Tells}
use Rattle.line_reader.specs.Reading.{Reading, TakesInHand, kept}
use Rattle.line_blocks.specs.declared.served.Served.{Served}
use Rattle.line_blocks.specs.declared.served.Served.TheVariants.{All, ReadFault, WriteFault as SinkFault, TooLong}
use Rattle.line_blocks.specs.Answered.{WasRead, AreAllLines, AreWholeLines, AreLinesBefore, AreFirstLines}

-- lines were answered, and their answers written: `Which` says which lines, of the file and of what was read of it,
-- `Answered` with which text, and `Written` what the sink took
pub record ServesLines (Which : List ℕ → List ℕ → List (List ℕ) → Type 0) (Answered : List (List ℕ) → List ℕ → Type 0)
    (Written : List ℕ → Type 0)
    (was now : Option (List ℕ)) : Type 0 where
  pub file : List ℕ
  pub read : List ℕ
  pub asked : List (List ℕ)
  pub text : List ℕ
  pub content : Tells was file
  pub was_read : WasRead file read now
  pub which : Which file read asked
  pub answered : Answered asked text
  pub written : Written text

-- what serving did, by how it ended: of the input before and after, and of the sink before and after; `Answered` says
-- of lines that they were answered, and with which text
abbrev pub Serves : (List (List ℕ) → List ℕ → Type 0) → Option (List ℕ) → Option (List ℕ) → Option (List ℕ)
    → Option (List ℕ) → Served → Type 0
Serves Answered was now held_before held_after All =
    ServesLines AreAllLines Answered (Appends held_before held_after) was now
Serves Answered was now held_before held_after ReadFault =
    ServesLines (λ file read asked. AreWholeLines read asked) Answered (Appends held_before held_after) was now
Serves Answered was now held_before held_after SinkFault =
    ServesLines AreFirstLines Answered (AppendsFront held_before held_after) was now
Serves Answered was now held_before held_after (TooLong number) =
    ServesLines (λ file read asked. AreLinesBefore number read asked) Answered (Appends held_before held_after) was now

-- ---- what is done with a line

-- `Served` says that lines were answered since the host was loaded, with this text, and that these wait

-- one line more was taken: of all that were taken the first are answered and the others wait, and the text of answers
-- given meanwhile is due, behind what was due
pub record TakesLine (Served : List (List ℕ) → List ℕ → List (List ℕ) → Type 0) (lines : List (List ℕ)) (text : List ℕ)
    (waiting : List (List ℕ))
    (line was_due is_due : List ℕ) : Type 0 where
  pub answered : List (List ℕ)
  pub left : List (List ℕ)
  pub more : List ℕ
  pub all : answered ++ left ≡ (lines ++ waiting) ++ line ∷ []
  pub due : is_due ≡ was_due ++ more
  pub served : Served answered (text ++ more) left

-- all lines that waited are answered, and the text of their answers is due, behind what was due
pub record Settles (Served : List (List ℕ) → List ℕ → List (List ℕ) → Type 0) (lines : List (List ℕ)) (text : List ℕ)
    (waiting : List (List ℕ))
    (was_due is_due : List ℕ) : Type 0 where
  pub more : List ℕ
  pub due : is_due ≡ was_due ++ more
  pub served : Served (lines ++ waiting) (text ++ more) []

-- ---- lines that wait, and answers that are due

-- `HasServed` says that lines were answered, with this text, and that these wait

-- all lines are answered, and all answers were written, or the sink took a front of them and failed
pub record WritesAnswers (HasServed : List (List ℕ) → List ℕ → List (List ℕ) → Type 0) (lines : List (List ℕ))
    (text : List ℕ)
    (waiting : List (List ℕ)) (due : List ℕ) (held_before held_after : Option (List ℕ))
    (result : Result (Unit {0}) WriteFault) : Type 0 where
  pub more : List ℕ
  pub served : HasServed (lines ++ waiting) (text ++ more) []
  pub written : WritesAll held_before held_after result (due ++ more)

-- meanwhile these lines were taken that were whole in the reader's buffer; so it is of all lines, these too
pub record TakesAndWrites (HasServed : List (List ℕ) → List ℕ → List (List ℕ) → Type 0) (lines : List (List ℕ))
    (text : List ℕ)
    (waiting : List (List ℕ)) (due : List ℕ) (reader_was reader_is : Reading)
    (held_before held_after : Option (List ℕ))
    (result : Result (Unit {0}) WriteFault) : Type 0 where
  pub taken : List (List ℕ)
  pub in_hand : TakesInHand reader_was taken reader_is
  pub writes : WritesAnswers HasServed lines text (waiting ++ map kept taken) due held_before held_after result

-- so it is, and no answer is due; or lines wait and answers are due as before, and none was taken
abbrev pub WritesDue : (List (List ℕ) → List ℕ → List (List ℕ) → Type 0) → List (List ℕ) → List ℕ → List (List ℕ)
    → List ℕ → List ℕ → Reading → Reading
    → Option (List ℕ) → Option (List ℕ) → Result (Unit {0}) WriteFault → Type 0
WritesDue HasServed lines text waiting due left reader_was reader_is held_before held_after result =
    ((left ≡ []) × TakesAndWrites HasServed lines text waiting due reader_was reader_is held_before held_after result)
    ⊎ ((result ≡ Ok tt) × (left ≡ due) × (reader_is ≡ reader_was) × (held_after ≡ held_before)
    × HasServed lines text waiting)

-- all lines are answered, and the answers that were left were written, and serving ended so; or the sink took a front
-- of them and failed
pub record Finishes (HasServed : List (List ℕ) → List ℕ → List (List ℕ) → Type 0) (lines : List (List ℕ))
    (text : List ℕ)
    (waiting : List (List ℕ)) (due : List ℕ) (held_before held_after : Option (List ℕ))
    (how ended : Served) : Type 0 where
  pub more : List ℕ
  pub answered : HasServed (lines ++ waiting) (text ++ more) []
  pub ends : ((ended ≡ how) × Appends held_before held_after (due ++ more))
      ⊎ ((ended ≡ SinkFault) × AppendsFront held_before held_after (due ++ more))

-- whether the input failed, and the answers before were written
abbrev pub read_failed : Served → Bool
read_failed All = false
read_failed ReadFault = true
read_failed SinkFault = false
read_failed (TooLong number) = false

-- whether the sink failed
abbrev pub write_failed : Served → Bool
write_failed All = false
write_failed ReadFault = false
write_failed SinkFault = true
write_failed (TooLong number) = false
