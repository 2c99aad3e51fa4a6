-- A log, and what a record of a message does to it and to its journal.
use Rattle.std.specs.Prelude.{ℕ, ◌+◌, ◌==◌, Bool, if◌then◌else◌, List, [], ◌∷◌, ◌++◌, take, Option, Some, None, nat_lt, ◌-◌, slice_get, length}
use Rattle.std.specs.Borrow.{Bor}
use Rattle.arrayvec.specs.ArrayVec.{ArrayVec}
use Rattle.one_history.specs.Streams.{Text, is_word}
use Rattle.bridge_rule.specs.declared.log.Step.{Step}
use Rattle.bridge_rule.specs.declared.log.Step.TheVariants.{Skips, Stays, Puts, Replaces}

-- the bytes of a text
abbrev pub text_items : ArrayVec ℕ → Text
text_items text = text.items

-- how many records count, the texts of those that the bridge knows beyond them, and how many it may know
pub record LogState : Type 0 where
  pub count : ℕ
  pub beyond : List Text
  pub room : ℕ

-- a log of which so many records count
abbrev pub new_log : ℕ → ℕ → LogState
new_log count room = record { count = count; beyond = []; room = room }

-- whether the first of these texts is this one, if there is one
abbrev pub first_known : List Text → Text → Option Bool
first_known [] text = None
first_known (known ∷ more) text = Some (is_word known text)

-- the known texts after a record that counts: without the first one if that is it, and else none
abbrev pub beyond_after : List Text → Text → List Text
beyond_after [] text = []
beyond_after (known ∷ more) text = if is_word known text then more else []

-- what becomes of the journal at a record that counts
abbrev pub step_at : List Text → Text → Step
step_at [] text = Puts
step_at (known ∷ more) text = if is_word known text then Stays else Replaces

-- the log after a record with this index
abbrev pub taken_log : LogState → ℕ → Text → LogState
taken_log log index text =
    if index == log.count
    then record { count = log.count + 1; beyond = beyond_after log.beyond text; room = log.room }
    else log

-- what becomes of the journal there
abbrev pub step_of : LogState → ℕ → Text → Step
step_of log index text = if index == log.count then step_at log.beyond text else Skips

-- a journal after such a step
abbrev pub applied : Step → ℕ → Text → List Text → List Text
applied Skips index text journal = journal
applied Stays index text journal = journal
applied Puts index text journal = journal ++ text ∷ []
applied Replaces index text journal = take index journal ++ text ∷ []

-- the log once the bridge knows one more record of the journal
abbrev pub with_known : LogState → Text → LogState
with_known log text = record { count = log.count; beyond = log.beyond ++ text ∷ []; room = log.room }

-- the log once it knows just the records that count
abbrev pub forgotten : LogState → LogState
forgotten log = record { count = log.count; beyond = []; room = log.room }

-- the bytes of a text that is referred to
abbrev pub text_of : Bor (ArrayVec ℕ) → Text
text_of text = text.now.items

-- the record with this index, if it is one of those that the bridge knows beyond the ones that count
abbrev pub known_at : LogState → ℕ → Option Text
known_at log index = if nat_lt index log.count then None else slice_get log.beyond (index - log.count)

-- how many records of a shard's journal the bridge knows
abbrev pub known_of : LogState → ℕ
known_of log = log.count + length log.beyond
