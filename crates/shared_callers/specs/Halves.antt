-- What a half block has, and what this thread does with it while the callers answer the other one.
use Rattle.std.specs.Prelude.{◌≡◌, ℕ, ◌+◌, ◌≤◌, List, [], ◌++◌, length, map, Option, Result, MatchResult, OnErr}
use Rattle.std.specs.List.{flat_map}
use Rattle.issuer_base.specs.Sink.{WritesAll}
use Rattle.issuer_base.specs.declared.faults.WriteFault.{WriteFault}
use Rattle.line_reader.specs.Reading.{Reading, TakesInHand, kept}
use Rattle.shared_callers.specs.Parts.{rooms_of, texts_of}
use Rattle.shared_callers.specs.Turns.{AreWaiting, AreDue}
use Rattle.shared_callers.specs.declared.half_block.HalfBlock.{HalfBlock}

-- after those before, these lines wait
abbrev pub HasWaiting : HalfBlock → List (List ℕ) → List (List ℕ) → Type 0
HasWaiting half before waiting = AreWaiting half.parts.items half.first half.next half.waiting before waiting

-- after those that were taken, these texts are due
abbrev pub HasDue : HalfBlock → List (List ℕ) → List (List ℕ) → Type 0
HasDue half taken due = AreDue texts_of half.parts.items half.from half.due taken due

-- its parts have as much room as before
pub record HasSameRooms (old new : HalfBlock) : Type 0 where
  pub rooms : rooms_of new.parts.items ≡ rooms_of old.parts.items
  pub room : new.room ≡ old.room

-- the texts that were due were written, and then lines in hand were dealt, which wait; if the sink failed, none was
pub record HasExchanged (old new : HalfBlock) (input_was input_is : Reading) (held_before held_after : Option (List ℕ))
    (result : Result (Unit {0}) WriteFault) : Type 0 where
  pub written : (taken due : List (List ℕ)) → HasDue old taken due
      → HasDue new (taken ++ due) [] × WritesAll held_before held_after result (flat_map (λ text. text) due)
  pub dealt : (before : List (List ℕ)) → HasWaiting old before []
      → (taken : List (List ℕ)) × HasWaiting new before (map kept taken) × TakesInHand input_was taken input_is
      × OnErr result (taken ≡ [])
  pub none_due : new.due ≡ 0
  pub fewer : MatchResult result (λ _. new.waiting + length input_is.ahead ≤ length input_was.ahead)
      (λ _. new.waiting ≡ 0)
  pub read : input_was.lines ≤ input_is.lines
  pub rooms : HasSameRooms old new
