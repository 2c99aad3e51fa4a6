-- What a seat learns by each step on the words: a relation of the step, the seat before, the number found and the seat
-- after.
use Rattle.std.specs.Prelude.{◌≡◌, ◌≢◌, ◌≤◌, ℕ, List, [], ◌∷◌, length, Option, Some, None}
use mathlib.Core.Option.{some}
use lib.ListN.{get_elem?}
use Rattle.atomic_table.specs.Table.{Me, Step}
use Rattle.turn_book.specs.declared.logs.Log.{Log}
use Rattle.turn_book.specs.declared.view.Turn.TheVariants.{Moving, Inside}
use Rattle.turn_book.specs.declared.view.TurnView.{TurnView}
use Rattle.turn_book.specs.Layout.{turn_word_of, count_word_of}
use Rattle.turn_book.specs.Logs.{items_at, IsFront, StandsAt}
use Rattle.turn_book.specs.TurnViews.{moving, counted, free, settled}

-- if the turn was free, the seat has it, with a value that stands for the whole log; else nothing has changed
abbrev pub taken : {V I B : Type 0} → (V → B → List I → Type 0) → Step (Option V) → Me (Option V) (TurnView I B) → ℕ
    → Me (Option V) (TurnView I B)
    → Type 0
taken {V} {I} {B} stands step before found after = (shard : ℕ) → step.word ≡ turn_word_of shard
    → (found ≡ 0 → (items : List I) × (value : V) × IsFront (items_at before.0.seen shard) items
    × (after.0 ≡ moving shard items before.0)
    × (after.1 ≡ (shard, Some value) ∷ before.1) × StandsAt stands value after.0.seen shard)
    × (found ≢ 0 → after ≡ before)

-- the number found is the length of the log, and the empty slot is given back
abbrev pub looked : {V I B : Type 0} → Step (Option V) → Me (Option V) (TurnView I B) → ℕ
    → Me (Option V) (TurnView I B) → Type 0
looked step before found after = (shard : ℕ) → step.word ≡ count_word_of shard
    → (after ≡ (record before.0 { turn = Inside shard }, [])) × (found ≡ length (items_at before.0.seen shard))

-- the item is in the log, at an index of the seat's own
abbrev pub added : {V I B : Type 0} → Option I → Step (Option V) → Me (Option V) (TurnView I B) → ℕ
    → Me (Option V) (TurnView I B) → Type 0
added {I = I} next step before found after = (shard : ℕ) (item : I) → step.word ≡ count_word_of shard → next ≡ Some item
    → after ≡ (counted shard item before.0, before.1)

-- the seat has the empty slot again
abbrev pub retaken : {V I B : Type 0} → Step (Option V) → Me (Option V) (TurnView I B) → ℕ
    → Me (Option V) (TurnView I B) → Type 0
retaken step before found after = (shard : ℕ) → step.word ≡ turn_word_of shard
    → after ≡ (record before.0 { turn = Moving shard }, (shard, None) ∷ before.1)

-- the slot is given back, and the turn is free
abbrev pub released : {V I B : Type 0} → Step (Option V) → Me (Option V) (TurnView I B) → ℕ
    → Me (Option V) (TurnView I B) → Type 0
released step before found after = (shard : ℕ) → step.word ≡ turn_word_of shard → after ≡ (free before.0, [])

-- each log that was heard is a prefix of the one that the seat has seen, if it isn't longer
abbrev pub learned : {V I B : Type 0} → Step (Option V) → Me (Option V) (TurnView I B) → ℕ
    → Me (Option V) (TurnView I B) → Type 0
learned {V} {I} {B} step before found after = (after ≡ (settled before.0, before.1))
    × ((k : ℕ) (seen : List (Log I B)) → get_elem? before.0.heard k ≡ some seen
    → (shard : ℕ) → length (items_at seen shard) ≤ length (items_at before.0.seen shard)
    → IsFront (items_at seen shard) (items_at before.0.seen shard))
