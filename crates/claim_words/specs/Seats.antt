-- The words and a seat as contracts see them.
use Rattle.std.specs.Prelude.{◌≡◌, ℕ, ◌<◌, ◌≤◌, Option, MatchOption}
use Rattle.claim_words.specs.declared.layout.TheConstants.{COUNTERS}
use Rattle.claim_words.specs.declared.view.ClaimView.{ClaimView}
use Rattle.claim_words.specs.declared.claim_words.ClaimWords.{ClaimWords}
use Rattle.claim_words.specs.declared.claim_words.ClaimSeat.{ClaimSeat}
use Rattle.claim_words.specs.Layout.{bit_of}
use Rattle.claim_words.specs.ClaimViews.{known_on}

-- how many cards the words are for
abbrev pub cards_of : ClaimWords → ℕ
cards_of words = words.table.shared.key.cards

-- how often this ATC of this card is among the opening records
abbrev pub recorded_in : ClaimWords → ℕ → ℕ → ℕ
recorded_in words card counter = bit_of words.table.shared.key.words.value.items card counter

-- what the seat knows
abbrev pub view_of : ClaimSeat → ClaimView
view_of seat = seat.seat.me.0

-- the seat belongs to these words
abbrev pub IsOf : ClaimSeat → ClaimWords → Type 0
IsOf seat words = seat.seat.table_id ≡ words.table.shared.table_id

-- each ATC of the card that the view has kept or has read from a top is at most the result; `None` means that there
-- is none
abbrev pub IsTopFor : ClaimView → ℕ → Option ℕ → Type 0
IsTopFor view card answer = (counter : ℕ) → counter < COUNTERS
    → MatchOption answer (known_on card counter view ≡ 0) (λ top. 0 < known_on card counter view → counter ≤ top)
