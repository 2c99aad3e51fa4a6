-- What the host prints of a card: one line of words.
use Rattle.std.specs.Prelude.{ℕ, Bool, if◌then◌else◌, List, [], ◌∷◌, ◌++◌, codes, Option, Some, None}
use Rattle.std.specs.Fmt.{decimal}
use Rattle.issuer_base.specs.ChipData.{digits_of}
use Rattle.cvr_settle.specs.declared.settlement.Flight.{Flight}
use Rattle.chip_request.specs.Lines.{digits_text}
use Rattle.answer_text.specs.AnswerText.{line_of}
use Rattle.card_history.specs.declared.card_view.CardView.{CardView}

-- a transaction counter, or a dash where there is none
abbrev pub counter_word : Option ℕ → List ℕ
counter_word None = codes "-"
counter_word (Some counter) = decimal counter

-- the flight of a card's last reply: its transaction counter and the number of its commands, or a dash where there is
-- none
abbrev pub flight_words : Option Flight → List (List ℕ)
flight_words None = codes "-" ∷ []
flight_words (Some flight) = decimal flight.counter ∷ decimal flight.size ∷ []

-- whether the card's scripts go on or are halted, as a word
abbrev pub ok_or_halt : Bool → List ℕ
ok_or_halt halted = if halted then codes "halt" else codes "ok"

-- a card: its account number and its sequence number, as in a line that names the card, and then each part of its view
-- behind its name
unfoldable pub card_words : List ℕ → ℕ → CardView → List (List ℕ)
card_words pan psn view =
    digits_text pan ∷ digits_text (digits_of psn) ∷ codes "hi" ∷ counter_word view.hi ∷ codes "status" ∷
    decimal view.status
    ∷ codes "queued" ∷ decimal view.queued ∷ codes "done" ∷ decimal view.done
    ∷ codes "flight" ∷ flight_words view.flight ++ ok_or_halt view.halted ∷ []

-- what is printed of a card
unfoldable pub card_text : List ℕ → ℕ → CardView → List ℕ
card_text pan psn view = line_of (card_words pan psn view)
