-- The pieces of a card's line, put one behind the other, are its words parted by one space.
use Rattle.std.proofs.Common.{◌≡◌, ℕ, Bool, List, [], ◌∷◌, ◌++◌, codes, Option, Some, None, append_assoc, refl, ap, ◌∙◌}
use Rattle.std.specs.List.{join_with_byte}
use Rattle.std.specs.Fmt.{decimal}
use Rattle.cvr_settle.specs.declared.settlement.Flight.{Flight}
use Rattle.answer_text.specs.AnswerText.{line_of}
use Rattle.desk_host.specs.CardText.{flight_words, ok_or_halt}

-- words put behind a text one by one, each with a space before it
abbrev put_words : List ℕ → List (List ℕ) → List ℕ
put_words text [] = text
put_words text (word ∷ words) = put_words (text ++ 32 ∷ word) words

first-joined : (text word : List ℕ) (words : List (List ℕ)) → join_with_byte 32 ((text ++ 32 ∷ word) ∷ words)
    ≡ text ++ 32 ∷ join_with_byte 32 (word ∷ words)
first-joined text word [] = refl
first-joined text word (next ∷ words) = append_assoc text (32 ∷ word) (32 ∷ join_with_byte 32 (next ∷ words))

-- they are parted by one space
put_words-joined : (text : List ℕ) (words : List (List ℕ)) → put_words text words ≡ join_with_byte 32 (text ∷ words)
put_words-joined text [] = refl
put_words-joined text (word ∷ words) = put_words-joined (text ++ 32 ∷ word) words ∙ first-joined text word words

-- the words of a flight may be joined before the others
flight-joined : (text : List ℕ) (words : List (List ℕ)) (flight : Option Flight) (last : List ℕ)
    → join_with_byte 32 (text ∷ words ++ join_with_byte 32 (flight_words flight) ∷ last ∷ [])
    ≡ join_with_byte 32 (text ∷ words ++ (flight_words flight ++ last ∷ []))
flight-joined text [] None last = refl
flight-joined text [] (Some flight) last =
    ap (λ rest. text ++ 32 ∷ rest) (append_assoc (decimal flight.counter) (32 ∷ decimal flight.size) (32 ∷ last))
flight-joined text (word ∷ words) flight last = ap (λ rest. text ++ 32 ∷ rest) (flight-joined word words flight last)

-- the pieces that are put are the line
pub line_joined : (pan psn hi status queued done : List ℕ) (flight : Option Flight) (halted : Bool)
    → pan ++ 32 ∷ psn ++ codes " hi" ++ 32 ∷ hi ++ codes " status" ++ 32 ∷ status ++ codes " queued" ++ 32 ∷ queued ++ codes " done" ++ 32 ∷ done
    ++ codes " flight" ++ 32 ∷ join_with_byte 32 (flight_words flight) ++ 32 ∷ ok_or_halt halted ++ 10 ∷ []
    ≡ line_of (pan ∷ psn ∷ codes "hi" ∷ hi ∷ codes "status" ∷ status ∷ codes "queued" ∷ queued ∷ codes "done" ∷ done
    ∷ codes "flight" ∷ flight_words flight ++ ok_or_halt halted ∷ [])
line_joined pan psn hi status queued done flight halted =
    let words = psn ∷ codes "hi" ∷ hi ∷ codes "status" ∷ status ∷ codes "queued" ∷ queued ∷ codes "done" ∷ done ∷ codes "flight" ∷ [] in
    ap (λ text. text ++ 10 ∷ [])
    (put_words-joined pan (words ++ join_with_byte 32 (flight_words flight) ∷ ok_or_halt halted ∷ [])
    ∙ flight-joined pan words flight (ok_or_halt halted))
