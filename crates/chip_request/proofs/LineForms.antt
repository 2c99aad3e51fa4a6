-- A line is parsed as what it says.
use Rattle.std.proofs.Common.{◌≡◌, ℕ, ◌+◌, ◌-◌, ◌/◌, ◌%◌, ◌≤◌, Bool, true, false, cond, ◌==◌, List, [], ◌∷◌, ◌++◌, Err, refl, sym, ap, subst, ◌∙◌}
use Rattle.std.proofs.Common.{eqb-true, eq-eqb, arith}
use Rattle.issuer_base.specs.declared.limits.TheConstants.{MAX_CHIP_BYTES}
use Rattle.chip_request.specs.declared.line.TheConstants.{MAX_QUEUE_BYTES}
use Rattle.chip_request.specs.declared.line.LineKind.{LineKind}
use Rattle.chip_request.specs.declared.line.LineKind.TheVariants.{Ask, Queue, Set}
use Rattle.chip_request.specs.Lines.{SpellsByte, SpellsData, digits_text, IsCard, Says}
use Rattle.chip_request.specs.LineParts.{decimal_digit_value, digit_at, at_end, last_digit_at, data_at, ask_at, queue_at, set_at, kind_at}
use Rattle.chip_request.proofs.Readings.{StartAlike, Example, Reads, stops_here, Made, Reads-made, Reads-after, Behind, Reads-behind}
use Rattle.chip_request.proofs.DataReading.{Reads-data}
use Rattle.chip_request.proofs.CardReading.{is_byte-same, BehindByte, Reads-byte, decimal_digit_value-some, decimal_digit_value-text, BehindCard}
use Rattle.chip_request.proofs.CardReading.{Reads-card, card-behind, behind-card}

-- some data, in any room
data_example : (room : ℕ) → 1 ≤ room → Example (SpellsData room)
data_example room some =
    let zero_byte : SpellsByte 48 48 0 = record { high_value = 0; low_value = 0; is_high = refl; is_low = refl; joined = refl } in
    record { text = 48 ∷ 48 ∷ []; kind = 0 ∷ []; means = record { spelled = (zero_byte, tt); some = omega arith; within = omega arith } }

made_example : {J K : Type 0} (make : J → K) (F : List ℕ → J → Type 0) → Example F → Example (Made make F)
made_example make F example = record { text = example.text; kind = make example.kind; means = (example.kind, example.means, refl) }

-- the kind of a request with these chip data
abbrev pub asked : List ℕ → LineKind
asked bytes = Ask (record { items = bytes })

-- what is behind the letter of a request
abbrev pub AskText : List ℕ → LineKind → Type 0
AskText = BehindByte 32 (Made asked (SpellsData MAX_CHIP_BYTES))

Reads-ask : (text : List ℕ) → Reads AskText text (ask_at text)
Reads-ask text =
    let example = made_example asked (SpellsData MAX_CHIP_BYTES) (data_example MAX_CHIP_BYTES (omega arith)) in
    Reads-byte 32 (Made asked (SpellsData MAX_CHIP_BYTES))
    (record { text = 32 ∷ example.text; kind = example.kind; means = (0, refl, example.means) }) text _ (λ rest.
    Reads-made asked (SpellsData MAX_CHIP_BYTES) rest (data_at MAX_CHIP_BYTES rest) (Reads-data (MAX_CHIP_BYTES - 1) rest))

-- of a command for a card
abbrev pub queued : List ℕ → ℕ → List ℕ → LineKind
queued pan psn bytes = Queue pan psn (record { items = bytes })

abbrev pub QueueRest : List ℕ → ℕ → List ℕ → LineKind → Type 0
QueueRest pan psn = Made (queued pan psn) (SpellsData MAX_QUEUE_BYTES)

abbrev pub QueueText : List ℕ → LineKind → Type 0
QueueText = BehindCard QueueRest

Reads-queue : (text : List ℕ) → Reads QueueText text (queue_at text)
Reads-queue text =
    Reads-card QueueRest (λ pan psn. made_example (queued pan psn) (SpellsData MAX_QUEUE_BYTES) (data_example MAX_QUEUE_BYTES (omega arith)))
    text _ (λ pan psn rest. Reads-made (queued pan psn) (SpellsData MAX_QUEUE_BYTES) rest (data_at MAX_QUEUE_BYTES rest)
    (Reads-data (MAX_QUEUE_BYTES - 1) rest))

-- the end of the text behind a digit
abbrev pub Ends : ℕ → List ℕ → ℕ → Type 0
Ends digit [] value = value ≡ digit
Ends digit (byte ∷ rest) value = ⊥

Reads-end : (digit : ℕ) (text : List ℕ) → Reads (Ends digit) text (at_end digit text)
Reads-end digit [] = record { here = refl; only = λ other means. means }
Reads-end digit (byte ∷ rest) = stops_here (Ends digit) (record { text = []; kind = digit; means = refl }) (byte ∷ rest) none
  where
    none : (other : List ℕ) (value : ℕ) → StartAlike other (byte ∷ rest) → Ends digit other value → ⊥
    none [] value alike means = alike
    none (b ∷ others) value alike means = means

Reads-last_digit : (text : List ℕ) → Reads (Behind decimal_digit_value Ends) text (last_digit_at text)
unfolding last_digit_at digit_at
Reads-last_digit text =
    Reads-behind decimal_digit_value Ends (record { text = 48 ∷ []; kind = 0; means = (0, refl, refl) }) text _ (λ digit rest. Reads-end digit rest)

-- of a status
abbrev pub SetRest : List ℕ → ℕ → List ℕ → LineKind → Type 0
SetRest pan psn = Made (Set pan psn) (Behind decimal_digit_value Ends)

abbrev pub SetText : List ℕ → LineKind → Type 0
SetText = BehindCard SetRest

Reads-set : (text : List ℕ) → Reads SetText text (set_at text)
Reads-set text =
    Reads-card SetRest (λ pan psn. record { text = 48 ∷ []; kind = Set pan psn 0; means = (0, (0, refl, refl), refl) })
    text _ (λ pan psn rest. Reads-made (Set pan psn) (Behind decimal_digit_value Ends) rest (last_digit_at rest) (Reads-last_digit rest))

-- the first bytes of two equal texts
heads : (a b : ℕ) (others bs : List ℕ) → a ∷ others ≡ b ∷ bs → (a ≡ b) × (others ≡ bs)
heads a b others bs same = (cc, cc)

Says-ask : (letter : ℕ) → letter ≡ 65 → (text : List ℕ) (kind : LineKind) → AskText text kind → Says (letter ∷ text) kind
Says-ask letter here [] kind means = absurd means
Says-ask letter here (space ∷ text) kind means =
    let found = means.2 in
    let behind = is_byte-same 32 space means.0 means.1 in
    let same : letter ∷ space ∷ text ≡ 65 ∷ 32 ∷ text = rw (here, behind) refl in
    subst (Says (letter ∷ space ∷ text)) (sym found.2) (text, same, found.1)

ask-Says : (letter : ℕ) → letter ≡ 65 → (text : List ℕ) (kind : LineKind) → Says (letter ∷ text) kind → AskText text kind
ask-Says letter here text (Ask bytes) says =
    subst (λ (others : List ℕ). AskText others (Ask bytes)) (sym (heads _ _ _ _ says.1).1) (0, refl, (bytes.items, says.2, refl))
ask-Says letter here text (Queue pan psn bytes) says = let other = (heads _ _ _ _ says.1).0 in absurd (omega arith)
ask-Says letter here text (Set pan psn status) says = let other = (heads _ _ _ _ says.0).0 in absurd (omega arith)

Says-queue : (letter : ℕ) → letter ≡ 81 → (text : List ℕ) (kind : LineKind) → QueueText text kind → Says (letter ∷ text) kind
Says-queue letter here text kind means =
    let found = card-behind QueueRest text kind means in
    let same = ap (λ (b : ℕ). b ∷ text) here ∙ ap (λ (others : List ℕ). 81 ∷ others) found.spelled in
    subst (Says (letter ∷ text)) (sym found.means.2) (found.rest, same, found.card, found.means.1)

queue-Says : (letter : ℕ) → letter ≡ 81 → (text : List ℕ) (kind : LineKind) → Says (letter ∷ text) kind → QueueText text kind
queue-Says letter here text (Ask bytes) says = let other = (heads _ _ _ _ says.1).0 in absurd (omega arith)
queue-Says letter here text (Queue pan psn bytes) says =
    behind-card QueueRest text (Queue pan psn bytes)
    (record { pan = pan; psn = psn; rest = says.0; spelled = (heads _ _ _ _ says.1).1; card = says.2; means = (bytes.items, says.3, refl) })
queue-Says letter here text (Set pan psn status) says = let other = (heads _ _ _ _ says.0).0 in absurd (omega arith)

-- a status after its card
set_from : (letter : ℕ) (text : List ℕ) (kind : LineKind) (pan : List ℕ) (psn : ℕ) (rest : List ℕ) → letter ≡ 83
    → text ≡ 32 ∷ digits_text pan ++ 32 ∷ (48 + psn / 16) ∷ (48 + psn % 16) ∷ 32 ∷ rest → IsCard pan psn → (status : ℕ)
    → Behind decimal_digit_value Ends rest status → kind ≡ Set pan psn status → Says (letter ∷ text) kind
set_from letter text kind pan psn [] here spelled card status means is = absurd means
set_from letter text kind pan psn (digit ∷ other ∷ rest) here spelled card status means is = absurd means.2
set_from letter text kind pan psn (digit ∷ []) here spelled card status means is =
    let value = decimal_digit_value-some digit means.0 means.1 in
    let last : digit ≡ 48 + status = omega (arith, means.2, value.0) in
    let small : status ≤ 9 = omega (arith, means.2, value.1) in
    let same = ap (λ (b : ℕ). b ∷ text) here ∙ ap (λ (others : List ℕ). 83 ∷ others) spelled
    ∙ ap (λ (b : ℕ). 83 ∷ 32 ∷ digits_text pan ++ 32 ∷ (48 + psn / 16) ∷ (48 + psn % 16) ∷ 32 ∷ b ∷ []) last in
    subst (Says (letter ∷ text)) (sym is) (same, card, small)

Says-set : (letter : ℕ) → letter ≡ 83 → (text : List ℕ) (kind : LineKind) → SetText text kind → Says (letter ∷ text) kind
Says-set letter here text kind means =
    let found = card-behind SetRest text kind means in
    set_from letter text kind found.pan found.psn found.rest here found.spelled found.card found.means.0 found.means.1 found.means.2

set-Says : (letter : ℕ) → letter ≡ 83 → (text : List ℕ) (kind : LineKind) → Says (letter ∷ text) kind → SetText text kind
set-Says letter here text (Ask bytes) says = let other = (heads _ _ _ _ says.1).0 in absurd (omega arith)
set-Says letter here text (Queue pan psn bytes) says = let other = (heads _ _ _ _ says.1).0 in absurd (omega arith)
set-Says letter here text (Set pan psn status) says =
    behind-card SetRest text (Set pan psn status) (record {
      pan = pan;
      psn = psn;
      rest = (48 + status) ∷ [];
      spelled = (heads _ _ _ _ says.0).1;
      card = says.1;
      means = (status, (status, decimal_digit_value-text status says.2, refl), refl);
    })

-- a line begins with one of three letters
says_letter : (letter : ℕ) (text : List ℕ) (kind : LineKind) → (letter == 65) ≡ false → (letter == 81) ≡ false → (letter == 83) ≡ false
    → Says (letter ∷ text) kind → ⊥
says_letter letter text (Ask bytes) no_ask no_queue no_set says = let here = eq-eqb letter 65 (heads _ _ _ _ says.1).0 in absurd (cc (here, no_ask))
says_letter letter text (Queue pan psn bytes) no_ask no_queue no_set says = let here =
    eq-eqb letter 81 (heads _ _ _ _ says.1).0 in absurd (cc (here, no_queue))
says_letter letter text (Set pan psn status) no_ask no_queue no_set says = let here = eq-eqb letter 83 (heads _ _ _ _ says.0).0 in absurd (cc (here, no_set))

no_line : (kind : LineKind) → Says [] kind → ⊥
no_line (Ask bytes) says = absurd (cc (says.1))
no_line (Queue pan psn bytes) says = absurd (cc (says.1))
no_line (Set pan psn status) says = absurd (cc (says.0))

-- some line
line_example : Example Says
line_example =
    let data_of = data_example MAX_CHIP_BYTES (omega arith) in
    record { text = 65 ∷ 32 ∷ data_of.text; kind = asked data_of.kind; means = (data_of.text, refl, data_of.means) }

-- reading a line from its front gives what it says
pub Reads-line : (line : List ℕ) → Reads Says line (kind_at line)
unfolding kind_at
Reads-line [] = stops_here Says line_example [] none
  where
    none : (other : List ℕ) (kind : LineKind) → StartAlike other [] → Says other kind → ⊥
    none [] kind alike says = no_line kind says
    none (b ∷ others) kind alike says = alike
Reads-line (letter ∷ text) = by_letter (letter == 65) (letter == 81) (letter == 83) refl refl refl
  where
    none : (letter == 65) ≡ false → (letter == 81) ≡ false → (letter == 83) ≡ false → (other : List ℕ) (kind : LineKind)
        → StartAlike other (letter ∷ text) → Says other kind → ⊥
    none no_ask no_queue no_set [] kind alike says = alike
    none no_ask no_queue no_set (b ∷ others) kind alike says =
        says_letter letter others kind no_ask no_queue no_set (subst (λ (first : ℕ). Says (first ∷ others) kind) alike says)

    by_letter : (is_ask is_queue is_set : Bool) → (letter == 65) ≡ is_ask → (letter == 81) ≡ is_queue → (letter == 83) ≡ is_set
        → Reads Says (letter ∷ text) (cond is_ask (ask_at text) (cond is_queue (queue_at text) (cond is_set (set_at text) (Err (letter ∷ text)))))
    by_letter true is_queue is_set here other another =
        let same = eqb-true _ _ here in Reads-after AskText Says letter (Says-ask letter same) (ask-Says letter same) text (ask_at text) (Reads-ask text)
    by_letter false true is_set other here another =
        let same = eqb-true _ _ here in Reads-after QueueText Says letter (Says-queue letter same) (queue-Says letter same) text
        (queue_at text) (Reads-queue text)
    by_letter false false true other another here =
        let same = eqb-true _ _ here in Reads-after SetText Says letter (Says-set letter same) (set-Says letter same) text (set_at text) (Reads-set text)
    by_letter false false false no_ask no_queue no_set = stops_here Says line_example (letter ∷ text) (none no_ask no_queue no_set)
