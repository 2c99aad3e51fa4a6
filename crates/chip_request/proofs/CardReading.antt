-- Reading a card's account number and sequence number, each between spaces.
use Rattle.std.proofs.Common.{◌≡◌, ℕ, zero, suc, ◌+◌, ◌-◌, ◌*◌, ◌/◌, ◌%◌, ◌≤◌, Bool, true, false, cond, ◌==◌, List, [], ◌∷◌, ◌++◌, length, replicate}
use Rattle.std.proofs.Common.{Option, Some, None, Ok, Err, refl, sym, ap, subst, ◌∙◌, append_assoc, length-append, leb, leb-true, le-leb, eqb-true}
use Rattle.std.proofs.Common.{arith}
use Rattle.std.proofs.lemmas.Bool.{and_parts, and_from}
use Rattle.std.proofs.lemmas.Option.{cond_some}
use Rattle.std.proofs.lemmas.List.{append-nil, length-replicate}
use Rattle.std.proofs.lemmas.List.Folds.{list_all-append}
use Rattle.std.proofs.lemmas.Str.{digit_value_digit}
use Rattle.std.specs.Char.{digit_value}
use Rattle.std.specs.List.{list_all}
use Rattle.issuer_base.specs.CardNumber.{is_pan, pan_from}
use Rattle.issuer_base.specs.ChipData.{is_bcd}
use Rattle.issuer_base.specs.declared.limits.TheConstants.{MIN_PAN_DIGITS, MAX_PAN_DIGITS}
use Rattle.issuer_base.proofs.CardNumberLemmas.{length-pan}
use Rattle.chip_request.specs.Lines.{digits_text, IsCard}
use Rattle.chip_request.specs.LineParts.{Part, ◌>>=◌, value_at, byte_at, decimal_digit_value, digit_at, and_others, digits_at, number_in_front}
use Rattle.chip_request.specs.LineParts.{account_number_at, CardPart, card_at, value_in_front}
use Rattle.chip_request.proofs.Readings.{StartAlike, Example, Reads, stops_here, Behind, behind_example, Reads-after, Reads-behind, then_then}

-- the value of one byte alone
abbrev pub is_byte : ℕ → ℕ → Option ℕ
is_byte byte first = cond (first == byte) (Some 0) None

pub is_byte-same : (byte first v : ℕ) → is_byte byte first ≡ Some v → first ≡ byte
is_byte-same byte first v has = eqb-true _ _ (cond_some _ _ _ has).0

-- a byte, and a text with a meaning after it
abbrev pub BehindByte : {K : Type 0} → ℕ → (List ℕ → K → Type 0) → List ℕ → K → Type 0
BehindByte byte F = Behind (is_byte byte) (λ v. F)

pub Reads-byte : {K : Type 0} (byte : ℕ) (F : List ℕ → K → Type 0) → Example (BehindByte byte F) → (text : List ℕ) (next : List ℕ → Part K)
    → ((rest : List ℕ) → Reads F rest (next rest)) → Reads (BehindByte byte F) text (byte_at byte text >>= next)
unfolding byte_at
Reads-byte byte F example [] next reads = Reads-behind (is_byte byte) (λ v. F) example [] (λ found. next found.1) (λ v rest. reads rest)
Reads-byte {K} byte F example (first ∷ rest) next reads =
    subst (Reads (BehindByte byte F) (first ∷ rest)) (same (first == byte))
    (Reads-behind (is_byte byte) (λ v. F) example (first ∷ rest) (λ found. next found.1) (λ v rest. reads rest))
  where
    same : (here : Bool) → value_in_front (cond here (Some 0) None) first rest >>= (λ found. next found.1) ≡ cond here (Ok rest) (Err (first ∷ rest)) >>= next
    same true = refl
    same false = refl

-- the value of a decimal digit, and the text of one
pub decimal_digit_value-some : (byte digit : ℕ) → decimal_digit_value byte ≡ Some digit → (byte ≡ 48 + digit) × (digit ≤ 9)
decimal_digit_value-some byte digit has =
    let parts = cond_some _ _ _ has in
    let within = and_parts _ _ parts.0 in
    let low : 48 ≤ byte = leb-true _ _ within.0 in
    let high : byte ≤ 57 = leb-true _ _ within.1 in
    let value : digit_value byte ≡ digit = parts.1 in
    let spelled = digit_value_digit byte (low, high) in
    (omega (arith, value, spelled), omega (arith, value, spelled))

pub decimal_digit_value-text : (digit : ℕ) → digit ≤ 9 → decimal_digit_value (48 + digit) ≡ Some digit
decimal_digit_value-text digit small =
    let low : leb 48 (48 + digit) ≡ true = le-leb _ _ (omega arith) in
    let high : leb (48 + digit) 57 ≡ true = le-leb _ _ (omega arith) in
    let spelled = digit_value_digit (48 + digit) (omega arith, omega arith) in
    let value : digit_value (48 + digit) ≡ digit = omega (arith, spelled) in
    rw (low, high, value) refl

-- each is a decimal digit
abbrev pub are_digits : List ℕ → Bool
are_digits digits = list_all (λ digit. leb digit 9) digits

are_digits-zeros : (n : ℕ) → are_digits (replicate n 0) ≡ true
are_digits-zeros zero = refl
are_digits-zeros (suc n) = are_digits-zeros n

digits-pan : (digits : List ℕ) → is_pan digits ≡ true → are_digits digits ≡ true
unfolding is_pan
digits-pan digits valid = (and_parts _ _ valid).1

pan-digits : (digits : List ℕ) → MIN_PAN_DIGITS ≤ length digits → length digits ≤ MAX_PAN_DIGITS → are_digits digits ≡ true → is_pan digits ≡ true
unfolding is_pan
pan-digits digits low high decimal = and_from _ _ (and_from _ _ (le-leb _ _ low) (le-leb _ _ high)) decimal

-- digits that may go on to an account number
pub record MayGoOn (so_far : List ℕ) : Type 0 where
  pub decimal : are_digits so_far ≡ true
  pub within : length so_far ≤ MAX_PAN_DIGITS

-- zeros that make so many digits an account number
zeros_for : List ℕ → List ℕ
zeros_for so_far = replicate (MIN_PAN_DIGITS - length so_far) 0

pan-filled : (so_far : List ℕ) → MayGoOn so_far → is_pan (so_far ++ zeros_for so_far) ≡ true
unfolding zeros_for
pan-filled so_far may =
    let long = length-append so_far (replicate (MIN_PAN_DIGITS - length so_far) 0) in
    let zeros = length-replicate {A = ℕ} (MIN_PAN_DIGITS - length so_far) 0 in
    let within = may.within in
    pan-digits _ (omega arith) (omega arith)
    (list_all-append _ so_far (replicate (MIN_PAN_DIGITS - length so_far) 0) ∙ and_from _ _ may.decimal (are_digits-zeros (MIN_PAN_DIGITS - length so_far)))

-- the other digits of an account number, a space, and a text with a meaning behind them
pub record Number {K : Type 0} (so_far : List ℕ) (F : List ℕ → List ℕ → K → Type 0) (text : List ℕ) (kind : K) : Type 0 where
  pub digits : List ℕ
  pub rest : List ℕ
  pub spelled : text ≡ digits_text digits ++ 32 ∷ rest
  pub number : is_pan (so_far ++ digits) ≡ true
  pub means : F (so_far ++ digits) rest kind

pub Number-example : {K : Type 0} (so_far : List ℕ) (F : List ℕ → List ℕ → K → Type 0) → ((pan : List ℕ) → Example (F pan)) → MayGoOn so_far
    → Example (Number so_far F)
Number-example so_far F example may =
    let behind = example (so_far ++ zeros_for so_far) in
    record {
      text = digits_text (zeros_for so_far) ++ 32 ∷ behind.text;
      kind = behind.kind;
      means = record { digits = zeros_for so_far; rest = behind.text; spelled = refl; number = pan-filled so_far may; means = behind.means };
    }

-- no digit may follow
abbrev pub IsBlocked : List ℕ → List ℕ → Type 0
IsBlocked so_far text = (digit : ℕ) (digits others : List ℕ) → StartAlike ((48 + digit) ∷ others) text → is_pan (so_far ++ digit ∷ digits) ≡ true → ⊥

-- where neither a digit nor a space may follow, nothing does
Number-none : {K : Type 0} (so_far : List ℕ) (F : List ℕ → List ℕ → K → Type 0) (text : List ℕ) → IsBlocked so_far text
    → ((others : List ℕ) → StartAlike (32 ∷ others) text → is_pan so_far ≡ true → ⊥) → (other : List ℕ) (kind : K) → StartAlike other text
    → Number so_far F other kind → ⊥
Number-none {K} so_far F text blocked unspaced other kind alike means = by_digits means.digits means.spelled means.number
  where
    by_digits : (digits : List ℕ) → other ≡ digits_text digits ++ 32 ∷ means.rest → is_pan (so_far ++ digits) ≡ true → ⊥
    by_digits [] spelled number =
        unspaced means.rest (subst (λ (o : List ℕ). StartAlike o text) spelled alike) (subst (λ (ds : List ℕ). is_pan ds ≡ true) (append-nil so_far) number)
    by_digits (digit ∷ digits) spelled number =
        blocked digit digits (digits_text digits ++ 32 ∷ means.rest) (subst (λ (o : List ℕ). StartAlike o text) spelled alike) number

-- behind the digits that were read
abbrev pub after_number : {K : Type 0} → (List ℕ → List ℕ → Part K) → List ℕ × List ℕ → Part K
after_number next number = byte_at 32 number.1 >>= next number.0

abbrev pub number_behind : {K : Type 0} → (List ℕ → List ℕ → Part K) → List ℕ → List ℕ × List ℕ → Part K
number_behind next so_far found = number_in_front (pan_from (so_far ++ found.0)) found.1 >>= after_number next

-- a space behind all digits of an account number
Number-after : {K : Type 0} (so_far : List ℕ) (F : List ℕ → List ℕ → K → Type 0) (byte : ℕ) (rest : List ℕ) (read : Part K) → byte ≡ 32
    → is_pan so_far ≡ true → Reads (F so_far) rest read → Reads (Number so_far F) (byte ∷ rest) read
Number-after {K} so_far F byte rest read space number reads = Reads-after (F so_far) (Number so_far F) byte to from rest read reads
  where
    to : (text : List ℕ) (kind : K) → F so_far text kind → Number so_far F (byte ∷ text) kind
    to text kind means = record {
      digits = [];
      rest = text;
      spelled = ap (λ (b : ℕ). b ∷ text) space;
      number = subst (λ (ds : List ℕ). is_pan ds ≡ true) (sym (append-nil so_far)) number;
      means = subst (λ (ds : List ℕ). F ds text kind) (sym (append-nil so_far)) means;
    }

    by_digits : (text : List ℕ) (kind : K) (digits others : List ℕ) → byte ∷ text ≡ digits_text digits ++ 32 ∷ others
        → F (so_far ++ digits) others kind → F so_far text kind
    by_digits text kind [] others spelled means =
        let same : others ≡ text = cc in
        subst (λ (o : List ℕ). F so_far o kind) same (subst (λ (ds : List ℕ). F ds others kind) (append-nil so_far) means)
    by_digits text kind (digit ∷ digits) others spelled means = let same : byte ≡ 48 + digit = cc in absurd (omega arith)

    from : (text : List ℕ) (kind : K) → Number so_far F (byte ∷ text) kind → F so_far text kind
    from text kind means = by_digits text kind means.digits means.rest means.spelled means.means

-- no more digits
Number-ended : {K : Type 0} (so_far : List ℕ) (F : List ℕ → List ℕ → K → Type 0) → ((pan : List ℕ) → Example (F pan)) → MayGoOn so_far
    → (text : List ℕ) (next : List ℕ → List ℕ → Part K) → IsBlocked so_far text → ((pan rest : List ℕ) → Reads (F pan) rest (next pan rest))
    → Reads (Number so_far F) text (number_behind next so_far ([], text))
unfolding pan_from byte_at
Number-ended {K} so_far F example may text next blocked reads =
    subst (λ (ds : List ℕ). Reads (Number so_far F) text (number_in_front (pan_from ds) text >>= after_number next))
    (sym (append-nil so_far)) (by_number (is_pan so_far) refl)
  where
    by_space : (first : ℕ) (rest : List ℕ) (here : Bool) → (first == 32) ≡ here → IsBlocked so_far (first ∷ rest) → is_pan so_far ≡ true
        → Reads (Number so_far F) (first ∷ rest) (cond here (Ok rest) (Err (first ∷ rest)) >>= next so_far)
    by_space first rest true here closed number = Number-after so_far F first rest (next so_far rest) (eqb-true _ _ here) number (reads so_far rest)
    by_space first rest false here closed number =
        stops_here _ (Number-example so_far F example may) (first ∷ rest) (Number-none so_far F (first ∷ rest) closed (λ others alike n.
        let not_here : (first == 32) ≡ true = rw (sym alike) refl in absurd (cc (not_here, here))))

    by_text : (other : List ℕ) → IsBlocked so_far other → is_pan so_far ≡ true → Reads (Number so_far F) other (byte_at 32 other >>= next so_far)
    by_text [] closed number = stops_here _ (Number-example so_far F example may) [] (Number-none so_far F [] closed (λ others alike n. alike))
    by_text (first ∷ rest) closed number = by_space first rest (first == 32) refl closed number

    by_number : (valid : Bool) → is_pan so_far ≡ valid
        → Reads (Number so_far F) text (number_in_front (cond valid (Some so_far) None) text >>= after_number next)
    by_number true valid = by_text text blocked valid
    by_number false valid =
        stops_here _ (Number-example so_far F example may) text (Number-none so_far F text blocked (λ others alike number. absurd (cc (valid, number))))

-- a digit before those that may follow
Number-more : {K : Type 0} (so_far : List ℕ) (F : List ℕ → List ℕ → K → Type 0) (byte digit : ℕ) (rest : List ℕ) (read : Part K)
    → byte ≡ 48 + digit → Reads (Number (so_far ++ digit ∷ []) F) rest read → Reads (Number so_far F) (byte ∷ rest) read
Number-more {K} so_far F byte digit rest read spells reads = Reads-after (Number (so_far ++ digit ∷ []) F) (Number so_far F) byte to from rest read reads
  where
    to : (text : List ℕ) (kind : K) → Number (so_far ++ digit ∷ []) F text kind → Number so_far F (byte ∷ text) kind
    to text kind means = record {
      digits = digit ∷ means.digits;
      rest = means.rest;
      spelled = ap (λ (b : ℕ). b ∷ text) spells ∙ ap (λ (others : List ℕ). (48 + digit) ∷ others) means.spelled;
      number = subst (λ (ds : List ℕ). is_pan ds ≡ true) (append_assoc so_far (digit ∷ []) means.digits) means.number;
      means = subst (λ (ds : List ℕ). F ds means.rest kind) (append_assoc so_far (digit ∷ []) means.digits) means.means;
    }

    by_digits : (text : List ℕ) (kind : K) (digits others : List ℕ) → byte ∷ text ≡ digits_text digits ++ 32 ∷ others
        → is_pan (so_far ++ digits) ≡ true → F (so_far ++ digits) others kind → Number (so_far ++ digit ∷ []) F text kind
    by_digits text kind [] others spelled number means = let same : byte ≡ 32 = cc in absurd (omega arith)
    by_digits text kind (first ∷ digits) others spelled number means =
        let same : byte ≡ 48 + first = cc in
        let is_first : first ≡ digit = omega arith in
        let behind : text ≡ digits_text digits ++ 32 ∷ others = cc in
        let joined : so_far ++ first ∷ digits ≡ (so_far ++ digit ∷ []) ++ digits =
        ap (λ (d : ℕ). so_far ++ d ∷ digits) is_first ∙ sym (append_assoc so_far (digit ∷ []) digits) in
        record {
          digits = digits;
          rest = others;
          spelled = behind;
          number = subst (λ (ds : List ℕ). is_pan ds ≡ true) joined number;
          means = subst (λ (ds : List ℕ). F ds others kind) joined means;
        }

    from : (text : List ℕ) (kind : K) → Number so_far F (byte ∷ text) kind → Number (so_far ++ digit ∷ []) F text kind
    from text kind means = by_digits text kind means.digits means.rest means.spelled means.number means.means

-- nothing more than the last digit that an account number may have
full_blocked : (so_far : List ℕ) → length so_far ≡ MAX_PAN_DIGITS → (text : List ℕ) → IsBlocked so_far text
full_blocked so_far full text digit digits others alike number =
    let most = (length-pan _ number).1 in
    let long = length-append so_far (digit ∷ digits) in
    omega arith

some_none : (a b : Option ℕ) (v : ℕ) → a ≡ b → a ≡ Some v → b ≡ None → ⊥
some_none a b v same some none = absurd cc

-- nothing that is no digit
other_blocked : (so_far : List ℕ) (byte : ℕ) (rest : List ℕ) → decimal_digit_value byte ≡ None → IsBlocked so_far (byte ∷ rest)
other_blocked so_far byte rest none digit digits others alike number =
    let parts = digits-pan _ number in
    let decimal = (and_parts _ _ (sym (list_all-append _ so_far (digit ∷ digits)) ∙ parts)).1 in
    let small : digit ≤ 9 = leb-true _ _ (and_parts _ _ decimal).0 in
    some_none _ _ _ (ap decimal_digit_value alike) (decimal_digit_value-text digit small) none

-- the digits that there is room for, and then the space
Number-room : {K : Type 0} (F : List ℕ → List ℕ → K → Type 0) → ((pan : List ℕ) → Example (F pan)) → (next : List ℕ → List ℕ → Part K)
    → ((pan rest : List ℕ) → Reads (F pan) rest (next pan rest)) → (room : ℕ) (so_far : List ℕ) → length so_far + room ≡ MAX_PAN_DIGITS
    → are_digits so_far ≡ true → (text : List ℕ) → Reads (Number so_far F) text (number_behind next so_far (digits_at room text))
unfolding digits_at digit_at
Number-room F example next reads zero so_far long decimal text =
    Number-ended so_far F example (record { decimal = decimal; within = omega arith }) text next (full_blocked so_far (omega arith) text) reads
Number-room F example next reads (suc room) so_far long decimal [] =
    Number-ended so_far F example (record { decimal = decimal; within = omega arith }) [] next (λ digit digits others alike number. alike) reads
Number-room {K} F example next reads (suc room) so_far long decimal (byte ∷ rest) =
    by_value (Number-room F example next reads room) (decimal_digit_value byte) refl
  where
    by_value : ((more : List ℕ) → length more + room ≡ MAX_PAN_DIGITS → are_digits more ≡ true → (others : List ℕ)
        → Reads (Number more F) others (number_behind next more (digits_at room others))) → (found : Option ℕ)
        → decimal_digit_value byte ≡ found
        → Reads (Number so_far F) (byte ∷ rest) (number_behind next so_far (and_others (digits_at room) (value_in_front found byte rest)))
    by_value further None none =
        Number-ended so_far F example (record { decimal = decimal; within = omega arith }) (byte ∷ rest) next (other_blocked so_far byte rest none) reads
    by_value further (Some digit) has =
        let value = decimal_digit_value-some byte digit has in
        let longer = length-append so_far (digit ∷ []) in
        let small = le-leb _ _ value.1 in
        let decimals = list_all-append _ so_far (digit ∷ []) ∙ and_from _ _ decimal (and_from _ _ small refl) in
        let others = digits_at room rest in
        subst (λ (ds : List ℕ). Reads (Number so_far F) (byte ∷ rest) (number_in_front (pan_from ds) others.1 >>= after_number next))
        (append_assoc so_far (digit ∷ []) others.0)
        (Number-more so_far F byte digit rest _ value.0 (further (so_far ++ digit ∷ []) (omega arith) decimals rest))

-- an account number and the space after it
pub Reads-number : {K : Type 0} (F : List ℕ → List ℕ → K → Type 0) → ((pan : List ℕ) → Example (F pan)) → (next : List ℕ → List ℕ → Part K)
    → ((pan rest : List ℕ) → Reads (F pan) rest (next pan rest)) → (text : List ℕ) → Reads (Number [] F) text (account_number_at text >>= after_number next)
unfolding account_number_at
Reads-number F example next reads text = Number-room F example next reads MAX_PAN_DIGITS [] refl refl text

-- a card between spaces, and a text with a meaning after it
abbrev pub BehindCard : {K : Type 0} → (List ℕ → ℕ → List ℕ → K → Type 0) → List ℕ → K → Type 0
BehindCard F =
    BehindByte 32 (Number [] (λ pan. Behind decimal_digit_value (λ high. Behind decimal_digit_value (λ low. BehindByte 32 (F pan (16 * high + low))))))

-- what is read behind each part
card_behind : List ℕ → ℕ × List ℕ → ℕ × List ℕ → Part CardPart
card_behind pan high low = byte_at 32 low.1 >>= λ rest. Ok (record { pan = pan; psn = 16 * high.0 + low.0; rest = rest })

low_behind : List ℕ → ℕ × List ℕ → Part CardPart
low_behind pan high = digit_at high.1 >>= card_behind pan high

high_behind : List ℕ → List ℕ → Part CardPart
high_behind pan behind = digit_at behind >>= low_behind pan

start_behind : List ℕ → Part CardPart
start_behind start = account_number_at start >>= after_number high_behind

number_then : {K : Type 0} (read : Part (List ℕ × List ℕ)) (f : List ℕ → List ℕ → Part CardPart) (next : CardPart → Part K)
    → (read >>= after_number f) >>= next ≡ read >>= after_number (λ pan rest. f pan rest >>= next)
number_then (Ok number) f next = then_then (byte_at 32 number.1) (f number.0) next
number_then (Err rest) f next = refl

-- a card between spaces, and what is after it
pub Reads-card : {K : Type 0} (F : List ℕ → ℕ → List ℕ → K → Type 0) → ((pan : List ℕ) (psn : ℕ) → Example (F pan psn))
    → (text : List ℕ) (next : CardPart → Part K)
    → ((pan : List ℕ) (psn : ℕ) (rest : List ℕ) → Reads (F pan psn) rest (next (record { pan = pan; psn = psn; rest = rest })))
    → Reads (BehindCard F) text (card_at text >>= next)
unfolding card_at digit_at card_behind low_behind high_behind start_behind
Reads-card {K} F example text next reads =
    subst (Reads (BehindCard F) text) (sym (then_then (byte_at 32 text) start_behind next))
    (Reads-byte 32 (Number [] after_pan)
    (behind_example (is_byte 32) _ 32 0 refl (Number-example [] after_pan pan_example (record { decimal = refl; within = omega arith }))) text _ (λ start.
    subst (Reads (Number [] after_pan) start) (sym (number_then (account_number_at start) high_behind next))
    (Reads-number after_pan pan_example (λ pan behind. high_behind pan behind >>= next) pan_reads start)))
  where
    after_low : List ℕ → ℕ → ℕ → List ℕ → K → Type 0
    after_low pan high low = BehindByte 32 (F pan (16 * high + low))

    after_high : List ℕ → ℕ → List ℕ → K → Type 0
    after_high pan high = Behind decimal_digit_value (after_low pan high)

    after_pan : List ℕ → List ℕ → K → Type 0
    after_pan pan = Behind decimal_digit_value (after_high pan)

    low_example : (pan : List ℕ) (high low : ℕ) → Example (after_low pan high low)
    low_example pan high low = behind_example (is_byte 32) (λ v. F pan (16 * high + low)) 32 0 refl (example pan (16 * high + low))

    high_example : (pan : List ℕ) (high : ℕ) → Example (after_high pan high)
    high_example pan high = behind_example decimal_digit_value (after_low pan high) 48 0 refl (low_example pan high 0)

    pan_example : (pan : List ℕ) → Example (after_pan pan)
    pan_example pan = behind_example decimal_digit_value (after_high pan) 48 0 refl (high_example pan 0)

    low_reads : (pan : List ℕ) (high low : ℕ) (rest : List ℕ)
        → Reads (after_low pan high low) rest ((byte_at 32 rest >>= λ left. Ok (record { pan = pan; psn = 16 * high + low; rest = left })) >>= next)
    low_reads pan high low rest =
        subst (Reads (after_low pan high low) rest)
        (sym (then_then (byte_at 32 rest) (λ left. Ok (record { pan = pan; psn = 16 * high + low; rest = left })) next))
        (Reads-byte 32 (F pan (16 * high + low)) (low_example pan high low) rest _ (reads pan (16 * high + low)))

    high_reads : (pan : List ℕ) (high : ℕ) (rest : List ℕ) → Reads (after_high pan high) rest (low_behind pan (high, rest) >>= next)
    high_reads pan high rest =
        subst (Reads (after_high pan high) rest) (sym (then_then (value_at decimal_digit_value rest) (card_behind pan (high, rest)) next))
        (Reads-behind decimal_digit_value (after_low pan high) (high_example pan high) rest _ (low_reads pan high))

    pan_reads : (pan rest : List ℕ) → Reads (after_pan pan) rest (high_behind pan rest >>= next)
    pan_reads pan rest =
        subst (Reads (after_pan pan) rest) (sym (then_then (value_at decimal_digit_value rest) (low_behind pan) next))
        (Reads-behind decimal_digit_value (after_high pan) (pan_example pan) rest _ (high_reads pan))

-- the text of a card between spaces, and a text with a meaning after it
pub record SpellsCard {K : Type 0} (F : List ℕ → ℕ → List ℕ → K → Type 0) (text : List ℕ) (kind : K) : Type 0 where
  pub pan : List ℕ
  pub psn : ℕ
  pub rest : List ℕ
  pub spelled : text ≡ 32 ∷ digits_text pan ++ 32 ∷ (48 + psn / 16) ∷ (48 + psn % 16) ∷ 32 ∷ rest
  pub card : IsCard pan psn
  pub means : F pan psn rest kind

-- two decimal digits as a byte, and back
bcd-digits : (high low : ℕ) → high ≤ 9 → low ≤ 9 → is_bcd (16 * high + low) ≡ true
unfolding is_bcd
bcd-digits high low small_high small_low =
    let first : (16 * high + low) / 16 ≤ 9 = omega arith in
    let second : (16 * high + low) % 16 ≤ 9 = omega arith in
    and_from _ _ (le-leb _ _ first) (le-leb _ _ second)

digits-bcd : (psn : ℕ) → is_bcd psn ≡ true → (psn / 16 ≤ 9) × (psn % 16 ≤ 9)
unfolding is_bcd
digits-bcd psn decimal = let parts = and_parts _ _ decimal in (leb-true _ _ parts.0, leb-true _ _ parts.1)

-- what is behind the account number
card_from : {K : Type 0} (F : List ℕ → ℕ → List ℕ → K → Type 0) (pan text rest : List ℕ) (kind : K) → is_pan pan ≡ true
    → text ≡ 32 ∷ digits_text pan ++ 32 ∷ rest
    → Behind decimal_digit_value (λ high. Behind decimal_digit_value (λ low. BehindByte 32 (F pan (16 * high + low)))) rest kind → SpellsCard F text kind
card_from F pan text [] kind number spelled means = absurd means
card_from F pan text (high ∷ []) kind number spelled means = absurd means.2
card_from F pan text (high ∷ low ∷ []) kind number spelled means = absurd means.2.2
card_from F pan text (high ∷ low ∷ space ∷ rest) kind number spelled means =
    let first = decimal_digit_value-some high means.0 means.1 in
    let second = decimal_digit_value-some low means.2.0 means.2.1 in
    let third = is_byte-same 32 space means.2.2.0 means.2.2.1 in
    let psn : ℕ = 16 * means.0 + means.2.0 in
    let is_high : high ≡ 48 + psn / 16 = omega (arith, first.0, first.1, second.1) in
    let is_low : low ≡ 48 + psn % 16 = omega (arith, second.0, first.1, second.1) in
    let same : high ∷ low ∷ space ∷ rest ≡ (48 + psn / 16) ∷ (48 + psn % 16) ∷ 32 ∷ rest = rw (is_high, is_low, third) refl in
    record {
      pan = pan;
      psn = psn;
      rest = rest;
      spelled = spelled ∙ ap (λ (others : List ℕ). 32 ∷ digits_text pan ++ 32 ∷ others) same;
      card = record { number = number; sequence = bcd-digits means.0 means.2.0 first.1 second.1 };
      means = means.2.2.2;
    }

pub card-behind : {K : Type 0} (F : List ℕ → ℕ → List ℕ → K → Type 0) (text : List ℕ) (kind : K) → BehindCard F text kind → SpellsCard F text kind
card-behind F [] kind means = absurd means
card-behind F (space ∷ text) kind means =
    let found = means.2 in
    let here = is_byte-same 32 space means.0 means.1 in
    card_from F found.digits (space ∷ text) found.rest kind found.number
    (ap (λ (b : ℕ). b ∷ text) here ∙ ap (λ (others : List ℕ). 32 ∷ others) found.spelled) found.means

pub behind-card : {K : Type 0} (F : List ℕ → ℕ → List ℕ → K → Type 0) (text : List ℕ) (kind : K) → SpellsCard F text kind → BehindCard F text kind
behind-card F text kind spells =
    let digits = digits-bcd spells.psn spells.card.sequence in
    let same : 16 * (spells.psn / 16) + spells.psn % 16 ≡ spells.psn = omega arith in
    subst (λ (others : List ℕ). BehindCard F others kind) (sym spells.spelled) (
      0,
      refl,
      record {
        digits = spells.pan;
        rest = (48 + spells.psn / 16) ∷ (48 + spells.psn % 16) ∷ 32 ∷ spells.rest;
        spelled = refl;
        number = spells.card.number;
        means = (
          spells.psn / 16,
          decimal_digit_value-text _ digits.0,
          (spells.psn % 16, decimal_digit_value-text _ digits.1, (0, refl, subst (λ psn. F spells.pan psn spells.rest kind) (sym same) spells.means)),
        );
      },
    )
