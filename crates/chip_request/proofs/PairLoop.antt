-- Reading pairs of digits one after another.
use Rattle.std.proofs.Common.{◌≡◌, ℕ, ◌+◌, ◌-◌, ◌*◌, ◌<◌, ◌≤◌, ◌==◌, true, false, List, [], ◌∷◌, length, take}
use Rattle.std.proofs.Common.{drop, get_or, set, Option, Some, None, Ok, Err, is_err, refl, sym, ap, ◌∙◌, length-drop, arith}
use Rattle.std.proofs.lemmas.Bool.{ne_eqb, eqb-false}
use Rattle.std.proofs.lemmas.List.{drop_more, take_rest}
use Rattle.std.proofs.lemmas.Grind.{take-set_at}
use Rattle.hex.specs.Hex.{hex_digit_value}
use Rattle.chip_request.specs.HexDigits.{value_below, pair_of}
use Rattle.chip_request.specs.LineParts.{Part, ◌>>=◌, value_in_front, hex_digit_at, pair_at, data_at}
use Rattle.chip_request.proofs.HexTable.{some_of, none_of}
use Rattle.chip_request.proofs.LoopsOfParts.{behind_bytes, behind_bytes-one, data_at-last, data_at-full, data_at-stopped}

-- the values of two digits that spell a byte
record Digits (high low : Option ℕ) (byte : ℕ) : Type 0 where
  high_value : ℕ
  low_value : ℕ
  is_high : high ≡ Some high_value
  is_low : low ≡ Some low_value
  joined : byte ≡ 16 * high_value + low_value

digits_of_pair : (high low : Option ℕ) (byte : ℕ) → pair_of high low ≡ Some byte → Digits high low byte
digits_of_pair None low byte e = absurd cc
digits_of_pair (Some high) None byte e = absurd cc
digits_of_pair (Some high) (Some low) byte e = let same : 16 * high + low ≡ byte = cc in
    record { high_value = high; low_value = low; is_high = refl; is_low = refl; joined = sym same }

front_of : (high low byte high_value low_value : ℕ) (rest : List ℕ) → hex_digit_value high ≡ Some high_value
    → hex_digit_value low ≡ Some low_value → byte ≡ 16 * high_value + low_value → pair_at (high ∷ low ∷ rest) ≡ Ok (byte, rest)
unfolding pair_at hex_digit_at
front_of high low byte high_value low_value rest is_high is_low joined = rw (is_high, is_low, joined) refl

front_pair : (high low byte : ℕ) (rest : List ℕ) → pair_of (hex_digit_value high) (hex_digit_value low) ≡ Some byte
    → pair_at (high ∷ low ∷ rest) ≡ Ok (byte, rest)
front_pair high low byte rest e =
    let digits = digits_of_pair (hex_digit_value high) (hex_digit_value low) byte e in
    front_of high low byte digits.high_value digits.low_value rest digits.is_high digits.is_low digits.joined

second_fails : (low : Option ℕ) (digit value : ℕ) (rest : List ℕ) → low ≡ None
    → is_err {T = ℕ × List ℕ} (value_in_front low digit rest >>= λ found. Ok (16 * value + found.0, found.1)) ≡ true
second_fails None digit value rest none = refl
second_fails (Some found) digit value rest none = absurd cc

first_fails : (high : Option ℕ) (digit low : ℕ) (rest : List ℕ) → pair_of high (hex_digit_value low) ≡ None
    → is_err {T = ℕ × List ℕ} (value_in_front high digit (low ∷ rest)
    >>= λ found. hex_digit_at found.1 >>= λ behind. Ok (16 * found.0 + behind.0, behind.1)) ≡ true
unfolding hex_digit_at
first_fails None digit low rest none = refl
first_fails (Some value) digit low rest none = second_fails (hex_digit_value low) low value rest (none_behind (hex_digit_value low) value none)
  where
    none_behind : (low : Option ℕ) (value : ℕ) → pair_of (Some value) low ≡ None → low ≡ None
    none_behind None value e = refl
    none_behind (Some found) value e = absurd cc

one_fails : (high : Option ℕ) (digit : ℕ)
    → is_err {T = ℕ × List ℕ} (value_in_front high digit [] >>= λ found. hex_digit_at found.1 >>= λ behind. Ok (16 * found.0 + behind.0, behind.1)) ≡ true
unfolding hex_digit_at
one_fails None digit = refl
one_fails (Some value) digit = refl

-- one byte is no pair
pub short_fails : (text : List ℕ) → length text < 2 → is_err (pair_at text) ≡ true
unfolding pair_at hex_digit_at
short_fails [] short = refl
short_fails (digit ∷ []) short = one_fails (hex_digit_value digit) digit
short_fails (high ∷ low ∷ rest) short = absurd (omega arith)

front_fails : (high low : ℕ) (rest : List ℕ) → pair_of (hex_digit_value high) (hex_digit_value low) ≡ None
    → is_err (pair_at (high ∷ low ∷ rest)) ≡ true
unfolding pair_at hex_digit_at
front_fails high low rest none = first_fails (hex_digit_value high) high low rest none

-- two bytes of a text at a place
two_ahead : (text : List ℕ) (place d e : ℕ) → 2 * place + 1 < length text
    → drop (2 * place) text ≡ get_or text (2 * place) d ∷ get_or text (2 * place + 1) e ∷ drop (2 * (place + 1)) text
two_ahead text place d e here =
    let next : 2 * place + 1 + 1 ≡ 2 * (place + 1) = omega arith in
    drop_more text (2 * place) d (omega arith)
    ∙ ap (λ rest. get_or text (2 * place) d ∷ rest)
    (drop_more text (2 * place + 1) e here ∙ ap (λ n. get_or text (2 * place + 1) e ∷ drop n text) next)

-- the pair at a place spells a byte
pub pair_ahead : (text : List ℕ) (place value d e : ℕ) → 2 * place + 1 < length text → value < 256
    → value_below 256 value ≡ pair_of (hex_digit_value (get_or text (2 * place) d)) (hex_digit_value (get_or text (2 * place + 1) e))
    → pair_at (drop (2 * place) text) ≡ Ok (value, drop (2 * (place + 1)) text)
pair_ahead text place value d e here below spelled =
    ap pair_at (two_ahead text place d e here)
    ∙ front_pair (get_or text (2 * place) d) (get_or text (2 * place + 1) e) value (drop (2 * (place + 1)) text) (sym spelled ∙ some_of value below)

-- it spells none
pub pair_fails : (text : List ℕ) (place value d e : ℕ) → 2 * place + 1 < length text → 256 ≤ value
    → value_below 256 value ≡ pair_of (hex_digit_value (get_or text (2 * place) d)) (hex_digit_value (get_or text (2 * place + 1) e))
    → is_err (pair_at (drop (2 * place) text)) ≡ true
pair_fails text place value d e here large spelled =
    ap (λ rest. is_err (pair_at rest)) (two_ahead text place d e here)
    ∙ front_fails (get_or text (2 * place) d) (get_or text (2 * place + 1) e) (drop (2 * (place + 1)) text) (sym spelled ∙ none_of value large)

is_more : (n : ℕ) (text : List ℕ) → n < length text → (length (drop n text) == 0) ≡ false
is_more n text more =
    ne_eqb (length (drop n text)) 0 (λ none. let same : length text - n ≡ 0 = sym (length-drop n text) ∙ none in absurd (omega arith))

-- a text that goes on after its front
pub goes_beyond : (n : ℕ) (text : List ℕ) → (length (take (length text - n) (drop n text)) == 0) ≡ false → n < length text
goes_beyond n text is_not =
    let rest : length (take (length text - n) (drop n text)) ≡ length text - n = ap length (take_rest text n) ∙ length-drop n text in
    let more : length text - n ≡ 0 → ⊥ = λ none. eqb-false _ _ is_not (rest ∙ none) in
    omega (arith, more)

-- one more byte, and the text goes on
pub goes_on : (limit place value : ℕ) (bytes text : List ℕ) → place < limit → place < length bytes
    → pair_at (drop (2 * place) text) ≡ Ok (value, drop (2 * (place + 1)) text)
    → behind_bytes (take place bytes) (data_at (limit - place) (drop (2 * place) text)) ≡ data_at limit text
    → 2 * (place + 1) < length text
    → behind_bytes (take (place + 1) (set bytes place value)) (data_at (limit - (place + 1)) (drop (2 * (place + 1)) text)) ≡ data_at limit text
goes_on limit place value bytes text room here pair found more =
    ap (λ front. behind_bytes front (data_at (limit - (place + 1)) (drop (2 * (place + 1)) text))) (take-set_at bytes place (place + 1) value refl here)
    ∙ behind_bytes-one (limit - place) (limit - (place + 1)) (take place bytes) (drop (2 * place) text) value (drop (2 * (place + 1)) text) (omega arith) pair
    (is_more (2 * (place + 1)) text more)
    ∙ found

-- one more byte at the end of the text
pub ends_here : (limit place value : ℕ) (bytes text : List ℕ) → place < limit → place < length bytes
    → pair_at (drop (2 * place) text) ≡ Ok (value, drop (2 * (place + 1)) text)
    → behind_bytes (take place bytes) (data_at (limit - place) (drop (2 * place) text)) ≡ data_at limit text
    → length text ≤ 2 * (place + 1)
    → Ok (take (place + 1) (set bytes place value)) ≡ data_at limit text
ends_here limit place value bytes text room here pair found end =
    ap Ok (take-set_at bytes place (place + 1) value refl here)
    ∙ data_at-last (limit - place) (limit - (place + 1)) (take place bytes) (drop (2 * place) text) value (drop (2 * (place + 1)) text) (omega arith) pair
    (rw length-drop (omega arith))
    ∙ found

behind_none : (part : Part (List ℕ)) → behind_bytes [] part ≡ part
behind_none (Ok bytes) = refl
behind_none (Err rest) = refl

-- an empty text has no data
pub no_text : (limit : ℕ) (text : List ℕ) → 1 ≤ limit → length text ≡ 0 → Err text ≡ data_at limit text
unfolding pair_at hex_digit_at
no_text limit [] some end = data_at-stopped limit (limit - 1) [] [] [] (omega arith) refl ∙ behind_none (data_at limit [])
no_text limit (digit ∷ text) some end = absurd (omega arith)

-- no more room, and the text goes on
pub no_room : (limit place pairs : ℕ) (bytes text : List ℕ) → place ≡ pairs → pairs ≡ limit
    → behind_bytes (take place bytes) (data_at (limit - place) (drop (2 * place) text)) ≡ data_at limit text
    → Err (drop (2 * pairs) text) ≡ data_at limit text
no_room limit place pairs bytes text here full found =
    ap (λ n. Err (drop (2 * n) text)) (sym here)
    ∙ data_at-full (limit - place) (take place bytes) (drop (2 * place) text) (omega arith) ∙ found

-- no more pairs
pub no_pair : (limit place pairs : ℕ) (bytes text rest : List ℕ) → place ≡ pairs → place < limit → pair_at (drop (2 * pairs) text) ≡ Err rest
    → behind_bytes (take place bytes) (data_at (limit - place) (drop (2 * place) text)) ≡ data_at limit text
    → Err rest ≡ data_at limit text
no_pair limit place pairs bytes text rest here room stopped found =
    data_at-stopped (limit - place) (limit - (place + 1)) (take place bytes) (drop (2 * place) text) rest (omega arith)
    (ap (λ n. pair_at (drop (2 * n) text)) here ∙ stopped)
    ∙ found

-- the bytes so far and those of the rest are those of the text, and the bytes so far alone where nothing is left
pub record HasFront (limit place : ℕ) (bytes text : List ℕ) : Type 0 where
  pub more : 2 * place < length text → behind_bytes (take place bytes) (data_at (limit - place) (drop (2 * place) text)) ≡ data_at limit text
  pub end : length text ≤ 2 * place → Ok (take place bytes) ≡ data_at limit text

-- before the first pair of a text
pub no_front : (limit : ℕ) (bytes text : List ℕ) → 0 < length text → HasFront limit 0 bytes text
no_front limit bytes text some =
    let all : limit - 0 ≡ limit = omega arith in
    record { more = λ _. rw all (behind_none (data_at limit text)); end = λ none. absurd (omega (arith, some, none)) }

-- one more pair of digits
pub front_goes_on : (limit place byte : ℕ) (bytes text : List ℕ) → place < limit → place < length bytes → 2 * place + 1 < length text
    → pair_of (hex_digit_value (get_or text (2 * place) 0)) (hex_digit_value (get_or text (2 * place + 1) 0)) ≡ Some byte
    → HasFront limit place bytes text → HasFront limit (place + 1) (set bytes place byte) text
front_goes_on limit place byte bytes text room here within spelled front =
    let pair = ap pair_at (two_ahead text place 0 0 within)
    ∙ front_pair (get_or text (2 * place) 0) (get_or text (2 * place + 1) 0) byte (drop (2 * (place + 1)) text) spelled in
    let before = front.more (omega (arith, within)) in
    record {
      more = goes_on limit place byte bytes text room here pair before;
      end = ends_here limit place byte bytes text room here pair before;
    }

-- behind the last pair
pub whole_front : (limit place pairs : ℕ) (bytes text : List ℕ) → place ≡ pairs → length text ≤ 2 * pairs → HasFront limit place bytes text
    → Ok (take pairs bytes) ≡ data_at limit text
whole_front limit place pairs bytes text here all front =
    ap (λ n. Ok (take n bytes)) (sym here) ∙ front.end (omega (arith, here, all))
