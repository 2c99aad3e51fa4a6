-- What is an account number.
use Rattle.std.proofs.Common.{◌≡◌, ℕ, suc, ◌<◌, Bool, true, false, ◌&&◌, nat_le, if◌then◌else◌, List, [], ◌∷◌, ◌++◌, length, get_or, take, map, None, refl}
use Rattle.std.proofs.Common.{ap, ap₂, ◌∙◌, arith}
use Rattle.std.proofs.lemmas.Bool.{and_parts}
use Rattle.std.proofs.lemmas.List.{length-map, take-map, take_at}
use Rattle.std.specs.Char.{digit_value, is_ascii_digit}
use Rattle.std.specs.List.{list_all}
use Rattle.issuer_base.specs.CardNumber.{is_pan, pan_from}
use Rattle.config_read.specs.Words.{past_zero, pan_of}

-- more than nineteen characters are no account number
pub pan_of-long : (text : List ℕ) → 19 < length text → pan_of text ≡ None
unfolding pan_of pan_from is_pan
pan_of-long text long =
    let same : length (map digit_value text) ≡ length text = length-map text digit_value in
    grind (arith, same)

-- a digit alone stands at most 9 behind the digit 0, and so far behind it as its value is
past_zero-digit : (character : ℕ) → character < 256 → nat_le (past_zero character) 9 ≡ is_ascii_digit character
unfolding past_zero
past_zero-digit character small = grind arith

past_zero-value : (character : ℕ) → character < 256 → is_ascii_digit character ≡ true → past_zero character ≡ digit_value character
unfolding past_zero
past_zero-value character small digit = grind arith

-- so all characters are digits where none stands farther behind
all-digits : (text : List ℕ) → ((k : ℕ) → get_or text k 0 < 256) → list_all (λ digit. nat_le digit 9) (map past_zero text) ≡ list_all is_ascii_digit text
all-digits [] small = refl
all-digits (character ∷ text) small =
    ap₂ (λ first rest. first && rest) (past_zero-digit character (small 0)) (all-digits text (λ k. small (suc k)))

all-values : (text : List ℕ) → ((k : ℕ) → get_or text k 0 < 256) → list_all is_ascii_digit text ≡ true → map past_zero text ≡ map digit_value text
all-values [] small digits = refl
all-values (character ∷ text) small digits =
    let parts = and_parts (is_ascii_digit character) (list_all is_ascii_digit text) digits in
    ap₂ (λ first rest. first ∷ rest) (past_zero-value character (small 0) parts.0) (all-values text (λ k. small (suc k)) parts.1)

-- numbers of which one is above 9 are no account number
tested : (numbers digits : List ℕ) (passed : Bool) → list_all (λ digit. nat_le digit 9) numbers ≡ passed → (passed ≡ true → numbers ≡ digits)
    → pan_from numbers ≡ (if passed then pan_from digits else None)
unfolding pan_from is_pan
tested numbers digits true all same = ap pan_from (same refl)
tested numbers digits false all same = grind (arith, all)

-- the account number that characters write
pub pan_of-past_zero : (text : List ℕ) → ((k : ℕ) → get_or text k 0 < 256) → pan_from (map past_zero text) ≡ pan_of text
unfolding pan_of
pan_of-past_zero text small =
    tested (map past_zero text) (map digit_value text) (list_all is_ascii_digit text) (all-digits text small) (all-values text small)

-- what stands in front of an array that was filled from there
pub front-past_zero : (text copied rest measured : List ℕ) (count : ℕ) → measured ≡ map past_zero (copied ++ rest) → copied ≡ text
    → length text ≡ count → take count measured ≡ map past_zero text
front-past_zero text copied rest measured count is same long =
    ap (take count) is ∙ take-map past_zero count (copied ++ rest)
    ∙ ap (map past_zero) (take_at copied rest count (ap length same ∙ long) ∙ same)
