-- The number that digits say.
use Rattle.std.proofs.Common.{◌≡◌, ℕ, ◌+◌, ◌-◌, ◌*◌, ◌^◌, ◌<◌, ◌≤◌, true, List, [], ◌∷◌, length, take, get_or, ap, subst, ◌∙◌, arith, rules, take_all}
use Rattle.std.proofs.lemmas.Int.Digits.{digits_more, digits_value_more}
use Rattle.std.proofs.lemmas.List.{length-take}
use Rattle.std.proofs.lemmas.Str.{digit_value_digit}
use Rattle.std.proofs.lemmas.Str.Parse.{digit_at, digits_value_short, numerals_by_value, tells_digits}
use Rattle.std.specs.Char.{digit_value}
use Rattle.std.specs.Int.{IsInRange}
use Rattle.std.specs.List.{list_all}
use Rattle.std.specs.Str.Parse.{AllDigits, digits_value}
use Rattle.bridge_lines.specs.Parts.{is_digit}

-- the first bytes are digits, and say the number
pub record Reads (word : List ℕ) (i number : ℕ) : Type 0 where
  pub digits : AllDigits 10 (take i word)
  pub value : number ≡ digits_value 10 (take i word)

digit-value : (byte : ℕ) → is_digit byte ≡ true → digit_value byte < 10
digit-value byte is = grind (arith, is, digit_value_digit)

-- bytes that pass the test are digits
pub all-digits : (word : List ℕ) → list_all is_digit word ≡ true → AllDigits 10 word
all-digits [] all = tt
all-digits (first ∷ word) all = (digit-value first (grind (rules, all)), all-digits word (grind (rules, all)))

module _ (word : List ℕ) (all : AllDigits 10 word) (short : length word ≤ 18) (i number : ℕ) (below : i < length word) (reads : Reads word i number) where
  -- the next byte is a digit
  pub next-digit : IsInRange 48 57 (get_or word i 0)
  next-digit = digit_at word i all below

  -- the number so far has 17 digits at most
  pub so-far : number < 10 ^ 17
  so-far =
      let size = length-take i word in
      let small = digits_value_short (numerals_by_value (AllDigits 10) tells_digits) (take i word) 17 reads.digits (omega arith) in
      let value = reads.value in
      omega (arith, small, value)

  -- with the next digit
  pub reads-more : (more : ℕ) → more ≡ number * 10 + (get_or word i 0 - 48) → Reads word (i + 1) more
  reads-more more more_is =
      let value = digit_value_digit (get_or word i 0) next-digit in
      let digit : digit_value (get_or word i 0) < 10 = let range = next-digit in omega (arith, value, range) in
      let sum = digits_value_more 10 word i below in
      let number_is = reads.value in
      record {
        digits = digits_more 10 word i below reads.digits digit;
        value = omega (arith, more_is, value, sum, number_is);
      }

-- all of them
pub reads-all : (word : List ℕ) (i number : ℕ) → length word ≤ 18 → length word ≤ i → Reads word i number
    → (number ≡ digits_value 10 word) × (number < 10 ^ 18)
reads-all word i number short all reads =
    let whole = take_all i word all in
    let value : number ≡ digits_value 10 word = reads.value ∙ ap (digits_value 10) whole in
    let digits : AllDigits 10 word = subst (AllDigits 10) whole reads.digits in
    let small = digits_value_short (numerals_by_value (AllDigits 10) tells_digits) word 18 digits short in
    (value, omega (arith, value, small))
