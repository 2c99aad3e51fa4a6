-- A word is the shortest decimals of the number that its digits say, or of none.
use Rattle.std.proofs.Common.{◌≡◌, ℕ, zero, suc, ◌+◌, ◌*◌, ◌^◌, ◌<◌, ◌≤◌, List, [], ◌∷◌, length, take, get_or, sym, ap, subst, ◌∙◌, arith, ⊎_elim, take_all}
use Rattle.std.proofs.lemmas.Bool.{cases_lt}
use Rattle.std.proofs.lemmas.Fmt.{decimal-digits_value, decimal_digit, decimal_is_IsNumeral, decimal_nonempty, first_decimal}
use Rattle.std.proofs.lemmas.Int.Digits.{digits_more, digits_value_more}
use Rattle.std.proofs.lemmas.Str.Parse.{digits_value-take-le, numerals_by_value, tells_digits}
use Rattle.std.specs.Char.{digit_value}
use Rattle.std.specs.Fmt.{decimal}
use Rattle.std.specs.Str.Parse.{AllDigits, digits_value}

-- the word is of digits, and they say the number, which isn't too large
pub record Says (word : List ℕ) (number : ℕ) : Type 0 where
  pub digits : AllDigits 10 word
  pub value : number ≡ digits_value 10 word
  pub fits : number < 2 ^ 64

digit-at : (word : List ℕ) (i : ℕ) → AllDigits 10 word → i < length word → digit_value (get_or word i 0) < 10
digit-at [] i all below = absurd (omega arith)
digit-at (x ∷ word) zero all below = all.0
digit-at (x ∷ word) (suc i) all below = digit-at word i all.1 (omega arith)

-- one more digit
pub says-more : (word : List ℕ) (i number more : ℕ) → i < length word → Says (take i word) number
    → digit_value (get_or word i 0) < 10 → more ≡ number * 10 + digit_value (get_or word i 0)
    → more < 2 ^ 64 → Says (take (i + 1) word) more
says-more word i number more below says digit more_is fits = record {
  digits = digits_more 10 word i below says.digits digit;
  value = more_is ∙ ap (λ n. n * 10 + digit_value (get_or word i 0)) says.value ∙ sym (digits_value_more 10 word i below);
  fits = fits;
}

module _ (word : List ℕ) (number : ℕ) (fits : number < 2 ^ 64) (is : word ≡ decimal number) where
  numeral : AllDigits 10 word
  numeral = subst (AllDigits 10) (sym is) (decimal_is_IsNumeral number fits).0.1

  value : digits_value 10 word ≡ number
  value = ap (digits_value 10) is ∙ (decimal_is_IsNumeral number fits).1

  -- the decimals of a number aren't empty
  pub not-empty : length word ≡ 0 → ⊥
  not-empty none = let some = decimal_nonempty number fits in let size = ap length is in absurd (omega (arith, some, size))

  -- they don't begin with 0, unless they are that digit
  pub no-zero_first : get_or word 0 0 ≡ 48 → 1 < length word → ⊥
  no-zero_first first long =
      let size = ap length is in
      let begins = ap (λ text. get_or text 0 0) is in
      ⊎_elim
      (λ (above : 0 < number). let high = first_decimal number above fits in absurd (omega (arith, high, begins, first)))
      (λ (low : number ≤ 0). let one = ap length (decimal_digit number (omega arith)) in absurd (omega (arith, size, one, long)))
      (cases_lt 0 number)

  -- each of them is a digit, and no number so far is too large
  pub not-stopped : (i so_far : ℕ) → i < length word → Says (take i word) so_far
      → (digit_value (get_or word i 0) < 10 → 2 ^ 64 ≤ so_far * 10 + digit_value (get_or word i 0)) → ⊥
  not-stopped i so_far below says large =
      let most = digits_value-take-le 10 word (i + 1) (omega arith) in
      let more = digits_value_more 10 word i below in
      let over = large (digit-at word i numeral below) in
      let so_far_is = says.value in
      absurd (omega (arith, most, more, over, value, so_far_is))

-- digits that say a number below 2^64, without a leading zero, are its decimals
pub are-decimals : (word : List ℕ) (i number : ℕ) → length word ≤ i → 0 < length word → (get_or word 0 0 ≡ 48 → length word ≡ 1)
    → Says (take i word) number → word ≡ decimal number
are-decimals word i number all some zero_first says =
    let fits = says.fits in
    let whole = take_all i word all in
    let digits : AllDigits 10 word = subst (AllDigits 10) whole says.digits in
    let value : number ≡ digits_value 10 word = says.value ∙ ap (digits_value 10) whole in
    sym (ap decimal value
    ∙ decimal-digits_value (numerals_by_value (AllDigits 10) tells_digits) word digits some zero_first (omega (arith, value)))
