-- What is read of parts is what was written, and what was written is read again.
use Rattle.std.proofs.Common.{◌≡◌, ℕ, suc, ◌^◌, ◌<◌, ◌≤◌, Bool, true, false, not, ◌&&◌, ◌||◌, ◌==◌, nat_lt, nat_le, cond, List, [], ◌∷◌, ◌++◌}
use Rattle.std.proofs.Common.{length, take, drop, get_or, Option, Some, None, refl, sym, ap, subst, ◌∙◌, arith, rules, eq-eqb, ⊎_elim, if◌then◌else◌}
use Rattle.std.specs.List.{list_all}
use Rattle.std.proofs.Math.Seq.{take-append_seam}
use Rattle.std.proofs.lemmas.Bool.{cases_lt, ltb-true, leb-true, lt-ltb, le-leb, eqb-true}
use Rattle.std.proofs.lemmas.Option.{same_Some}
use Rattle.std.proofs.lemmas.Fmt.{decimal-digits_value, decimal_is_IsNumeral, decimal_digit, decimal_nonempty, first_decimal, length-decimal-le}
use Rattle.std.proofs.lemmas.List.Folds.{list_all-append}
use Rattle.std.proofs.lemmas.Str.Parse.{digit_from_value, digits_value_short, numerals_by_value, tells_digits}
use Rattle.std.specs.Char.{digit_value}
use Rattle.std.specs.Fmt.{decimal}
use Rattle.std.specs.Str.Parse.{AllDigits, digits_value}
use Rattle.bridge_rule.specs.declared.limits.TheConstants.{LOGS}
use Rattle.bridge_lines.specs.Parts.{◌>>=◌, place, parts_at, cut, is_digit, is_name, is_name_byte, is_other, lacks, is_number, is_text}
use Rattle.bridge_lines.specs.Parts.{is_text_byte, name_in, number_in, record_in, shard_in, text_in}
use Rattle.bridge_lines.specs.Texts.{feed_line, IsSaidRecord}
use Rattle.one_history.specs.Streams.{Indexed}
use Rattle.bridge_lines.proofs.Numerals.{all-digits}

-- what was found, where what follows was
pub bind-some : {A B : Type 0} (found : Option A) (f : A → Option B) (last : B) → (found >>= f) ≡ Some last
    → (x : A) × (found ≡ Some x) × (f x ≡ Some last)
bind-some (Some x) f last is = (x, refl, is)
bind-some None f last is = absurd cc

-- a test that passed
pub guard-some : {A : Type 0} (test : Bool) (x y : A) → cond test (Some x) None ≡ Some y → (test ≡ true) × (x ≡ y)
guard-some true x y is = (refl, cc)
guard-some false x y is = absurd cc

-- both parts of a test
pub and-true : (a b : Bool) → (a && b) ≡ true → (a ≡ true) × (b ≡ true)
and-true true true is = (refl, refl)
and-true true false is = absurd cc
and-true false b is = absurd cc

pub or-true : (a b : Bool) → b ≡ true → (a || b) ≡ true
or-true true b is = refl
or-true false b is = is

-- ---- separators

pub lacks-append : (byte : ℕ) (xs ys : List ℕ) → lacks byte xs ≡ true → lacks byte ys ≡ true → lacks byte (xs ++ ys) ≡ true
lacks-append byte xs ys has have = list_all-append (is_other byte) xs ys ∙ rw (has, have) refl

-- a byte that each byte of a text fails to be
pub lacks-all : (byte : ℕ) (test : ℕ → Bool) → ((x : ℕ) → test x ≡ true → is_other byte x ≡ true) → (text : List ℕ)
    → list_all test text ≡ true → lacks byte text ≡ true
lacks-all byte test other [] all = refl
lacks-all byte test other (x ∷ text) all =
    let parts = and-true (test x) (list_all test text) all in
    rw (other x parts.0, lacks-all byte test other text parts.1) refl

pub place-found : (byte : ℕ) (bytes : List ℕ) (at : ℕ) → place byte bytes ≡ Some at
    → bytes ≡ take at bytes ++ byte ∷ drop (suc at) bytes
unfolding place
place-found byte [] at is = absurd cc
place-found byte (x ∷ bytes) at is =
    (elim (x == byte) as (λ b. (x == byte) ≡ b → cond b (Some 0) (place byte bytes >>= λ at. Some (suc at)) ≡ Some at
    → x ∷ bytes ≡ take at (x ∷ bytes) ++ byte ∷ drop (suc at) (x ∷ bytes)) [
      | true ↦ λ same here.
          let zero_is : 0 ≡ at = cc in
          subst (λ at. x ∷ bytes ≡ take at (x ∷ bytes) ++ byte ∷ drop (suc at) (x ∷ bytes)) zero_is
          (ap (λ b. b ∷ bytes) (eqb-true x byte same))
      | false ↦ λ other there.
          let found = bind-some (place byte bytes) (λ at. Some (suc at)) at there in
          let at_is : suc found.0 ≡ at = cc in
          subst (λ at. x ∷ bytes ≡ take at (x ∷ bytes) ++ byte ∷ drop (suc at) (x ∷ bytes)) at_is
          (ap (λ bs. x ∷ bs) (place-found byte bytes found.0 found.1))
    ]) refl is

-- what is cut was joined by the separator
pub cut-joined : (byte : ℕ) (bytes front rest : List ℕ) → cut byte bytes ≡ Some (front, rest) → bytes ≡ front ++ byte ∷ rest
cut-joined byte bytes front rest is =
    let found = bind-some (place byte bytes) (λ at. Some (parts_at bytes at)) (front, rest) is in
    let parts : parts_at bytes found.0 ≡ (front, rest) = cc in
    place-found byte bytes found.0 found.1
    ∙ ap (λ (both : List ℕ × List ℕ). both.0 ++ byte ∷ both.1) parts

eqb-same : (byte : ℕ) → (byte == byte) ≡ true
eqb-same byte = eq-eqb byte byte refl

pub not-false : (b : Bool) → not b ≡ true → b ≡ false
not-false true is = absurd cc
not-false false is = refl

pub drop-behind : (byte : ℕ) (front rest : List ℕ) → drop (suc (length front)) (front ++ byte ∷ rest) ≡ rest
drop-behind byte [] rest = refl
drop-behind byte (x ∷ front) rest = drop-behind byte front rest

parts-again : (byte : ℕ) (front rest : List ℕ) → parts_at (front ++ byte ∷ rest) (length front) ≡ (front, rest)
parts-again byte front rest =
    let before = take-append_seam front (byte ∷ rest) in
    let behind = drop-behind byte front rest in
    cc

pub place-again : (byte : ℕ) (front rest : List ℕ) → lacks byte front ≡ true → place byte (front ++ byte ∷ rest) ≡ Some (length front)
unfolding place
place-again byte [] rest none = rw (eqb-same byte) refl
place-again byte (x ∷ front) rest none =
    let parts = and-true (is_other byte x) (lacks byte front) none in
    let other : (x == byte) ≡ false = not-false (x == byte) parts.0 in
    rw (other, place-again byte front rest parts.1) refl

-- what was joined is cut again
pub cut-again : (byte : ℕ) (front rest : List ℕ) → lacks byte front ≡ true → cut byte (front ++ byte ∷ rest) ≡ Some (front, rest)
cut-again byte front rest none = rw (place-again byte front rest none) (ap Some (parts-again byte front rest))

-- ---- names

name-parts : (word : List ℕ) → is_name word ≡ true → list_all is_name_byte word ≡ true
unfolding is_name
name-parts word is = (and-true (nat_lt 0 (length word) && nat_le (length word) 64) (list_all is_name_byte word) is).1

pub name-is : (word name : List ℕ) → name_in word ≡ Some name → (is_name name ≡ true) × (word ≡ name)
name-is word name is =
    let passed = guard-some (is_name word) word name is in
    (subst (λ word. is_name word ≡ true) passed.1 passed.0, passed.1)

pub name-again : (name : List ℕ) → is_name name ≡ true → name_in name ≡ Some name
name-again name is = rw is refl

-- a byte of a name is no space and no newline
name_byte-other : (byte : ℕ) → is_name_byte byte ≡ true → (is_other 32 byte ≡ true) × (is_other 10 byte ≡ true)
name_byte-other byte is = grind (arith, is)

pub name-lacks : (word : List ℕ) → is_name word ≡ true → (lacks 32 word ≡ true) × (lacks 10 word ≡ true)
name-lacks word is = (
  lacks-all 32 is_name_byte (λ x is. (name_byte-other x is).0) word (name-parts word is),
  lacks-all 10 is_name_byte (λ x is. (name_byte-other x is).1) word (name-parts word is),
)

-- ---- numbers

-- what a number's digits are
record IsNumeralOf (word : List ℕ) : Type 0 where
  some : 0 < length word
  short : length word ≤ 18
  digits : AllDigits 10 word
  zero_first : get_or word 0 0 ≡ 48 → length word ≡ 1

zero-alone : (word : List ℕ) → 0 < length word → (not (get_or word 0 0 == 48) || nat_le (length word) 1) ≡ true
    → get_or word 0 0 ≡ 48 → length word ≡ 1
zero-alone word some test zero_is =
    let same : (get_or word 0 0 == 48) ≡ true = eq-eqb _ 48 zero_is in
    let short : nat_le (length word) 1 ≡ true = grind (rules, same, test) in
    let low = leb-true _ 1 short in
    omega (arith, low, some)

numeral-is : (word : List ℕ) → is_number word ≡ true → IsNumeralOf word
unfolding is_number
numeral-is word is =
    let first = and-true (nat_lt 0 (length word) && nat_le (length word) 18 && list_all is_digit word) (not (get_or word 0 0 == 48) || nat_le
    (length word) 1) is in
    let second = and-true (nat_lt 0 (length word) && nat_le (length word) 18) (list_all is_digit word) first.0 in
    let third = and-true (nat_lt 0 (length word)) (nat_le (length word) 18) second.0 in
    record {
      some = ltb-true 0 _ third.0;
      short = leb-true _ 18 third.1;
      digits = all-digits word second.1;
      zero_first = zero-alone word (ltb-true 0 _ third.0) first.1;
    }

-- a number that is read is below 10^18, and was written so
pub number-is : (word : List ℕ) (number : ℕ) → number_in word ≡ Some number → (number < 10 ^ 18) × (word ≡ decimal number)
number-is word number is =
    let passed = guard-some (is_number word) (digits_value 10 word) number is in
    let numeral = numeral-is word passed.0 in
    let small = digits_value_short (numerals_by_value (AllDigits 10) tells_digits) word 18 numeral.digits numeral.short in
    let value_is = passed.1 in
    let written = decimal-digits_value (numerals_by_value (AllDigits 10) tells_digits) word numeral.digits numeral.some numeral.zero_first (omega
    (arith, small)) in
    (omega (arith, small, value_is), sym written ∙ ap decimal value_is)

digit-test : (byte : ℕ) → digit_value byte < 10 → is_digit byte ≡ true
digit-test byte is = let range = digit_from_value byte is in grind (arith, range)

digits-all : (word : List ℕ) → AllDigits 10 word → list_all is_digit word ≡ true
digits-all [] all = refl
digits-all (x ∷ word) all = rw (digit-test x all.0, digits-all word all.1) refl

module _ (number : ℕ) (below : number < 10 ^ 18) where
  fits : number < 2 ^ 64
  fits = omega (arith, below)

  no-zero : (not (get_or (decimal number) 0 0 == 48) || nat_le (length (decimal number)) 1) ≡ true
  no-zero =
      ⊎_elim
      (λ (above : 0 < number).
      let high = first_decimal number above fits in
      let other : (get_or (decimal number) 0 0 == 48) ≡ false = grind (arith, high) in
      rw other refl)
      (λ (low : number ≤ 0).
      let one = ap length (decimal_digit number (omega arith)) in
      let short : nat_le (length (decimal number)) 1 ≡ true = le-leb _ 1 (omega (arith, one)) in
      or-true (not (get_or (decimal number) 0 0 == 48)) (nat_le (length (decimal number)) 1) short)
      (cases_lt 0 number)

  -- the decimals of a number are read as it
  pub number-again : number_in (decimal number) ≡ Some number
  unfolding is_number
  number-again =
      let numeral = decimal_is_IsNumeral number fits in
      let some : nat_lt 0 (length (decimal number)) ≡ true = lt-ltb 0 _ (decimal_nonempty number fits) in
      let short : nat_le (length (decimal number)) 18 ≡ true = le-leb _ 18 (length-decimal-le 18 number (omega arith) below fits) in
      let digits : list_all is_digit (decimal number) ≡ true = digits-all (decimal number) numeral.0.1 in
      rw (some, short, digits, no-zero) (ap Some numeral.1)

  -- they have no space and no newline
  pub decimal-lacks : (lacks 32 (decimal number) ≡ true) × (lacks 10 (decimal number) ≡ true)
  decimal-lacks =
      let digits = digits-all (decimal number) (decimal_is_IsNumeral number fits).0.1 in (
        lacks-all 32 is_digit (λ x is. grind (arith, is)) (decimal number) digits,
        lacks-all 10 is_digit (λ x is. grind (arith, is)) (decimal number) digits,
      )

-- ---- records

pub shard-is : (word : List ℕ) (shard : ℕ) → shard_in word ≡ Some shard → (shard < LOGS) × (word ≡ decimal shard)
shard-is word shard is =
    let found = bind-some (number_in word) (λ shard. if nat_lt shard LOGS then Some shard else None) shard is in
    let passed = guard-some (nat_lt found.0 LOGS) found.0 shard found.2 in
    let number = number-is word found.0 found.1 in
    let low = ltb-true found.0 LOGS passed.0 in
    (subst (λ shard. shard < LOGS) passed.1 low, number.1 ∙ ap decimal passed.1)

pub shard-again : (shard : ℕ) → shard < LOGS → shard_in (decimal shard) ≡ Some shard
shard-again shard low =
    let test : nat_lt shard LOGS ≡ true = lt-ltb shard LOGS low in
    rw (number-again shard (omega (arith, low)), test) refl

pub text-is : (text found : List ℕ) → text_in text ≡ Some found → (is_text found ≡ true) × (text ≡ found)
text-is text found is =
    let passed = guard-some (is_text text) text found is in
    (subst (λ text. is_text text ≡ true) passed.1 passed.0, passed.1)

pub text-again : (text : List ℕ) → is_text text ≡ true → text_in text ≡ Some text
text-again text is = rw is refl

pub text-lacks : (text : List ℕ) → is_text text ≡ true → lacks 10 text ≡ true
unfolding is_text
text-lacks text is =
    lacks-all 10 is_text_byte (λ x is. grind (arith, is)) text
    (and-true (nat_lt 0 (length text) && nat_le (length text) 1024) (list_all is_text_byte text) is).1

abbrev one-of : ℕ → ℕ → List ℕ → Indexed
one-of shard index text = record { shard = shard; index = index; text = text }

-- a record that is read is one, and was written so
pub record-is : (line : List ℕ) (one : Indexed) → record_in line ≡ Some one → IsSaidRecord one × (line ≡ feed_line one)
unfolding record_in
record-is line one is =
    let a = bind-some (cut 32 line) (λ parts. shard_in parts.0 >>= λ shard. cut 32 parts.1 >>= λ rest. number_in rest.0 >>= λ index. text_in rest.1
    >>= λ text. Some (one-of shard index text)) one is in
    let b = bind-some (shard_in a.0.0) (λ shard. cut 32 a.0.1 >>= λ rest. number_in rest.0 >>= λ index. text_in rest.1 >>= λ text. Some
    (one-of shard index text)) one a.2 in
    let d = bind-some (cut 32 a.0.1) (λ rest. number_in rest.0 >>= λ index. text_in rest.1 >>= λ text. Some (one-of b.0 index text)) one b.2 in
    let e = bind-some (number_in d.0.0) (λ index. text_in d.0.1 >>= λ text. Some (one-of b.0 index text)) one d.2 in
    let f = bind-some (text_in d.0.1) (λ text. Some (one-of b.0 e.0 text)) one e.2 in
    let one_is : one-of b.0 e.0 f.0 ≡ one = same_Some _ _ f.2 in
    let shard = shard-is a.0.0 b.0 b.1 in
    let index = number-is d.0.0 e.0 e.1 in
    let text = text-is d.0.1 f.0 f.1 in
    let rest : a.0.1 ≡ decimal e.0 ++ 32 ∷ f.0 = cut-joined 32 a.0.1 d.0.0 d.0.1 d.1 ∙ ap (λ word. word ++ 32 ∷ d.0.1) index.1 ∙ ap
    (λ text. decimal e.0 ++ 32 ∷ text) text.1 in
    let whole : line ≡ feed_line (one-of b.0 e.0 f.0) =
    cut-joined 32 line a.0.0 a.0.1 a.1 ∙ ap (λ word. word ++ 32 ∷ a.0.1) shard.1 ∙ ap (λ rest. decimal b.0 ++ 32 ∷ rest) rest in
    subst (λ one. IsSaidRecord one × (line ≡ feed_line one)) one_is
    (record { shard = shard.0; index = index.0; text = text.0 }, whole)

-- a record that was written is read again
pub record-again : (one : Indexed) → IsSaidRecord one → record_in (feed_line one) ≡ Some one
unfolding record_in
record-again one said =
    let shard = shard-again one.shard said.shard in
    let first = cut-again 32 (decimal one.shard) (decimal one.index ++ 32 ∷ one.text) (decimal-lacks one.shard (let low = said.shard in omega
    (arith, low))).0 in
    let second = cut-again 32 (decimal one.index) one.text (decimal-lacks one.index said.index).0 in
    rw (first, shard, second, number-again one.index said.index, text-again one.text said.text) refl

-- its line has no newline
pub feed_line-lacks : (one : Indexed) → IsSaidRecord one → lacks 10 (feed_line one) ≡ true
feed_line-lacks one said =
    let shard = (decimal-lacks one.shard (let low = said.shard in omega (arith, low))).1 in
    let index = (decimal-lacks one.index said.index).1 in
    let rest = lacks-append 10 (decimal one.index) (32 ∷ one.text) index (text-lacks one.text said.text) in
    lacks-append 10 (decimal one.shard) (32 ∷ (decimal one.index ++ 32 ∷ one.text)) shard rest
