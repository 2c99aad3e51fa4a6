-- A line begins with at most one shard and index, and a feed line with its own.
use Rattle.std.proofs.Common.{◌≡◌, ℕ, ◌+◌, ◌^◌, zero, suc, ◌/◌, ◌%◌, ◌<◌, ◌≤◌, ◌==◌, Bool, true, false, not, if◌then◌else◌, List, [], ◌∷◌, ◌++◌, refl, sym, ap, ◌∙◌, arith}
use Rattle.std.proofs.Common.{rules, Option, Some, None, length, take, drop, get_or, eq-eqb, ⊎_elim, length-append, append_assoc}
use Rattle.std.proofs.Math.Seq.{get_or-append_seam, take-append_seam}
use Rattle.std.proofs.lemmas.Bool.{cases_lt, eqb-true}
use Rattle.std.proofs.lemmas.List.{drop_more, get_or_append_left, take-append-drop}
use Rattle.std.proofs.lemmas.Fmt.{decimal_injective, length-decimal-le}
use Rattle.issuer_base.specs.declared.entry.Entry.{Entry}
use Rattle.issuer_base.specs.declared.limits.TheConstants.{MAX_SHARDS}
use Rattle.journal_rec.specs.Record.{IsRecord}
use Rattle.journal_rec.specs.RecordText.{text_of}
use Rattle.journal_rec.proofs.TextLaws.{length-text_of}
use Rattle.feed_text.specs.FeedText.{HasHead, feed_line}
use Rattle.feed_text.specs.declared.limits.TheConstants.{MOST_FEED_BYTES, PLACE_END}
use Rattle.memchr.specs.Find.{IsFirstByte, is_byte}
use Rattle.std.specs.List.{list_all}
use Rattle.std.specs.Fmt.{decimal, digit_glyph, digits, digits_onto}

-- a byte is no space
abbrev pub is_inner : ℕ → Bool
is_inner byte = not (byte == 32)

-- a word has no space
abbrev pub has_no_space : List ℕ → Bool
has_no_space word = list_all is_inner word

digit-inner : (d : ℕ) → is_inner (digit_glyph false d) ≡ true
digit-inner d = grind arith

digits_onto-inner : (k n : ℕ) (acc : List ℕ) → has_no_space acc ≡ true → has_no_space (digits_onto k 10 false n acc) ≡ true
digits_onto-inner zero n acc h = h
digits_onto-inner (suc k) n acc h =
    let more : has_no_space (digit_glyph false (n % 10) ∷ acc) ≡ true = rw (digit-inner (n % 10)) h in
    elim (n / 10 == 0) as
    (λ b. has_no_space (if b then digit_glyph false (n % 10) ∷ acc else digits_onto k 10 false (n / 10) (digit_glyph false (n % 10) ∷ acc)) ≡ true) [
      | true ↦ more
      | false ↦ digits_onto-inner k (n / 10) (digit_glyph false (n % 10) ∷ acc) more
    ]

-- the digits of a number have no space
pub decimal-inner : (n : ℕ) → has_no_space (decimal n) ≡ true
unfolding digits
decimal-inner n = digits_onto-inner 64 n [] refl

-- a word without a space has none at any place
get_or-inner : (word : List ℕ) (k : ℕ) → has_no_space word ≡ true → is_inner (get_or word k 0) ≡ true
get_or-inner [] k h = refl
get_or-inner (x ∷ xs) zero h = grind arith
get_or-inner (x ∷ xs) (suc k) h = get_or-inner xs k (grind arith)

module _ (line word rest : List ℕ) (inner : has_no_space word ≡ true) (line_is : line ≡ word ++ 32 ∷ rest) where
  within : length word < length line
  within = let sum = length-append word (32 ∷ rest) in let size = ap length line_is in omega (arith, sum, size)

  at_end : get_or line (length word) 0 ≡ 32
  at_end = ap (λ text. get_or text (length word) 0) line_is ∙ get_or-append_seam word 32 rest 0

  -- a line that begins with a word and a space has a space
  pub has-space : (found : Option ℕ) → IsFirstByte (is_byte 32) line found → found ≡ None → ⊥
  has-space None none is = none (length word) (omega arith) within (eq-eqb _ 32 at_end)
  has-space (Some place) first is = absurd (grind (rules, is))

  no_space_before : (place : ℕ) → place < length word → get_or line place 0 ≡ 32 → ⊥
  no_space_before place below is =
      let same : get_or word place 0 ≡ 32 =
      sym (get_or_append_left word (32 ∷ rest) 0 place below) ∙ sym (ap (λ text. get_or text place 0) line_is) ∙ is in
      let plain : is_inner (get_or word place 0) ≡ true = get_or-inner word place inner in
      let other : is_inner (get_or word place 0) ≡ false = ap is_inner same in
      absurd (grind (rules, plain, other))

  -- its first space ends the word
  pub ends-word : (place : ℕ) → IsFirstByte (is_byte 32) line (Some place) → place ≡ length word
  ends-word place first =
      ⊎_elim
      (λ below. absurd (no_space_before place below (eqb-true _ 32 first.1)))
      (λ above. ⊎_elim
      (λ after. absurd (first.0.before (length word) (omega arith) after (eq-eqb _ 32 at_end)))
      (λ up_to. omega (arith, above, up_to))
      (cases_lt (length word) place))
      (cases_lt place (length word))

  -- what is before it is the word
  pub word-before : (place : ℕ) → IsFirstByte (is_byte 32) line (Some place) → take place line ≡ word
  word-before place first =
      ap (λ n. take n line) (ends-word place first) ∙ ap (take (length word)) line_is ∙ take-append_seam word (32 ∷ rest)

-- where a line has a space, the word before it and what follows it are the line
pub parted-at : (line : List ℕ) (place : ℕ) → IsFirstByte (is_byte 32) line (Some place)
    → line ≡ take place line ++ 32 ∷ drop (place + 1) line
parted-at line place first =
    let byte : get_or line place 0 ≡ 32 = eqb-true _ 32 first.1 in
    sym (take-append-drop place line)
    ∙ ap (λ text. take place line ++ text)
    (drop_more line place 0 first.0.high ∙ ap (λ b. b ∷ drop (place + 1) line) byte)

word-apart : (word other rest behind : List ℕ) → has_no_space word ≡ true → has_no_space other ≡ true
    → word ++ 32 ∷ rest ≡ other ++ 32 ∷ behind → (word ≡ other) × (rest ≡ behind)
word-apart [] [] rest behind h g same = (refl, grind (rules, same))
word-apart [] (y ∷ other) rest behind h g same = absurd (grind (arith, g, same))
word-apart (x ∷ word) [] rest behind h g same = absurd (grind (arith, h, same))
word-apart (x ∷ word) (y ∷ other) rest behind h g same =
    let here : x ≡ y = grind (rules, same) in
    let more : word ++ 32 ∷ rest ≡ other ++ 32 ∷ behind = grind (rules, same) in
    let same_rest = word-apart word other rest behind (grind (arith, h)) (grind (arith, g)) more in
    (cc, same_rest.1)

-- lines that begin with a number and a space are alike only if the numbers are, and what follows
pub number-apart : (number other : ℕ) (rest behind : List ℕ) → number < 2 ^ 64 → other < 2 ^ 64
    → decimal number ++ 32 ∷ rest ≡ decimal other ++ 32 ∷ behind → (number ≡ other) × (rest ≡ behind)
number-apart number other rest behind below small same =
    let parts = word-apart (decimal number) (decimal other) rest behind (decimal-inner number) (decimal-inner other) same in
    (decimal_injective number other below small parts.0, parts.1)

-- a line has at most one head
pub head-apart : (line : List ℕ) (shard place : ℕ) (rest : List ℕ) (other_shard other_place : ℕ) (behind : List ℕ)
    → HasHead line shard place rest → HasHead line other_shard other_place behind
    → (shard ≡ other_shard) × (place ≡ other_place) × (rest ≡ behind)
head-apart line shard place rest other_shard other_place behind has other =
    let first = number-apart shard other_shard (decimal place ++ 32 ∷ rest) (decimal other_place ++ 32 ∷ behind)
    has.shard_fits other.shard_fits (sym has.line_is ∙ other.line_is) in
    let fits = has.place_fits in
    let other_fits = other.place_fits in
    let second = number-apart place other_place rest behind (omega (arith, fits)) (omega (arith, other_fits)) first.1 in
    (first.0, second.0, second.1)

-- two words, each before a space, and a text, appended one after another
pub three-parts : (first second text one two behind whole : List ℕ) → one ≡ first ++ 32 ∷ []
    → two ≡ one ++ second ++ 32 ∷ [] → behind ≡ text → whole ≡ two ++ behind
    → whole ≡ first ++ 32 ∷ (second ++ 32 ∷ text)
three-parts first second text one two behind whole one_is two_is text_is whole_is =
    whole_is ∙ ap (λ t. t ++ behind) two_is ∙ ap (λ t. (t ++ second ++ 32 ∷ []) ++ behind) one_is
    ∙ ap (λ t. ((first ++ 32 ∷ []) ++ second ++ 32 ∷ []) ++ t) text_is ∙ simp append_assoc

-- a feed line is at most this long
pub length-feed_line : (shard place : ℕ) (entry : Entry) → IsRecord entry → shard < MAX_SHARDS → place < PLACE_END
    → length (feed_line shard place entry) ≤ MOST_FEED_BYTES
length-feed_line shard place entry record_is some within =
    let record_size = (length-text_of entry record_is).1 in
    let shard_size = length-decimal-le 2 shard (omega arith) (omega (arith, some)) (omega (arith, some)) in
    let place_size = length-decimal-le 19 place (omega arith) (omega (arith, within)) (omega (arith, within)) in
    let whole = length-append (decimal shard) (32 ∷ (decimal place ++ 32 ∷ text_of entry)) in
    let second = length-append (decimal place) (32 ∷ text_of entry) in
    omega (arith, record_size, shard_size, place_size, whole, second)
