-- The words of the command to change a PIN are parsed as the order that they say.
use Rattle.std.proofs.Common.{◌≡◌, ℕ, ◌+◌, ◌*◌, ◌/◌, ◌%◌, ◌≤◌, leb, nat_le, true, List, [], ◌∷◌, length, map}
use Rattle.std.proofs.Common.{Option, Some, None, Ok, Err, Result, IsTrue, refl, sym, ap, ap₂, ◌∙◌, subst, arith}
use Rattle.std.proofs.lemmas.Bool.{and_from, and_parts, cond-true, leb-true, le-leb}
use Rattle.std.proofs.lemmas.Str.{digit_value_digit}
use Rattle.std.proofs.lemmas.Option.{cond_some, none-some, same_Some}
use Rattle.std.specs.Char.{digit_value, is_ascii_digit}
use Rattle.std.specs.List.{list_all}
use Rattle.std.specs.Prelude.{IfNone, IfSome}
use Rattle.std.specs.Option.{option_and_then, option_map}
use Rattle.std.specs.Result.{result_ok}
use Rattle.hex.specs.Hex.{decode_sized}
use Rattle.hex.specs.declared.error.FromHexError.{FromHexError}
use Rattle.issuer_base.specs.CardNumber.{is_pan, pan_from}
use Rattle.issuer_base.specs.ChipData.{is_bcd, digits_of}
use Rattle.issuer_base.proofs.CardNumberLemmas.{length-pan, pan_from-some, pan_from-valid}
use Rattle.chip_request.specs.Lines.{digits_text}
use Rattle.secure_msg.specs.Pins.{is_pin, pin_from}
use Rattle.secure_msg.proofs.PinBlocks.{length-pin, pin_from-some, pin_from-valid}
use Rattle.command_line.specs.declared.words.Command.TheVariants.{Serve, Show, World, Fill, Pin}
use Rattle.command_line.specs.Command.{SpellsJust, PinOrder, IsPin, RequestFile, IsCommand, IsWorld, IsFill}
use Rattle.command_line.specs.declared.pin_words.PinWords.{PinWords}
use Rattle.command_line.specs.Pairs.{AreWordsOf, order_of}
use Rattle.command_line.proofs.CommandWords.{asks-words, one-command, pin-from, pin-gives}
use Rattle.command_line.specs.PinWords.{◌>>=◌, digits_in, pan_in, pin_in, psn_in, bytes_in, byte_in, only_byte}
use Rattle.command_line.specs.PinWords.{order_in}

-- the character of a digit
digit-text : (digit : ℕ) → digit ≤ 9 → (is_ascii_digit (48 + digit) ≡ true) × (digit_value (48 + digit) ≡ digit)
digit-text digit small =
    let low : leb 48 (48 + digit) ≡ true = le-leb _ _ (omega arith) in
    let high : leb (48 + digit) 57 ≡ true = le-leb _ _ (omega (arith, small)) in
    let spelled = digit_value_digit (48 + digit) (omega arith, omega (arith, small)) in
    (and_from _ _ low high, omega (arith, spelled))

-- the digit of a character
text-digit : (character : ℕ) → is_ascii_digit character ≡ true
    → (48 + digit_value character ≡ character) × (digit_value character ≤ 9)
text-digit character is =
    let within = and_parts _ _ is in
    let low : 48 ≤ character = leb-true _ _ within.0 in
    let high : character ≤ 57 = leb-true _ _ within.1 in
    let spelled = digit_value_digit character (low, high) in
    (omega (arith, spelled), omega (arith, spelled, high))

-- ---- decimal digits

digits-text : (digits : List ℕ) → list_all (λ digit. nat_le digit 9) digits ≡ true
    → (list_all is_ascii_digit (digits_text digits) ≡ true) × (map digit_value (digits_text digits) ≡ digits)
digits-text [] all = (refl, refl)
digits-text (digit ∷ digits) all =
    let parts = and_parts (nat_le digit 9) (list_all (λ digit. nat_le digit 9) digits) all in
    let here = digit-text digit (leb-true digit 9 parts.0) in
    let rest = digits-text digits parts.1 in
    (and_from _ _ here.0 rest.0, ap₂ (λ d ds. d ∷ ds) here.1 rest.1)

text-digits : (word : List ℕ) → list_all is_ascii_digit word ≡ true → digits_text (map digit_value word) ≡ word
text-digits [] all = refl
text-digits (character ∷ word) all =
    let parts = and_parts (is_ascii_digit character) (list_all is_ascii_digit word) all in
    ap₂ (λ c cs. c ∷ cs) (text-digit character parts.0).0 (text-digits word parts.1)

length-text : (digits : List ℕ) → length (digits_text digits) ≡ length digits
length-text [] = refl
length-text (digit ∷ digits) = let rest = length-text digits in omega (arith, rest)

digits_in-text : (most : ℕ) (digits : List ℕ) → length digits ≤ most → list_all (λ digit. nat_le digit 9) digits ≡ true
    → digits_in most (digits_text digits) ≡ Some digits
digits_in-text most digits few all =
    let it = digits-text digits all in
    let long = length-text digits in
    let within : nat_le (length (digits_text digits)) most ≡ true = le-leb _ _ (omega (arith, few, long)) in
    cond-true _ _ _ (and_from _ _ within it.0) ∙ ap Some it.1

digits_in-some : (most : ℕ) (word digits : List ℕ) → digits_in most word ≡ Some digits → word ≡ digits_text digits
digits_in-some most word digits is =
    let it = cond_some _ _ _ is in
    sym (text-digits word (and_parts _ _ it.0).1) ∙ ap digits_text it.1

-- ---- account numbers and PINs

pan_in-text : (pan : List ℕ) → IsTrue (is_pan pan) → pan_in (digits_text pan) ≡ Some pan
unfolding is_pan
pan_in-text pan valid =
    let few = (length-pan pan valid).1 in
    ap (option_and_then pan_from) (digits_in-text 19 pan few (and_parts _ _ valid).1) ∙ pan_from-valid pan valid

-- what a word is parsed as, if it has digits
record IsSaid (From : List ℕ → Option (List ℕ)) (word said : List ℕ) : Type 0 where
  from : From said ≡ Some said
  text : word ≡ digits_text said

said-by : (most : ℕ) (From : List ℕ → Option (List ℕ))
    → ((digits said : List ℕ) → From digits ≡ Some said → digits ≡ said)
    → (word said : List ℕ) → option_and_then From (digits_in most word) ≡ Some said → IsSaid From word said
said-by most From same word said is = go (digits_in most word) refl is
  where
    go : (digits : Option (List ℕ)) → digits_in most word ≡ digits
        → option_and_then From digits ≡ Some said → IsSaid From word said
    go None none is = absurd (none-some said is)
    go (Some digits) found is =
        let alike = same digits said is in
        record {
          from = subst (λ (ds : List ℕ). From ds ≡ Some said) alike is;
          text = digits_in-some most word digits found ∙ ap digits_text alike;
        }

said-pan : (word pan : List ℕ) → pan_in word ≡ Some pan → (word ≡ digits_text pan) × IsTrue (is_pan pan)
said-pan word pan is =
    let it = said-by 19 pan_from (λ digits said made. (pan_from-some digits said made).1) word pan is in
    (it.text, (pan_from-some pan pan it.from).0)

pin_in-text : (pin : List ℕ) → IsTrue (is_pin pin) → pin_in (digits_text pin) ≡ Some pin
unfolding is_pin
pin_in-text pin valid =
    let few = (length-pin pin valid).1 in
    ap (option_and_then pin_from) (digits_in-text 12 pin few (and_parts _ _ valid).1) ∙ pin_from-valid pin valid

said-pin : (word pin : List ℕ) → pin_in word ≡ Some pin → (word ≡ digits_text pin) × IsTrue (is_pin pin)
said-pin word pin is =
    let it = said-by 12 pin_from (λ digits said made. (pin_from-some digits said made).1) word pin is in
    (it.text, (pin_from-some pin pin it.from).0)

-- ---- sequence numbers

psn_in-text : (psn : ℕ) → IsTrue (is_bcd psn) → psn_in (digits_text (digits_of psn)) ≡ Some psn
unfolding psn_in is_bcd
psn_in-text psn valid =
    let parts = and_parts _ _ valid in
    let tens = digit-text (psn / 16) (leb-true _ _ parts.0) in
    let ones = digit-text (psn % 16) (leb-true _ _ parts.1) in
    let high = tens.1 in
    let low = ones.1 in
    let value : 16 * digit_value (48 + psn / 16) + digit_value (48 + psn % 16) ≡ psn = omega (arith, high, low) in
    cond-true _ _ _ (and_from _ _ tens.0 ones.0) ∙ ap Some value

said-psn : (word : List ℕ) (psn : ℕ) → psn_in word ≡ Some psn
    → (word ≡ digits_text (digits_of psn)) × IsTrue (is_bcd psn)
unfolding psn_in is_bcd
said-psn [] psn is = absurd (none-some psn is)
said-psn (tens ∷ []) psn is = absurd (none-some psn is)
said-psn (tens ∷ ones ∷ other ∷ word) psn is = absurd (none-some psn is)
said-psn (tens ∷ ones ∷ []) psn is =
    let it = cond_some _ _ _ is in
    let parts = and_parts _ _ it.0 in
    let high = text-digit tens parts.0 in
    let low = text-digit ones parts.1 in
    let value = it.1 in
    let above = high.0 in
    let below = low.0 in
    let few = high.1 in
    let small = low.1 in
    let first : tens ≡ 48 + psn / 16 = omega (arith, value, above, below, few, small) in
    let second : ones ≡ 48 + psn % 16 = omega (arith, value, above, below, few, small) in (
      ap₂ (λ a b. a ∷ b ∷ []) first second,
      and_from _ _ (le-leb (psn / 16) 9 (omega (arith, value, few, small)))
          (le-leb (psn % 16) 9 (omega (arith, value, few, small))),
    )

-- ---- hexadecimal digits

bytes_in-spelled : (count : ℕ) (word bytes : List ℕ) → SpellsJust count word bytes → bytes_in count word ≡ Some bytes
bytes_in-spelled count word bytes spelled = ap result_ok spelled

said-bytes : (count : ℕ) (word bytes : List ℕ) → bytes_in count word ≡ Some bytes → SpellsJust count word bytes
said-bytes count word bytes is = go (decode_sized word count) refl is
  where
    go : (decoded : Result (List ℕ) FromHexError) → decode_sized word count ≡ decoded → result_ok decoded ≡ Some bytes
        → decode_sized word count ≡ Ok bytes
    go (Err bad) found is = absurd (none-some bytes is)
    go (Ok found_bytes) found is = found ∙ ap Ok (same_Some _ _ is)

byte_in-spelled : (word : List ℕ) (byte : ℕ) → SpellsJust 1 word (byte ∷ []) → byte_in word ≡ Some byte
byte_in-spelled word byte spelled = ap (option_and_then only_byte) (bytes_in-spelled 1 word (byte ∷ []) spelled)

only_byte-some : (bytes : List ℕ) (byte : ℕ) → only_byte bytes ≡ Some byte → bytes ≡ byte ∷ []
only_byte-some [] byte is = absurd (none-some byte is)
only_byte-some (first ∷ []) byte is = ap (λ b. b ∷ []) (same_Some _ _ is)
only_byte-some (first ∷ second ∷ bytes) byte is = absurd (none-some byte is)

-- ---- one step after another

-- what is given, and what it is parsed as
record IsGiven {A B : Type 0} (value : Option A) (next : A → Option B) (result : B) : Type 0 where
  given : A
  is : value ≡ Some given
  parsed : next given ≡ Some result

and_then-some : {A B : Type 0} (value : Option A) (next : A → Option B) (result : B)
    → option_and_then next value ≡ Some result
    → IsGiven value next result
and_then-some None next result is = absurd (none-some result is)
and_then-some (Some given) next result is = record { given = given; is = refl; parsed = is }

step-some : {A B : Type 0} (value : Option A) (next : A → Option B) (result : B) → (value >>= next) ≡ Some result
    → IsGiven value next result
step-some None next result is = absurd (none-some result is)
step-some (Some given) next result is = record { given = given; is = refl; parsed = is }

said-byte : (word : List ℕ) (byte : ℕ) → byte_in word ≡ Some byte → SpellsJust 1 word (byte ∷ [])
said-byte word byte is =
    let it = and_then-some (bytes_in 1 word) only_byte byte is in
    said-bytes 1 word (byte ∷ []) (it.is ∙ ap Some (only_byte-some it.given byte it.parsed))

and_then-to : {A B : Type 0} (value : Option A) (given : A) (next : A → Option B) (result : B) → value ≡ Some given
    → next given ≡ Some result → option_and_then next value ≡ Some result
and_then-to value given next result is parsed = ap (option_and_then next) is ∙ parsed

step-to : {A B : Type 0} (value : Option A) (given : A) (next : A → Option B) (result : B) → value ≡ Some given
    → next given ≡ Some result → (value >>= next) ≡ Some result
step-to value given next result is parsed = ap (λ v. v >>= next) is ∙ parsed

-- ---- the order

pub order-said : (words : List (List ℕ)) (order : PinOrder) → IsPin words order → order_in words ≡ Some order
unfolding order_in
order-said words order pin =
    let given = pin-gives words order pin in
    step-to _ order.config _ _ given.config_is
    (step-to _ order.pan _ _ (and_then-to _ _ _ _ given.pan_is (pan_in-text order.pan pin.pan_is))
    (step-to _ order.psn _ _ (and_then-to _ _ _ _ given.psn_is (psn_in-text order.psn pin.psn_is))
    (step-to _ order.dki _ _ (and_then-to _ _ _ _ given.dki_is (byte_in-spelled pin.dki_word order.dki pin.dki_is))
    (step-to _ order.salt _ _
    (and_then-to _ _ _ _ given.salt_is (bytes_in-spelled 8 pin.salt_word order.salt pin.salt_is))
    (step-to _ order.pin _ _ (and_then-to _ _ _ _ given.pin_is (pin_in-text order.pin pin.pin_is)) refl)))))

pub said-order : (words : List (List ℕ)) (order : PinOrder) → AreWordsOf Pin words
    → order_in words ≡ Some order → IsPin words order
unfolding order_in
said-order words order are is =
    let config = step-some _ _ order is in
    let pan = step-some _ _ order config.parsed in
    let psn = step-some _ _ order pan.parsed in
    let dki = step-some _ _ order psn.parsed in
    let salt = step-some _ _ order dki.parsed in
    let pin = step-some _ _ order salt.parsed in
    let pan_word = and_then-some _ _ pan.given pan.is in
    let psn_word = and_then-some _ _ psn.given psn.is in
    let dki_word = and_then-some _ _ dki.given dki.is in
    let salt_word = and_then-some _ _ salt.given salt.is in
    let pin_word = and_then-some _ _ pin.given pin.is in
    let pan_said = said-pan pan_word.given pan.given pan_word.parsed in
    let psn_said = said-psn psn_word.given psn.given psn_word.parsed in
    let pin_said = said-pin pin_word.given pin.given pin_word.parsed in
    subst (IsPin words) (same_Some _ _ pin.parsed) (record {
      dki_word = dki_word.given;
      salt_word = salt_word.given;
      call = pin-from words config.given (digits_text pan.given) (digits_text (digits_of psn.given))
          dki_word.given salt_word.given
          (digits_text pin.given) are config.is (pan_word.is ∙ ap Some pan_said.0)
          (psn_word.is ∙ ap Some psn_said.0) dki_word.is
          salt_word.is (pin_word.is ∙ ap Some pin_said.0);
      pan_is = pan_said.1;
      psn_is = psn_said.1;
      dki_is = said-byte dki_word.given dki.given dki_word.parsed;
      salt_is = said-bytes 8 salt_word.given salt.given salt_word.parsed;
      pin_is = pin_said.1;
    })

-- what the code names is the order that the words say
pub order-named : (words : List (List ℕ)) (result : Option PinWords) → AreWordsOf Pin words
    → option_map order_of result ≡ order_in words
    → IfSome result (λ named. IsPin words (order_of named))
order-named words None are is = tt
order-named words (Some named) are is = said-order words (order_of named) are (sym is)

-- and where it names nothing they say none
pub none-named : (words : List (List ℕ)) (result : Option PinWords) → option_map order_of result ≡ order_in words
    → IfNone result (((order : PinOrder) × IsPin words order) → ⊥)
none-named words None is = λ asks. absurd (none-some asks.0 (is ∙ order-said words asks.0 asks.1))
none-named words (Some named) is = tt

-- ---- one command, and one order

pub one-order : (words : List (List ℕ)) (order other : PinOrder) → IsPin words order → IsPin words other → order ≡ other
one-order words order other pin other_pin =
    same_Some _ _ (sym (order-said words order pin) ∙ order-said words other other_pin)

pub pin-no_command : (words : List (List ℕ)) (order : PinOrder) (config : List ℕ) (requests : Option RequestFile)
    (journal : List ℕ) → IsPin words order → IsCommand words config requests journal → ⊥
pin-no_command words order config None journal pin show =
    let same : Pin ≡ Show = one-command words Pin Show (asks-words words Pin (order, pin))
    (asks-words words Show (config, journal, show)) in
    absurd (cc)
pin-no_command words order config (Some requests) journal pin serve =
    let same : Pin ≡ Serve = one-command words Pin Serve (asks-words words Pin (order, pin))
    (asks-words words Serve (config, requests, journal, serve)) in
    absurd (cc)

pub pin-no_world : (words : List (List ℕ)) (order : PinOrder) (cards steps seed : ℕ) → IsPin words order
    → IsWorld words cards steps seed → ⊥
pin-no_world words order cards steps seed pin world =
    let same : Pin ≡ World = one-command words Pin World (asks-words words Pin (order, pin))
    (asks-words words World (cards, steps, seed, world)) in
    absurd (cc)

pub pin-no_fill : (words : List (List ℕ)) (order : PinOrder) (dol given : List ℕ) → IsPin words order
    → IsFill words dol given → ⊥
pin-no_fill words order dol given pin fill =
    let same : Pin ≡ Fill = one-command words Pin Fill (asks-words words Pin (order, pin))
    (asks-words words Fill (dol, given, fill)) in
    absurd (cc)
