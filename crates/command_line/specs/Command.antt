-- The words of the eight commands that the program knows.
use Rattle.std.specs.Prelude.{◌≡◌, ◌≢◌, ◌⊎◌, ℕ, ◌*◌, ◌^◌, ◌<◌, ◌≤◌, Bool, false, ◌||◌, if◌then◌else◌}
use Rattle.std.specs.Prelude.{List, [], ◌∷◌, length, map, Option, None, Some, Ok, codes, IsTrue, All}
use Rattle.std.specs.Fmt.{decimal}
use Rattle.std.specs.Str.{bytes_eq}
use Rattle.hex.specs.Hex.{decode_of, decode_sized}
use Rattle.issuer_base.specs.CardNumber.{is_pan}
use Rattle.issuer_base.specs.ChipData.{is_bcd, digits_of}
use Rattle.issuer_base.specs.declared.limits.TheConstants.{MAX_CALLERS, MAX_CARD_REQUESTS, MAX_CARDS, MAX_CHIP_BYTES}
use Rattle.issuer_base.specs.declared.limits.TheConstants.{MAX_STEPS}
use Rattle.chip_request.specs.Lines.{digits_text}
use Rattle.secure_msg.specs.Pins.{is_pin}

-- a value is a word that isn't empty and doesn't begin with a hyphen
abbrev pub IsValue : List ℕ → Type 0
IsValue [] = ⊥
IsValue (first ∷ rest) = first ≢ 45

-- an option and its value
pub record Pair : Type 0 where
  pub option : List ℕ
  pub value : List ℕ

-- the words of pairs, in their order
abbrev pub words_of : List Pair → List (List ℕ)
words_of [] = []
words_of (pair ∷ pairs) = pair.option ∷ pair.value ∷ words_of pairs

-- the values that the pairs give an option, in their order
abbrev pub values_of : List ℕ → List Pair → List (List ℕ)
values_of option [] = []
values_of option (pair ∷ pairs) =
    if bytes_eq pair.option option then pair.value ∷ values_of option pairs else values_of option pairs

-- whether the word is one of these
abbrev pub is_one_of : List (List ℕ) → List ℕ → Bool
is_one_of [] word = false
is_one_of (other ∷ others) word = bytes_eq word other || is_one_of others word

-- the words are the command and then pairs in any order: they give each of its options once, with this value, and no
-- other option
pub record IsCall (command : List ℕ) (options words values : List (List ℕ)) : Type 0 where
  pub pairs : List Pair
  pub words_are : words ≡ command ∷ words_of pairs
  pub once : map (λ option. values_of option pairs) options ≡ map (λ value. value ∷ []) values
  pub known : All (λ pair. IsTrue (is_one_of options pair.option)) pairs
  pub named : All (λ pair. IsValue pair.value) pairs

-- the options that the command to serve needs and the one that it may have besides, those of the command to show, of
-- the one to play a world, of the one to fill a DOL, of the one to change a PIN, of the clearing check, and of the ones
-- to export journals and to take a feed into journals
abbrev pub serve_options : List (List ℕ)
serve_options = codes "--config" ∷ codes "--requests" ∷ codes "--journal" ∷ []

abbrev pub callers_option : List ℕ
callers_option = codes "--callers"

abbrev pub show_options : List (List ℕ)
show_options = codes "--config" ∷ codes "--journal" ∷ []

abbrev pub world_options : List (List ℕ)
world_options = codes "--cards" ∷ codes "--steps" ∷ codes "--seed" ∷ []

abbrev pub fill_options : List (List ℕ)
fill_options = codes "--dol" ∷ codes "--data" ∷ []

abbrev pub pin_options : List (List ℕ)
pin_options =
    codes "--config" ∷ codes "--pan" ∷ codes "--psn" ∷ codes "--dki" ∷ codes "--salt" ∷ codes "--pin" ∷ []

abbrev pub clear_options : List (List ℕ)
clear_options = codes "--config" ∷ codes "--clearing" ∷ codes "--journal" ∷ []

abbrev pub export_options : List (List ℕ)
export_options = codes "--config" ∷ codes "--journal" ∷ []

abbrev pub standby_options : List (List ℕ)
standby_options = codes "--config" ∷ codes "--feed" ∷ codes "--journal" ∷ []

-- a request file, by its name and by how many callers answer its lines
pub record RequestFile : Type 0 where
  pub name : List ℕ
  pub callers : ℕ

-- so many callers may answer the lines of a run
pub record IsGroup (callers : ℕ) : Type 0 where
  pub some : 1 ≤ callers
  pub few : callers ≤ MAX_CALLERS

-- the words are the command to serve, with the names of the configuration, of the request file and of the journals; and
-- with the number of its callers in decimal digits without a sign or a leading zero, or without it, and then there is
-- one
abbrev pub IsServe : List (List ℕ) → List ℕ → RequestFile → List ℕ → Type 0
IsServe words config requests journal =
    (IsCall (codes "serve") serve_options words (config ∷ requests.name ∷ journal ∷ []) × (requests.callers ≡ 1))
    ⊎ (IsCall (codes "serve") (callers_option ∷ serve_options) words
    (decimal requests.callers ∷ config ∷ requests.name ∷ journal ∷ [])
    × IsGroup requests.callers)

-- the words are the command to show, with the names of the configuration and of the journals
abbrev pub IsShow : List (List ℕ) → List ℕ → List ℕ → Type 0
IsShow words config journal = IsCall (codes "show") show_options words (config ∷ journal ∷ [])

-- a world may have so many cards and so many steps: no card takes more steps than it makes requests
pub record IsSize (cards steps : ℕ) : Type 0 where
  pub some_cards : 1 ≤ cards
  pub few_cards : cards ≤ MAX_CARDS
  pub few_steps : steps ≤ MAX_STEPS
  pub few_each : steps ≤ MAX_CARD_REQUESTS * cards

-- the words are the command to play a world, with its numbers of cards and steps and its seed, in decimal digits
-- without a sign or a leading zero
pub record IsWorld (words : List (List ℕ)) (cards steps seed : ℕ) : Type 0 where
  pub call : IsCall (codes "world") world_options words (decimal cards ∷ decimal steps ∷ decimal seed ∷ [])
  pub size : IsSize cards steps
  pub seed_within : seed < 2 ^ 32

-- a word spells bytes, each by two hexadecimal digits of either case: one byte or more, up to the most of chip data
pub record SpellsBytes (word bytes : List ℕ) : Type 0 where
  pub spelled : decode_of word ≡ Ok bytes
  pub some : 1 ≤ length bytes
  pub few : length bytes ≤ MAX_CHIP_BYTES

-- the words are the command to fill a DOL from data, whose bytes they spell
pub record IsFill (words : List (List ℕ)) (dol given : List ℕ) : Type 0 where
  pub dol_word : List ℕ
  pub data_word : List ℕ
  pub call : IsCall (codes "fill") fill_options words (dol_word ∷ data_word ∷ [])
  pub dol_is : SpellsBytes dol_word dol
  pub data_is : SpellsBytes data_word given

-- a word spells just so many bytes, each by two hexadecimal digits of either case
abbrev pub SpellsJust : ℕ → List ℕ → List ℕ → Type 0
SpellsJust count word bytes = decode_sized word count ≡ Ok bytes

-- an order to change a card's PIN: the name of the configuration, the card's account number and sequence number, the
-- derivation key index of the key set, the bytes from which the session key is derived, and the new PIN
pub record PinOrder : Type 0 where
  pub config : List ℕ
  pub pan : List ℕ
  pub psn : ℕ
  pub dki : ℕ
  pub salt : List ℕ
  pub pin : List ℕ

-- the words are the command to change a PIN, with this order: the card's numbers and the PIN are in decimal digits, the
-- index and the salt of eight bytes in hexadecimal ones
pub record IsPin (words : List (List ℕ)) (order : PinOrder) : Type 0 where
  pub dki_word : List ℕ
  pub salt_word : List ℕ
  pub call : IsCall (codes "pin") pin_options words
      (order.config ∷ digits_text order.pan ∷ digits_text (digits_of order.psn) ∷ dki_word ∷ salt_word
      ∷ digits_text order.pin ∷ [])
  pub pan_is : IsTrue (is_pan order.pan)
  pub psn_is : IsTrue (is_bcd order.psn)
  pub dki_is : SpellsJust 1 dki_word (order.dki ∷ [])
  pub salt_is : SpellsJust 8 salt_word order.salt
  pub pin_is : IsTrue (is_pin order.pin)

-- the words are the command to check clearing lines, with the names of the configuration, of the clearing file and of
-- the journals
abbrev pub IsClear : List (List ℕ) → List ℕ → List ℕ → List ℕ → Type 0
IsClear words config clearing journal =
    IsCall (codes "clear") clear_options words (config ∷ clearing ∷ journal ∷ [])

-- the words are the command to export journals, with the names of the configuration and of the journals
abbrev pub IsExport : List (List ℕ) → List ℕ → List ℕ → Type 0
IsExport words config journal = IsCall (codes "export") export_options words (config ∷ journal ∷ [])

-- the words are the command to take a feed into journals, with the names of the configuration, of the feed and of the
-- journals
abbrev pub IsStandby : List (List ℕ) → List ℕ → List ℕ → List ℕ → Type 0
IsStandby words config feed journal =
    IsCall (codes "standby") standby_options words (config ∷ feed ∷ journal ∷ [])

-- the words are a command over journals, with these names, and it is to serve where there is a request file
abbrev pub IsCommand : List (List ℕ) → List ℕ → Option RequestFile → List ℕ → Type 0
IsCommand words config (Some requests) journal = IsServe words config requests journal
IsCommand words config None journal = IsShow words config journal

-- the words are none of the eight
pub record IsNoCommand (words : List (List ℕ)) : Type 0 where
  pub no_host : (config : List ℕ) (requests : Option RequestFile) (journal : List ℕ)
      → IsCommand words config requests journal → ⊥
  pub no_world : (cards steps seed : ℕ) → IsWorld words cards steps seed → ⊥
  pub no_fill : (dol given : List ℕ) → IsFill words dol given → ⊥
  pub no_pin : (order : PinOrder) → IsPin words order → ⊥
  pub no_clear : (config clearing journal : List ℕ) → IsClear words config clearing journal → ⊥
  pub no_export : (config journal : List ℕ) → IsExport words config journal → ⊥
  pub no_standby : (config feed journal : List ℕ) → IsStandby words config feed journal → ⊥
