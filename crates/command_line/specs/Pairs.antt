-- The pairs that the words after a command make, and what the words ask for.
use Rattle.std.specs.Prelude.{◌≡◌, ◌⊎◌, ℕ, ◌*◌, ◌%◌, nat_le, Bool, true, false, not, ◌==◌, ◌&&◌, if◌then◌else◌}
use Rattle.std.specs.Prelude.{List, [], ◌∷◌, length, drop, slice_get, Option, Some, None, codes}
use Rattle.std.specs.Fmt.{decimal}
use Rattle.issuer_base.specs.declared.limits.TheConstants.{MAX_CARDS, MAX_CARD_REQUESTS, MAX_STEPS}
use Rattle.command_line.specs.declared.words.Command.{Command}
use Rattle.command_line.specs.declared.words.Command.TheVariants.{Serve, Show, World, Fill, Pin, Clear, Export, Standby}
use Rattle.command_line.specs.declared.pin_words.PinWords.{PinWords}
use Rattle.command_line.specs.declared.words.ServeWords.{ServeWords}
use Rattle.command_line.specs.declared.words.Task.{Task}
use Rattle.command_line.specs.declared.words.Task.TheVariants.{Serve as ServeTask, Show as ShowTask, Play, Fill as FillTask, Pin as PinTask}
use Rattle.command_line.specs.declared.words.Task.TheVariants.{Clear as ClearTask}
use Rattle.command_line.specs.declared.words.Task.TheVariants.{Export as ExportTask, Standby as StandbyTask}
use Rattle.command_line.specs.Command.{Pair, values_of, is_one_of, serve_options, callers_option, show_options}
use Rattle.command_line.specs.Command.{world_options, fill_options, pin_options, clear_options, PinOrder, IsPin}
use Rattle.command_line.specs.Command.{RequestFile, IsGroup, IsServe, IsShow, IsWorld, IsFill, IsClear}
use Rattle.command_line.specs.Command.{export_options, standby_options, IsExport, IsStandby}

-- whether a word is a value
abbrev pub is_value : List ℕ → Bool
is_value [] = false
is_value (first ∷ rest) = not (first == 45)

-- the first word of a command, and its options
abbrev pub first_word : Command → List ℕ
first_word Serve = codes "serve"
first_word Show = codes "show"
first_word World = codes "world"
first_word Fill = codes "fill"
first_word Pin = codes "pin"
first_word Clear = codes "clear"
first_word Export = codes "export"
first_word Standby = codes "standby"

abbrev pub options_of : Command → List (List ℕ)
options_of Serve = callers_option ∷ serve_options
options_of Show = show_options
options_of World = world_options
options_of Fill = fill_options
options_of Pin = pin_options
options_of Clear = clear_options
options_of Export = export_options
options_of Standby = standby_options

-- the pairs of words, two by two
abbrev pub pairs_of : List (List ℕ) → List Pair
pairs_of [] = []
pairs_of (word ∷ []) = []
pairs_of (option ∷ value ∷ words) = record { option = option; value = value } ∷ pairs_of words

-- whether the pair gives one of the options a value
abbrev pub is_pair : List (List ℕ) → Pair → Bool
is_pair options pair = is_one_of options pair.option && is_value pair.value

-- whether all pairs do
abbrev pub are_pairs : List (List ℕ) → List Pair → Bool
are_pairs options [] = true
are_pairs options (pair ∷ pairs) = if is_pair options pair then are_pairs options pairs else false

-- the one value of a list of one
abbrev pub only : List (List ℕ) → Option (List ℕ)
only [] = None
only (value ∷ []) = Some value
only (value ∷ next ∷ values) = None

-- the values that the words after the first one give the option, and the value if they give it once
abbrev pub values_in : List (List ℕ) → List ℕ → List (List ℕ)
values_in words option = values_of option (pairs_of (drop 1 words))

abbrev pub value_in : List (List ℕ) → List ℕ → Option (List ℕ)
value_in words option = only (values_in words option)

-- the first word is this one, and pairs of these options follow it
pub record AreWordsWith (command : List ℕ) (options words : List (List ℕ)) : Type 0 where
  pub odd : length words % 2 ≡ 1
  pub first : slice_get words 0 ≡ Some command
  pub pairs : are_pairs options (pairs_of (drop 1 words)) ≡ true

-- the first word is the command, and pairs of its options follow it
abbrev pub AreWordsOf : Command → List (List ℕ) → Type 0
AreWordsOf command words = AreWordsWith (first_word command) (options_of command) words

-- the words give so many callers, or don't say, and then it is one
abbrev pub GivesCallers : List (List ℕ) → ℕ → Type 0
GivesCallers words callers =
    ((values_in words callers_option ≡ []) × (callers ≡ 1))
    ⊎ ((values_in words callers_option ≡ decimal callers ∷ []) × IsGroup callers)

-- the words are the command, with whatever its options are given
abbrev pub Asks : Command → List (List ℕ) → Type 0
Asks Serve words =
    (config : List ℕ) × (requests : RequestFile) × (journal : List ℕ) × IsServe words config requests journal
Asks Show words = (config journal : List ℕ) × IsShow words config journal
Asks World words = (cards steps seed : ℕ) × IsWorld words cards steps seed
Asks Fill words = (dol given : List ℕ) × IsFill words dol given
Asks Pin words = (order : PinOrder) × IsPin words order
Asks Clear words = (config clearing journal : List ℕ) × IsClear words config clearing journal
Asks Export words = (config journal : List ℕ) × IsExport words config journal
Asks Standby words = (config feed journal : List ℕ) × IsStandby words config feed journal

-- the request file that the code names
abbrev pub request_file : ServeWords → RequestFile
request_file words = record { name = words.requests.now; callers = words.callers }

-- the order that the code names
abbrev pub order_of : PinWords → PinOrder
order_of words = record {
  config = words.config.now;
  pan = words.pan;
  psn = words.psn;
  dki = words.dki;
  salt = words.salt;
  pin = words.pin;
}

-- the words ask for this
abbrev pub IsTask : List (List ℕ) → Task → Type 0
IsTask words (ServeTask names) = IsServe words names.config.now (request_file names) names.journal.now
IsTask words (ShowTask names) = IsShow words names.config.now names.journal.now
IsTask words (Play size) = IsWorld words size.cards size.steps size.seed
IsTask words (FillTask texts) = IsFill words texts.dol.items texts.data.items
IsTask words (PinTask named) = IsPin words (order_of named)
IsTask words (ClearTask names) = IsClear words names.config.now names.clearing.now names.journal.now
IsTask words (ExportTask names) = IsExport words names.config.now names.journal.now
IsTask words (StandbyTask names) = IsStandby words names.config.now names.feed.now names.journal.now

-- whether a world may have so many cards and steps
abbrev pub is_within : ℕ → ℕ → Bool
is_within cards steps =
    nat_le 1 cards && nat_le cards MAX_CARDS && nat_le steps MAX_STEPS && nat_le steps (MAX_CARD_REQUESTS * cards)
