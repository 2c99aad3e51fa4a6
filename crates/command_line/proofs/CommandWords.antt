-- The words of a command: their pairs, and what each option is given.
use Rattle.std.proofs.Common.{◌≡◌, ℕ, ◌+◌, ◌-◌, ◌*◌, ◌<◌, ◌≤◌, zero, suc, Bool, true, false, List, [], ◌∷◌, length}
use Rattle.std.proofs.Common.{drop, get_or, Option}
use Rattle.std.proofs.Common.{refl, sym, ap, ◌∙◌, subst, arith, add-one, inl, inr, ⊎_elim}
use Rattle.std.proofs.Common.{drop-cons}
use Rattle.std.specs.Prelude.{◌&&◌, ◌||◌, ◌==◌, ◌%◌, ◌/◌, not, if◌then◌else◌, map, slice_get, Some, None, Ok, IsTrue}
use Rattle.std.specs.Prelude.{MatchOption, codes}
use Rattle.std.specs.Prelude.{◌^◌}
use Rattle.std.specs.Fmt.{decimal}
use Rattle.std.specs.Str.{bytes_eq}
use Rattle.std.specs.List.{AllByRecursion}
use Rattle.std.proofs.lemmas.Bool.{eq-eqb, eqb-true, false_from_ne_true}
use Rattle.std.proofs.lemmas.Fmt.{decimal_injective}
use Rattle.std.proofs.lemmas.Slice.Eq.{bytes_eq-Decides}
use Rattle.std.proofs.lemmas.Option.{slice_get_within, get_or_from_slice_get}
use Rattle.std.proofs.lemmas.List.{drop_all}
use Rattle.std.proofs.lemmas.List.Elements.{All-from_recursion, recursion_from_All}
use Rattle.hex.specs.Hex.{decode_of}
use Rattle.hex.proofs.HexLemmas.{decode_of-ok}
use Rattle.issuer_base.specs.ChipData.{digits_of}
use Rattle.chip_request.specs.Lines.{digits_text}
use Rattle.command_line.specs.declared.words.Command.{Command}
use Rattle.command_line.specs.declared.words.Command.TheVariants.{Serve, Show, World, Fill, Pin, Clear, Export, Standby}
use Rattle.command_line.specs.Command.{IsValue, Pair, words_of, values_of, is_one_of, IsCall, IsSize, serve_options}
use Rattle.command_line.specs.Command.{callers_option, show_options, world_options, fill_options, pin_options}
use Rattle.command_line.specs.Command.{clear_options, export_options, standby_options, IsClear, IsExport, IsStandby}
use Rattle.command_line.specs.Command.{SpellsBytes}
use Rattle.command_line.specs.Command.{RequestFile, IsGroup, IsServe, IsShow, IsWorld, IsFill, IsCommand}
use Rattle.command_line.specs.Command.{PinOrder, IsPin, IsNoCommand}
use Rattle.command_line.specs.Pairs.{is_value, first_word, pairs_of, is_pair, are_pairs, only, values_in, value_in}
use Rattle.command_line.specs.Pairs.{AreWordsWith, AreWordsOf, GivesCallers, Asks, is_within}

-- ---- the pairs of words

-- the pairs of the words of pairs are these pairs
pub pairs-words : (pairs : List Pair) → pairs_of (words_of pairs) ≡ pairs
pairs-words [] = refl
pairs-words (pair ∷ pairs) = ap (λ ps. pair ∷ ps) (pairs-words pairs)

-- the words of the pairs of words, of which there are twice so many, are these words
words-pairs : (n : ℕ) (words : List (List ℕ)) → length words ≡ 2 * n → words_of (pairs_of words) ≡ words
words-pairs n [] long = refl
words-pairs n (word ∷ []) long = absurd (omega (arith, long))
words-pairs zero (option ∷ value ∷ words) long = absurd (omega (arith, long))
words-pairs (suc n) (option ∷ value ∷ words) long =
    let rest : length words ≡ 2 * n = omega (arith, long) in
    ap (λ ws. option ∷ value ∷ ws) (words-pairs n words rest)

length-words : (pairs : List Pair) → length (words_of pairs) ≡ 2 * length pairs
length-words [] = refl
length-words (pair ∷ pairs) = let rest = length-words pairs in omega (arith, rest)

-- the words from a place on are the word there and those after it
drop-at : (words : List (List ℕ)) (i : ℕ) (word : List ℕ)
    → slice_get words i ≡ Some word → drop i words ≡ word ∷ drop (i + 1) words
drop-at words i word is =
    let within : i < length words = slice_get_within words i word is in
    drop-cons words i word within ∙ ap (λ w. w ∷ drop (suc i) words) (get_or_from_slice_get words i word word is)
    ∙ ap (λ n. word ∷ drop n words) (sym (add-one i))

-- the pairs from a place on are the pair there and those after it
pub pairs-at : (words : List (List ℕ)) (here next : ℕ) (option value : List ℕ) → next ≡ here + 1
    → slice_get words (2 * here + 1) ≡ Some option → slice_get words (2 * here + 2) ≡ Some value
    → pairs_of (drop (2 * here + 1) words) ≡ record { option = option; value = value }
    ∷ pairs_of (drop (2 * next + 1) words)
pairs-at words here next option value is first second =
    let past : 2 * here + 1 + 1 ≡ 2 * here + 2 = omega arith in
    let later : 2 * here + 2 + 1 ≡ 2 * next + 1 = omega (arith, is) in
    let one = drop-at words (2 * here + 1) option first in
    let two = drop-at words (2 * here + 2) value second in
    ap pairs_of
    (one ∙ ap (λ n. option ∷ drop n words) past ∙ ap (λ ws. option ∷ ws) two
    ∙ ap (λ n. option ∷ value ∷ drop n words) later)

module _ (words : List (List ℕ)) (left : ℕ) (some : 0 < left) (option value : List ℕ)
    (first : slice_get words (2 * (left - 1) + 1) ≡ Some option)
    (second : slice_get words (2 * (left - 1) + 2) ≡ Some value) where
  pairs-step : pairs_of (drop (2 * (left - 1) + 1) words)
      ≡ record { option = option; value = value } ∷ pairs_of (drop (2 * left + 1) words)
  pairs-step =
      (let next : left ≡ left - 1 + 1 = omega (arith, some) in
      pairs-at words (left - 1) left option value next first second)

  -- one pair more is known, or not
  all-step : (options : List (List ℕ)) (here rest : Bool)
      → here ≡ is_pair options (record { option = option; value = value })
      → rest ≡ are_pairs options (pairs_of (drop (2 * left + 1) words))
      → (if here then rest else false) ≡ are_pairs options (pairs_of (drop (2 * (left - 1) + 1) words))
  all-step options here rest is before =
      ap (λ b. if b then rest else false) is
      ∙ ap (λ r. if is_pair options (record { option = option; value = value }) then r else false) before
      ∙ sym (ap (are_pairs options) pairs-step)

  pub all-more : (options : List (List ℕ)) (here rest : Bool)
      → here ≡ is_pair options (record { option = option; value = value })
      → rest ≡ are_pairs options (pairs_of (drop (2 * left + 1) words)) → here ≡ true
      → rest ≡ are_pairs options (pairs_of (drop (2 * (left - 1) + 1) words))
  all-more options here rest is before known =
      sym (ap (λ b. if b then rest else false) known) ∙ all-step options here rest is before

  pub all-none : (options : List (List ℕ)) (here rest : Bool)
      → here ≡ is_pair options (record { option = option; value = value })
      → rest ≡ are_pairs options (pairs_of (drop (2 * left + 1) words)) → here ≡ false
      → false ≡ are_pairs options (pairs_of (drop (2 * (left - 1) + 1) words))
  all-none options here rest is before other =
      sym (ap (λ b. if b then rest else false) other) ∙ all-step options here rest is before

  -- one pair more gives the option a value, or not
  values-step : (asked : List ℕ) → values_of asked (pairs_of (drop (2 * (left - 1) + 1) words))
      ≡ (if bytes_eq option asked then value ∷ values_of asked (pairs_of (drop (2 * left + 1) words))
      else values_of asked (pairs_of (drop (2 * left + 1) words)))
  values-step asked = ap (values_of asked) pairs-step

  pub values-more : (asked : List ℕ) → bytes_eq option asked ≡ true
      → values_of asked (pairs_of (drop (2 * (left - 1) + 1) words))
      ≡ value ∷ values_of asked (pairs_of (drop (2 * left + 1) words))
  values-more asked same =
      let rest = values_of asked (pairs_of (drop (2 * left + 1) words)) in
      values-step asked ∙ ap (λ b. if b then value ∷ rest else rest) same

  pub values-same : (asked : List ℕ) → bytes_eq option asked ≡ false
      → values_of asked (pairs_of (drop (2 * (left - 1) + 1) words))
      ≡ values_of asked (pairs_of (drop (2 * left + 1) words))
  values-same asked other =
      let rest = values_of asked (pairs_of (drop (2 * left + 1) words)) in
      values-step asked ∙ ap (λ b. if b then value ∷ rest else rest) other

-- no pairs follow the last word
pub pairs-past : (words : List (List ℕ)) (n : ℕ) → length words ≤ n → pairs_of (drop n words) ≡ []
pairs-past words n past = ap pairs_of (drop_all n words past)

-- ---- the values of an option

pub only-one : (values : List (List ℕ)) (value : List ℕ) → only values ≡ Some value → values ≡ value ∷ []
only-one [] value is = absurd (cc)
only-one (first ∷ []) value is = cc
only-one (first ∷ next ∷ values) value is = absurd (cc)

-- the first of the values, where there is just one, and else none
pub only-by_count : (values : List (List ℕ)) (found : Option (List ℕ)) (times : ℕ) → found ≡ slice_get values 0
    → times ≡ length values
    → (times ≡ 1 → only values ≡ found) × ((times ≡ 1 → ⊥) → only values ≡ None)
only-by_count [] found times first count = (λ one. absurd (omega (arith, one, count)), λ other. refl)
only-by_count (value ∷ []) found times first count = (λ one. sym first, λ other. absurd (other count))
only-by_count (value ∷ next ∷ values) found times first count =
    (λ one. absurd (omega (arith, one, count)), λ other. refl)

-- where there is no first value there is none
none-first : (values : List (List ℕ)) → slice_get values 0 ≡ None → values ≡ []
none-first [] none = refl
none-first (value ∷ values) none = absurd (cc)

-- where there is a first value and it is the only one
pub one-first : (values : List (List ℕ)) (word : List ℕ) (times : ℕ) → Some word ≡ slice_get values 0
    → times ≡ length values → times ≡ 1
    → values ≡ word ∷ []
one-first [] word times first count one = absurd (cc)
one-first (value ∷ []) word times first count one = cc
one-first (value ∷ next ∷ values) word times first count one = absurd (omega (arith, one, count))

-- ---- known pairs

pair-known : (known named rest : Bool) → (if known && named then rest else false) ≡ true
    → (known ≡ true) × (named ≡ true) × (rest ≡ true)
pair-known true true rest all = (refl, refl, all)
pair-known true false rest all = absurd (cc)
pair-known false true rest all = absurd (cc)
pair-known false false rest all = absurd (cc)

known-pair : (known named rest : Bool) → known ≡ true → named ≡ true → rest ≡ true
    → (if known && named then rest else false) ≡ true
known-pair true true rest a b all = all
known-pair true false rest a b all = absurd (cc)
known-pair false true rest a b all = absurd (cc)
known-pair false false rest a b all = absurd (cc)

value-true : (word : List ℕ) → is_value word ≡ true → IsValue word
value-true [] is = absurd (cc)
value-true (first ∷ rest) is = λ same. let hyphen : not (first == 45) ≡ false = ap not (eq-eqb first 45 same) in
    let both : false ≡ true = sym hyphen ∙ is in absurd (cc)

true-value : (word : List ℕ) → IsValue word → is_value word ≡ true
true-value [] named = absurd named
true-value (first ∷ rest) named = ap not (false_from_ne_true (first == 45) (λ same. named (eqb-true first 45 same)))

pairs-known : (options : List (List ℕ)) (pairs : List Pair) → are_pairs options pairs ≡ true
    → AllByRecursion (λ (pair : Pair). is_one_of options pair.option ≡ true) pairs
    × AllByRecursion (λ (pair : Pair). IsValue pair.value) pairs
pairs-known options [] all = (tt, tt)
pairs-known options (pair ∷ pairs) all =
    let parts = pair-known (is_one_of options pair.option) (is_value pair.value) (are_pairs options pairs) all in
    let rest = pairs-known options pairs parts.2 in
    ((parts.0, rest.0), (value-true pair.value parts.1, rest.1))

known-pairs : (options : List (List ℕ)) (pairs : List Pair)
    → AllByRecursion (λ (pair : Pair). is_one_of options pair.option ≡ true) pairs
    → AllByRecursion (λ (pair : Pair). IsValue pair.value) pairs → are_pairs options pairs ≡ true
known-pairs options [] known named = refl
known-pairs options (pair ∷ pairs) known named =
    known-pair (is_one_of options pair.option) (is_value pair.value) (are_pairs options pairs) known.0
    (true-value pair.value named.0)
    (known-pairs options pairs known.1 named.1)

-- ---- a call

-- words that are so are a call, with the values that its options are given
call-from : (command : List ℕ) (options words values : List (List ℕ)) → AreWordsWith command options words
    → map (values_in words) options ≡ map (λ (value : List ℕ). value ∷ []) values → IsCall command options words values
call-from command options [] values are once = absurd (let odd = are.odd in omega arith)
call-from command options (word ∷ words) values are once =
    let all = pairs-known options (pairs_of words) are.pairs in
    let first : Some word ≡ Some command = are.first in
    let same : word ≡ command = cc in
    let half : length words ≡ 2 * (length words / 2) = (let odd = are.odd in omega arith) in
    record {
      pairs = pairs_of words;
      words_are = ap (λ w. w ∷ words) same ∙ ap (λ ws. command ∷ ws) (sym (words-pairs (length words / 2) words half));
      once = once;
      known = All-from_recursion (λ (pair : Pair). IsTrue (is_one_of options pair.option)) (pairs_of words) all.0;
      named = All-from_recursion (λ (pair : Pair). IsValue pair.value) (pairs_of words) all.1;
    }

-- the words of a call are so
record IsParted (command : List ℕ) (options words values : List (List ℕ)) : Type 0 where
  are : AreWordsWith command options words
  once : map (values_in words) options ≡ map (λ (value : List ℕ). value ∷ []) values

parted : (command : List ℕ) (options words values : List (List ℕ)) → IsCall command options words values
    → IsParted command options words values
parted command options words values call =
    let long = length-words call.pairs in
    let odd : length (command ∷ words_of call.pairs) % 2 ≡ 1 = omega (arith, long) in
    let known = recursion_from_All (λ (pair : Pair). IsTrue (is_one_of options pair.option)) call.pairs call.known in
    let named = recursion_from_All (λ (pair : Pair). IsValue pair.value) call.pairs call.named in
    let all : are_pairs options call.pairs ≡ true = known-pairs options call.pairs known named in
    subst (λ (ws : List (List ℕ)). IsParted command options ws values) (sym call.words_are)
    (record {
      are = record {
        odd = odd;
        first = refl;
        pairs = ap (are_pairs options) (pairs-words call.pairs) ∙ all;
      };
      once = ap (λ ps. map (λ option. values_of option ps) options) (pairs-words call.pairs) ∙ call.once;
    })

-- ---- an option that may be there

module _ (extra : List ℕ) (options : List (List ℕ)) where
  or-right : (a b : Bool) → b ≡ true → (a || b) ≡ true
  or-right true b is = refl
  or-right false b is = is

  -- pairs of the options are pairs of them and one more
  with-more : (pairs : List Pair) → are_pairs options pairs ≡ true → are_pairs (extra ∷ options) pairs ≡ true
  with-more [] all = refl
  with-more (pair ∷ pairs) all =
      let parts = pair-known (is_one_of options pair.option) (is_value pair.value) (are_pairs options pairs) all in
      known-pair (is_one_of (extra ∷ options) pair.option) (is_value pair.value) (are_pairs (extra ∷ options) pairs)
      (or-right (bytes_eq pair.option extra) (is_one_of options pair.option) parts.0) parts.1 (with-more pairs parts.2)

  -- pairs that give one of them no value are pairs of the others
  without : (pairs : List Pair) → are_pairs (extra ∷ options) pairs ≡ true → values_of extra pairs ≡ []
      → are_pairs options pairs ≡ true
  without [] all none = refl
  without (pair ∷ pairs) all none =
      let parts = pair-known (is_one_of (extra ∷ options) pair.option) (is_value pair.value)
      (are_pairs (extra ∷ options) pairs) all in
      let known : (bytes_eq pair.option extra || is_one_of options pair.option) ≡ true = parts.0 in
      elim (bytes_eq pair.option extra) as (λ here. (here || is_one_of options pair.option) ≡ true
      → (if here then pair.value ∷ values_of extra pairs else values_of extra pairs) ≡ []
      → are_pairs options (pair ∷ pairs) ≡ true) [
        | true ↦ λ one some. absurd (cc)
        | false ↦ λ one rest. known-pair (is_one_of options pair.option) (is_value pair.value) (are_pairs options pairs)
            one parts.1
            (without pairs parts.2 rest)
      ] known none

  -- pairs of options among which it isn't give it no value
  none-given : ((word : List ℕ) → is_one_of options word ≡ true → bytes_eq word extra ≡ false) → (pairs : List Pair)
      → are_pairs options pairs ≡ true → values_of extra pairs ≡ []
  none-given apart [] all = refl
  none-given apart (pair ∷ pairs) all =
      let parts = pair-known (is_one_of options pair.option) (is_value pair.value) (are_pairs options pairs) all in
      ap (λ here. if here then pair.value ∷ values_of extra pairs else values_of extra pairs)
      (apart pair.option parts.0)
      ∙ none-given apart pairs parts.2

-- ---- the three commands

-- what each of two options, of three or of four is given
two-values : (words : List (List ℕ)) (one two first second : List ℕ) → value_in words one ≡ Some first
    → value_in words two ≡ Some second
    → map (λ option. values_of option (pairs_of (drop 1 words))) (one ∷ two ∷ [])
    ≡ map (λ (value : List ℕ). value ∷ []) (first ∷ second ∷ [])
two-values words one two first second a b =
    let pairs = pairs_of (drop 1 words) in
    let x = only-one (values_of one pairs) first a in
    let y = only-one (values_of two pairs) second b in
    ap (λ (vs : List (List ℕ)). vs ∷ values_of two pairs ∷ []) x ∙ ap (λ (vs : List (List ℕ)). (first ∷ []) ∷ vs ∷ []) y

three-values : (words : List (List ℕ)) (one two three first second third : List ℕ) → value_in words one ≡ Some first
    → value_in words two ≡ Some second
    → value_in words three ≡ Some third
    → map (λ option. values_of option (pairs_of (drop 1 words))) (one ∷ two ∷ three ∷ [])
    ≡ map (λ (value : List ℕ). value ∷ []) (first ∷ second ∷ third ∷ [])
three-values words one two three first second third a b c =
    let x = only-one (values_of one (pairs_of (drop 1 words))) first a in
    ap (λ (vs : List (List ℕ)). vs ∷ map (λ option. values_of option (pairs_of (drop 1 words))) (two ∷ three ∷ [])) x
    ∙ ap (λ (rest : List (List (List ℕ))). (first ∷ []) ∷ rest) (two-values words two three second third b c)

four-values : (words : List (List ℕ)) (one two three four first second third fourth : List ℕ)
    → value_in words one ≡ Some first
    → value_in words two ≡ Some second → value_in words three ≡ Some third → value_in words four ≡ Some fourth
    → map (values_in words) (one ∷ two ∷ three ∷ four ∷ [])
    ≡ map (λ (value : List ℕ). value ∷ []) (first ∷ second ∷ third ∷ fourth ∷ [])
four-values words one two three four first second third fourth a b c d =
    let x = only-one (values_in words one) first a in
    ap (λ (vs : List (List ℕ)). vs ∷ map (values_in words) (two ∷ three ∷ four ∷ [])) x
    ∙ ap (λ (rest : List (List (List ℕ))). (first ∷ []) ∷ rest)
    (three-values words two three four second third fourth b c d)

six-values : (words : List (List ℕ)) (one two three four five six first second third fourth fifth sixth : List ℕ)
    → value_in words one ≡ Some first → value_in words two ≡ Some second → value_in words three ≡ Some third
    → value_in words four ≡ Some fourth → value_in words five ≡ Some fifth → value_in words six ≡ Some sixth
    → map (values_in words) (one ∷ two ∷ three ∷ four ∷ five ∷ six ∷ [])
    ≡ map (λ (value : List ℕ). value ∷ []) (first ∷ second ∷ third ∷ fourth ∷ fifth ∷ sixth ∷ [])
six-values words one two three four five six first second third fourth fifth sixth a b c d e f =
    let x = only-one (values_in words one) first a in
    let y = only-one (values_in words two) second b in
    ap (λ (vs : List (List ℕ)). vs ∷ map (values_in words) (two ∷ three ∷ four ∷ five ∷ six ∷ [])) x
    ∙ ap (λ (vs : List (List ℕ)). (first ∷ []) ∷ vs ∷ map (values_in words) (three ∷ four ∷ five ∷ six ∷ [])) y
    ∙ ap (λ (rest : List (List (List ℕ))). (first ∷ []) ∷ (second ∷ []) ∷ rest)
    (four-values words three four five six third fourth fifth sixth c d e f)

pub serve-from : (words : List (List ℕ)) (config name journal : List ℕ) (callers : ℕ) → AreWordsOf Serve words
    → value_in words (codes "--config") ≡ Some config → value_in words (codes "--requests") ≡ Some name
    → value_in words (codes "--journal") ≡ Some journal → GivesCallers words callers
    → IsServe words config (record { name = name; callers = callers }) journal
serve-from words config name journal callers are a b c gives =
    ⊎_elim
    (λ absent.
    inl (
      call-from (codes "serve") serve_options words (config ∷ name ∷ journal ∷ [])
          (record {
            odd = are.odd;
            first = are.first;
            pairs = without callers_option serve_options (pairs_of (drop 1 words)) are.pairs absent.0;
          })
          (three-values words (codes "--config") (codes "--requests") (codes "--journal") config name journal a b c),
      absent.1,
    ))
    (λ said.
    inr (
      call-from (codes "serve") (callers_option ∷ serve_options) words (decimal callers ∷ config ∷ name ∷ journal ∷ [])
          are
          (four-values words callers_option (codes "--config") (codes "--requests") (codes "--journal")
          (decimal callers) config name journal
          (ap only said.0) a b c),
      said.1,
    ))
    gives

pub show-from : (words : List (List ℕ)) (config journal : List ℕ) → AreWordsOf Show words
    → value_in words (codes "--config") ≡ Some config → value_in words (codes "--journal") ≡ Some journal
    → IsShow words config journal
show-from words config journal are a b =
    call-from (codes "show") show_options words (config ∷ journal ∷ []) are
    (two-values words (codes "--config") (codes "--journal") config journal a b)

pub clear-from : (words : List (List ℕ)) (config clearing journal : List ℕ) → AreWordsOf Clear words
    → value_in words (codes "--config") ≡ Some config → value_in words (codes "--clearing") ≡ Some clearing
    → value_in words (codes "--journal") ≡ Some journal → IsClear words config clearing journal
clear-from words config clearing journal are a b c =
    call-from (codes "clear") clear_options words (config ∷ clearing ∷ journal ∷ []) are
    (three-values words (codes "--config") (codes "--clearing") (codes "--journal") config clearing journal a b c)

pub export-from : (words : List (List ℕ)) (config journal : List ℕ) → AreWordsOf Export words
    → value_in words (codes "--config") ≡ Some config → value_in words (codes "--journal") ≡ Some journal
    → IsExport words config journal
export-from words config journal are a b =
    call-from (codes "export") export_options words (config ∷ journal ∷ []) are
    (two-values words (codes "--config") (codes "--journal") config journal a b)

pub standby-from : (words : List (List ℕ)) (config feed journal : List ℕ) → AreWordsOf Standby words
    → value_in words (codes "--config") ≡ Some config → value_in words (codes "--feed") ≡ Some feed
    → value_in words (codes "--journal") ≡ Some journal → IsStandby words config feed journal
standby-from words config feed journal are a b c =
    call-from (codes "standby") standby_options words (config ∷ feed ∷ journal ∷ []) are
    (three-values words (codes "--config") (codes "--feed") (codes "--journal") config feed journal a b c)

-- the numbers are within the limits where the test says so
size-true : (cards steps : ℕ) → is_within cards steps ≡ true → IsSize cards steps
size-true cards steps is = grind (arith, is)

true-size : (cards steps : ℕ) → IsSize cards steps → is_within cards steps ≡ true
true-size cards steps size =
    let a = size.some_cards in let b = size.few_cards in let c = size.few_steps in let d = size.few_each in
    grind (arith, a, b, c, d)

module _ (words : List (List ℕ)) (cards steps seed : List ℕ) (a : value_in words (codes "--cards") ≡ Some cards)
    (b : value_in words (codes "--steps") ≡ Some steps) (c : value_in words (codes "--seed") ≡ Some seed) where
  pub world-from : (many long begins : ℕ) → AreWordsOf World words → cards ≡ decimal many → steps ≡ decimal long
      → seed ≡ decimal begins
      → begins < 2 ^ 32 → is_within many long ≡ true → IsWorld words many long begins
  world-from many long begins are x y z below within = record {
    call = call-from (codes "world") world_options words (decimal many ∷ decimal long ∷ decimal begins ∷ []) are
        (three-values words (codes "--cards") (codes "--steps") (codes "--seed") (decimal many) (decimal long)
        (decimal begins)
        (a ∙ ap Some x) (b ∙ ap Some y) (c ∙ ap Some z));
    size = size-true many long within;
    seed_within = below;
  }

-- ---- what the options of a call are given

pub record ServeGives (words : List (List ℕ)) (config : List ℕ) (requests : RequestFile)
    (journal : List ℕ) : Type 0 where
  pub are : AreWordsOf Serve words
  pub config_is : value_in words (codes "--config") ≡ Some config
  pub requests_is : value_in words (codes "--requests") ≡ Some requests.name
  pub journal_is : value_in words (codes "--journal") ≡ Some journal
  pub callers_are : GivesCallers words requests.callers

-- the option for callers is none of the others
callers-apart : (word : List ℕ) → is_one_of serve_options word ≡ true → bytes_eq word callers_option ≡ false
callers-apart word one =
    false_from_ne_true (bytes_eq word callers_option) (λ same.
    let is : word ≡ callers_option = (bytes_eq-Decides word callers_option).0 same in
    let none : is_one_of serve_options callers_option ≡ true = subst (λ w. is_one_of serve_options w ≡ true) is one in
    absurd (cc))

pub serve-gives : (words : List (List ℕ)) (config : List ℕ) (requests : RequestFile) (journal : List ℕ)
    → IsServe words config requests journal
    → ServeGives words config requests journal
serve-gives words config requests journal serve =
    let pairs = pairs_of (drop 1 words) in
    ⊎_elim
    (λ alone.
    let parts = parted (codes "serve") serve_options words (config ∷ requests.name ∷ journal ∷ []) alone.0 in
    let lists : values_of (codes "--config") pairs ∷ values_of (codes "--requests") pairs
    ∷ values_of (codes "--journal") pairs ∷ []
    ≡ (config ∷ []) ∷ (requests.name ∷ []) ∷ (journal ∷ []) ∷ [] = parts.once in
    let c : values_of (codes "--config") pairs ≡ config ∷ [] = cc in
    let r : values_of (codes "--requests") pairs ≡ requests.name ∷ [] = cc in
    let j : values_of (codes "--journal") pairs ≡ journal ∷ [] = cc in
    record {
      are =
          record {
            odd = parts.are.odd;
            first = parts.are.first;
            pairs = with-more callers_option serve_options pairs parts.are.pairs;
          };
      config_is = ap only c;
      requests_is = ap only r;
      journal_is = ap only j;
      callers_are = inl (none-given callers_option serve_options callers-apart pairs parts.are.pairs, alone.1);
    })
    (λ several.
    let parts = parted (codes "serve") (callers_option ∷ serve_options) words
    (decimal requests.callers ∷ config ∷ requests.name ∷ journal ∷ [])
    several.0 in
    let lists : values_of callers_option pairs ∷ values_of (codes "--config") pairs
    ∷ values_of (codes "--requests") pairs
    ∷ values_of (codes "--journal") pairs ∷ []
    ≡ (decimal requests.callers ∷ []) ∷ (config ∷ []) ∷ (requests.name ∷ []) ∷ (journal ∷ []) ∷ [] = parts.once in
    let n : values_of callers_option pairs ≡ decimal requests.callers ∷ [] = cc in
    let c : values_of (codes "--config") pairs ≡ config ∷ [] = cc in
    let r : values_of (codes "--requests") pairs ≡ requests.name ∷ [] = cc in
    let j : values_of (codes "--journal") pairs ≡ journal ∷ [] = cc in
    record {
      are = parts.are;
      config_is = ap only c;
      requests_is = ap only r;
      journal_is = ap only j;
      callers_are = inr (n, several.1);
    })
    serve

pub record ShowGives (words : List (List ℕ)) (config journal : List ℕ) : Type 0 where
  pub config_is : value_in words (codes "--config") ≡ Some config
  pub journal_is : value_in words (codes "--journal") ≡ Some journal

pub show-gives : (words : List (List ℕ)) (config journal : List ℕ) → IsShow words config journal
    → ShowGives words config journal
show-gives words config journal call =
    let parts = parted (codes "show") show_options words (config ∷ journal ∷ []) call in
    let pairs = pairs_of (drop 1 words) in
    let lists : values_of (codes "--config") pairs ∷ values_of (codes "--journal") pairs ∷ []
    ≡ (config ∷ []) ∷ (journal ∷ []) ∷ [] = parts.once in
    let c : values_of (codes "--config") pairs ≡ config ∷ [] = cc in
    let j : values_of (codes "--journal") pairs ≡ journal ∷ [] = cc in
    record { config_is = ap only c; journal_is = ap only j }

pub record ClearGives (words : List (List ℕ)) (config clearing journal : List ℕ) : Type 0 where
  pub config_is : value_in words (codes "--config") ≡ Some config
  pub clearing_is : value_in words (codes "--clearing") ≡ Some clearing
  pub journal_is : value_in words (codes "--journal") ≡ Some journal

pub clear-gives : (words : List (List ℕ)) (config clearing journal : List ℕ) → IsClear words config clearing journal
    → ClearGives words config clearing journal
clear-gives words config clearing journal call =
    let parts = parted (codes "clear") clear_options words (config ∷ clearing ∷ journal ∷ []) call in
    let pairs = pairs_of (drop 1 words) in
    let lists : values_of (codes "--config") pairs ∷ values_of (codes "--clearing") pairs
    ∷ values_of (codes "--journal") pairs ∷ []
    ≡ (config ∷ []) ∷ (clearing ∷ []) ∷ (journal ∷ []) ∷ [] = parts.once in
    let f : values_of (codes "--config") pairs ≡ config ∷ [] = cc in
    let c : values_of (codes "--clearing") pairs ≡ clearing ∷ [] = cc in
    let j : values_of (codes "--journal") pairs ≡ journal ∷ [] = cc in
    record { config_is = ap only f; clearing_is = ap only c; journal_is = ap only j }

pub record ExportGives (words : List (List ℕ)) (config journal : List ℕ) : Type 0 where
  pub config_is : value_in words (codes "--config") ≡ Some config
  pub journal_is : value_in words (codes "--journal") ≡ Some journal

pub export-gives : (words : List (List ℕ)) (config journal : List ℕ) → IsExport words config journal
    → ExportGives words config journal
export-gives words config journal call =
    let parts = parted (codes "export") export_options words (config ∷ journal ∷ []) call in
    let pairs = pairs_of (drop 1 words) in
    let lists : values_of (codes "--config") pairs ∷ values_of (codes "--journal") pairs ∷ []
    ≡ (config ∷ []) ∷ (journal ∷ []) ∷ [] = parts.once in
    let c : values_of (codes "--config") pairs ≡ config ∷ [] = cc in
    let j : values_of (codes "--journal") pairs ≡ journal ∷ [] = cc in
    record { config_is = ap only c; journal_is = ap only j }

pub record StandbyGives (words : List (List ℕ)) (config feed journal : List ℕ) : Type 0 where
  pub config_is : value_in words (codes "--config") ≡ Some config
  pub feed_is : value_in words (codes "--feed") ≡ Some feed
  pub journal_is : value_in words (codes "--journal") ≡ Some journal

pub standby-gives : (words : List (List ℕ)) (config feed journal : List ℕ) → IsStandby words config feed journal
    → StandbyGives words config feed journal
standby-gives words config feed journal call =
    let parts = parted (codes "standby") standby_options words (config ∷ feed ∷ journal ∷ []) call in
    let pairs = pairs_of (drop 1 words) in
    let lists : values_of (codes "--config") pairs ∷ values_of (codes "--feed") pairs
    ∷ values_of (codes "--journal") pairs ∷ []
    ≡ (config ∷ []) ∷ (feed ∷ []) ∷ (journal ∷ []) ∷ [] = parts.once in
    let c : values_of (codes "--config") pairs ≡ config ∷ [] = cc in
    let f : values_of (codes "--feed") pairs ≡ feed ∷ [] = cc in
    let j : values_of (codes "--journal") pairs ≡ journal ∷ [] = cc in
    record { config_is = ap only c; feed_is = ap only f; journal_is = ap only j }

pub record WorldGives (words : List (List ℕ)) (cards steps seed : ℕ) : Type 0 where
  pub cards_are : value_in words (codes "--cards") ≡ Some (decimal cards)
  pub steps_are : value_in words (codes "--steps") ≡ Some (decimal steps)
  pub seed_is : value_in words (codes "--seed") ≡ Some (decimal seed)
  pub cards_below : cards < 2 ^ 32
  pub steps_below : steps < 2 ^ 32
  pub seed_below : seed < 2 ^ 32
  pub within : is_within cards steps ≡ true

pub world-gives : (words : List (List ℕ)) (cards steps seed : ℕ) → IsWorld words cards steps seed
    → WorldGives words cards steps seed
world-gives words cards steps seed world =
    let parts = parted (codes "world") world_options words (decimal cards ∷ decimal steps ∷ decimal seed ∷ [])
    world.call in
    let pairs = pairs_of (drop 1 words) in
    let lists : values_of (codes "--cards") pairs ∷ values_of (codes "--steps") pairs ∷ values_of (codes "--seed") pairs
    ∷ []
    ≡ (decimal cards ∷ []) ∷ (decimal steps ∷ []) ∷ (decimal seed ∷ []) ∷ [] = parts.once in
    let c : values_of (codes "--cards") pairs ≡ decimal cards ∷ [] = cc in
    let t : values_of (codes "--steps") pairs ≡ decimal steps ∷ [] = cc in
    let b : values_of (codes "--seed") pairs ≡ decimal seed ∷ [] = cc in
    let few = world.size.few_cards in
    let many = world.size.few_steps in
    record {
      cards_are = ap only c;
      steps_are = ap only t;
      seed_is = ap only b;
      cards_below = omega (arith, few);
      steps_below = omega (arith, many);
      seed_below = world.seed_within;
      within = true-size cards steps world.size;
    }

-- a word that spells bytes has two digits for each
pub spelled-size : (word bytes : List ℕ) → SpellsBytes word bytes → length word ≡ 2 * length bytes
spelled-size word bytes spells = (decode_of-ok word bytes spells.spelled).2

pub fill-from : (words : List (List ℕ)) (dol_word data_word dol given : List ℕ) → AreWordsOf Fill words
    → value_in words (codes "--dol") ≡ Some dol_word → value_in words (codes "--data") ≡ Some data_word
    → SpellsBytes dol_word dol → SpellsBytes data_word given → IsFill words dol given
fill-from words dol_word data_word dol given are a b dol_is data_is = record {
  dol_word = dol_word;
  data_word = data_word;
  call = call-from (codes "fill") fill_options words (dol_word ∷ data_word ∷ []) are
      (two-values words (codes "--dol") (codes "--data") dol_word data_word a b);
  dol_is = dol_is;
  data_is = data_is;
}

pub record FillGives (words : List (List ℕ)) (dol_word data_word : List ℕ) : Type 0 where
  pub dol_is : value_in words (codes "--dol") ≡ Some dol_word
  pub data_is : value_in words (codes "--data") ≡ Some data_word

pub fill-gives : (words : List (List ℕ)) (dol given : List ℕ) (fill : IsFill words dol given)
    → FillGives words fill.dol_word fill.data_word
fill-gives words dol given fill =
    let parts = parted (codes "fill") fill_options words (fill.dol_word ∷ fill.data_word ∷ []) fill.call in
    let pairs = pairs_of (drop 1 words) in
    let lists : values_of (codes "--dol") pairs ∷ values_of (codes "--data") pairs ∷ []
    ≡ (fill.dol_word ∷ []) ∷ (fill.data_word ∷ []) ∷ [] = parts.once in
    let l : values_of (codes "--dol") pairs ≡ fill.dol_word ∷ [] = cc in
    let d : values_of (codes "--data") pairs ≡ fill.data_word ∷ [] = cc in
    record { dol_is = ap only l; data_is = ap only d }

pub pin-from : (words : List (List ℕ)) (config pan psn dki salt pin : List ℕ) → AreWordsOf Pin words
    → value_in words (codes "--config") ≡ Some config → value_in words (codes "--pan") ≡ Some pan
    → value_in words (codes "--psn") ≡ Some psn → value_in words (codes "--dki") ≡ Some dki
    → value_in words (codes "--salt") ≡ Some salt → value_in words (codes "--pin") ≡ Some pin
    → IsCall (codes "pin") pin_options words (config ∷ pan ∷ psn ∷ dki ∷ salt ∷ pin ∷ [])
pin-from words config pan psn dki salt pin are a b c d e f =
    call-from (codes "pin") pin_options words (config ∷ pan ∷ psn ∷ dki ∷ salt ∷ pin ∷ []) are
    (six-values words (codes "--config") (codes "--pan") (codes "--psn") (codes "--dki") (codes "--salt")
    (codes "--pin")
    config pan psn dki salt pin a b c d e f)

pub record PinGives (words : List (List ℕ)) (order : PinOrder) (dki_word salt_word : List ℕ) : Type 0 where
  pub config_is : value_in words (codes "--config") ≡ Some order.config
  pub pan_is : value_in words (codes "--pan") ≡ Some (digits_text order.pan)
  pub psn_is : value_in words (codes "--psn") ≡ Some (digits_text (digits_of order.psn))
  pub dki_is : value_in words (codes "--dki") ≡ Some dki_word
  pub salt_is : value_in words (codes "--salt") ≡ Some salt_word
  pub pin_is : value_in words (codes "--pin") ≡ Some (digits_text order.pin)

pub pin-gives : (words : List (List ℕ)) (order : PinOrder) (pin : IsPin words order)
    → PinGives words order pin.dki_word pin.salt_word
pin-gives words order pin =
    let parts = parted (codes "pin") pin_options words
    (order.config ∷ digits_text order.pan ∷ digits_text (digits_of order.psn) ∷ pin.dki_word ∷ pin.salt_word
    ∷ digits_text order.pin ∷ []) pin.call in
    record {
      config_is = ap (λ (lists : List (List (List ℕ))). only (get_or lists 0 [])) parts.once;
      pan_is = ap (λ (lists : List (List (List ℕ))). only (get_or lists 1 [])) parts.once;
      psn_is = ap (λ (lists : List (List (List ℕ))). only (get_or lists 2 [])) parts.once;
      dki_is = ap (λ (lists : List (List (List ℕ))). only (get_or lists 3 [])) parts.once;
      salt_is = ap (λ (lists : List (List (List ℕ))). only (get_or lists 4 [])) parts.once;
      pin_is = ap (λ (lists : List (List (List ℕ))). only (get_or lists 5 [])) parts.once;
    }

-- what is given is one word
pub one-word : (value : Option (List ℕ)) (word other : List ℕ) → Some word ≡ value → value ≡ Some other → word ≡ other
one-word value word other is others = let both : Some word ≡ Some other = is ∙ others in cc

-- what is said in one way and in another is one number
pub one-number : (value : Option (List ℕ)) (word : List ℕ) (number said : ℕ) → Some word ≡ value → word ≡ decimal number
    → number < 2 ^ 32
    → value ≡ Some (decimal said) → said < 2 ^ 32 → number ≡ said
one-number value word number said given is below other other_below =
    let both : Some word ≡ Some (decimal said) = given ∙ other in
    let same : word ≡ decimal said = cc in
    decimal_injective number said (omega (arith, below)) (omega (arith, other_below)) (sym is ∙ same)

-- a word says one number
pub said-once : (word : List ℕ) (number said : ℕ) → number < 2 ^ 32 → said < 2 ^ 32 → word ≡ decimal number
    → word ≡ decimal said → number ≡ said
said-once word number said below other_below is other =
    decimal_injective number said (omega (arith, below)) (omega (arith, other_below)) (sym is ∙ other)

-- how many callers the words give, by what they give the option
pub gives-one : (words : List (List ℕ)) → slice_get (values_in words callers_option) 0 ≡ None → GivesCallers words 1
gives-one words none = inl (none-first (values_in words callers_option) none, refl)

pub gives-group : (words : List (List ℕ)) (word : List ℕ) (result : Option ℕ)
    → values_in words callers_option ≡ word ∷ []
    → MatchOption result ((callers : ℕ) → IsGroup callers → word ≡ decimal callers → ⊥)
    (λ callers. (word ≡ decimal callers) × IsGroup callers)
    → MatchOption result ((callers : ℕ) → GivesCallers words callers → ⊥) (GivesCallers words)
gives-group words word None values none = λ callers gives.
    ⊎_elim
    (λ absent. absurd (let e : word ∷ [] ≡ [] = sym values ∙ absent.0 in cc))
    (λ said.
    let e : word ∷ [] ≡ decimal callers ∷ [] = sym values ∙ said.0 in
    none callers said.1 (cc))
    gives
gives-group words word (Some callers) values said = inr (values ∙ ap (λ (w : List ℕ). w ∷ []) said.0, said.1)

-- ---- one command

-- the words of a command begin with it, and after it are pairs of its options
pub asks-words : (words : List (List ℕ)) (command : Command) → Asks command words → AreWordsOf command words
asks-words words Serve asks = (serve-gives words asks.0 asks.1 asks.2 asks.3).are
asks-words words Show asks = (parted (codes "show") show_options words (asks.0 ∷ asks.1 ∷ []) asks.2).are
asks-words words World asks =
    (parted (codes "world") world_options words (decimal asks.0 ∷ decimal asks.1 ∷ decimal asks.2 ∷ []) asks.3.call).are
asks-words words Fill asks =
    (parted (codes "fill") fill_options words (asks.2.dol_word ∷ asks.2.data_word ∷ []) asks.2.call).are
asks-words words Pin asks =
    let order = asks.0 in
    (parted (codes "pin") pin_options words
    (order.config ∷ digits_text order.pan ∷ digits_text (digits_of order.psn) ∷ asks.1.dki_word ∷ asks.1.salt_word
    ∷ digits_text order.pin ∷ []) asks.1.call).are
asks-words words Clear asks =
    (parted (codes "clear") clear_options words (asks.0 ∷ asks.1 ∷ asks.2 ∷ []) asks.3).are
asks-words words Export asks = (parted (codes "export") export_options words (asks.0 ∷ asks.1 ∷ []) asks.2).are
asks-words words Standby asks =
    (parted (codes "standby") standby_options words (asks.0 ∷ asks.1 ∷ asks.2 ∷ []) asks.3).are

-- the command that begins with a word
command_in : List ℕ → Option Command
command_in word =
    if bytes_eq word (codes "serve") then Some Serve
    else if bytes_eq word (codes "show") then Some Show
    else if bytes_eq word (codes "world") then Some World
    else if bytes_eq word (codes "fill") then Some Fill
    else if bytes_eq word (codes "pin") then Some Pin
    else if bytes_eq word (codes "clear") then Some Clear
    else if bytes_eq word (codes "export") then Some Export
    else if bytes_eq word (codes "standby") then Some Standby
    else None

begins : (command : Command) → command_in (first_word command) ≡ Some command
unfolding command_in
begins Serve = refl
begins Show = refl
begins World = refl
begins Fill = refl
begins Pin = refl
begins Clear = refl
begins Export = refl
begins Standby = refl

-- no two commands begin alike
same-command : (command other : Command) → first_word command ≡ first_word other → command ≡ other
same-command command other same =
    let both : Some command ≡ Some other = sym (begins command) ∙ ap command_in same ∙ begins other in cc

-- words are those of one command
pub one-command : (words : List (List ℕ)) (command other : Command) → AreWordsOf command words → AreWordsOf other words
    → command ≡ other
one-command words command other are others =
    let begins : Some (first_word command) ≡ Some (first_word other) = sym are.first ∙ others.first in
    same-command command other (cc)

-- words ask for one command
pub one-asked : (words : List (List ℕ)) (command other : Command) → Asks command words → Asks other words
    → command ≡ other
one-asked words command other asks others =
    one-command words command other (asks-words words command asks) (asks-words words other others)

-- words that are none of the commands are no command
none-asked : (words : List (List ℕ)) → ((command : Command) → Asks command words → ⊥) → IsNoCommand words
none-asked words none = record {
  no_host = λ config requests journal. elim requests as (λ requests. IsCommand words config requests journal → ⊥) [
    | None ↦ λ show. none Show (config, journal, show)
    | Some name ↦ λ serve. none Serve (config, name, journal, serve)
  ];
  no_world = λ cards steps seed world. none World (cards, steps, seed, world);
  no_fill = λ dol given fill. none Fill (dol, given, fill);
  no_pin = λ order pin. none Pin (order, pin);
  no_clear = λ config clearing journal clear. none Clear (config, clearing, journal, clear);
  no_export = λ config journal export. none Export (config, journal, export);
  no_standby = λ config feed journal standby. none Standby (config, feed, journal, standby);
}

pub no-words : (words : List (List ℕ)) → ((command : Command) → AreWordsOf command words → ⊥) → IsNoCommand words
no-words words none = none-asked words (λ command asks. none command (asks-words words command asks))

pub no-values : (words : List (List ℕ)) (command : Command) → AreWordsOf command words → (Asks command words → ⊥)
    → IsNoCommand words
no-values words command are none =
    none-asked words (λ other asks.
    none (subst (λ (c : Command). Asks c words)
    (sym (one-command words command other are (asks-words words other asks))) asks))

-- a command is none of the others
pub serve-no_show : (words : List (List ℕ)) (config : List ℕ) (requests : RequestFile)
    (journal other_config other_journal : List ℕ)
    → IsServe words config requests journal
    → IsShow words other_config other_journal → ⊥
serve-no_show words config requests journal other_config other_journal serve show =
    let same : Serve ≡ Show = one-command words Serve Show (asks-words words Serve (config, requests, journal, serve))
    (asks-words words Show (other_config, other_journal, show)) in
    absurd (cc)

pub command-no_world : (words : List (List ℕ)) (config : List ℕ) (requests : Option RequestFile) (journal : List ℕ)
    (cards steps seed : ℕ)
    → IsCommand words config requests journal → IsWorld words cards steps seed → ⊥
command-no_world words config None journal cards steps seed show world =
    let same : Show ≡ World = one-command words Show World (asks-words words Show (config, journal, show))
    (asks-words words World (cards, steps, seed, world)) in
    absurd (cc)
command-no_world words config (Some requests) journal cards steps seed serve world =
    let same : Serve ≡ World = one-command words Serve World (asks-words words Serve (config, requests, journal, serve))
    (asks-words words World (cards, steps, seed, world)) in
    absurd (cc)

pub fill-no_command : (words : List (List ℕ)) (dol given config : List ℕ) (requests : Option RequestFile)
    (journal : List ℕ)
    → IsFill words dol given → IsCommand words config requests journal → ⊥
fill-no_command words dol given config None journal fill show =
    let same : Fill ≡ Show = one-command words Fill Show (asks-words words Fill (dol, given, fill))
    (asks-words words Show (config, journal, show)) in
    absurd (cc)
fill-no_command words dol given config (Some requests) journal fill serve =
    let same : Fill ≡ Serve = one-command words Fill Serve (asks-words words Fill (dol, given, fill))
    (asks-words words Serve (config, requests, journal, serve)) in
    absurd (cc)

pub fill-no_world : (words : List (List ℕ)) (dol given : List ℕ) (cards steps seed : ℕ) → IsFill words dol given
    → IsWorld words cards steps seed → ⊥
fill-no_world words dol given cards steps seed fill world =
    let same : Fill ≡ World = one-command words Fill World (asks-words words Fill (dol, given, fill))
    (asks-words words World (cards, steps, seed, world)) in
    absurd (cc)

-- words fill one DOL from one data
pub record AreSameTexts (dol other_dol given other_given : List ℕ) : Type 0 where
  pub dol_is : dol ≡ other_dol
  pub given_is : given ≡ other_given

one-spelled : (word other bytes others : List ℕ) → word ≡ other → SpellsBytes word bytes → SpellsBytes other others
    → bytes ≡ others
one-spelled word other bytes others same spells spells_others =
    let both : Ok bytes ≡ Ok others = sym spells.spelled ∙ ap decode_of same ∙ spells_others.spelled in cc

pub one-fill : (words : List (List ℕ)) (dol given other_dol other_given : List ℕ) → IsFill words dol given
    → IsFill words other_dol other_given → AreSameTexts dol other_dol given other_given
one-fill words dol given other_dol other_given fill other =
    let one = fill-gives words dol given fill in
    let two = fill-gives words other_dol other_given other in
    let dols : fill.dol_word ≡ other.dol_word = one-word _ _ _ (sym one.dol_is) two.dol_is in
    let datas : fill.data_word ≡ other.data_word = one-word _ _ _ (sym one.data_is) two.data_is in
    record {
      dol_is = one-spelled _ _ _ _ dols fill.dol_is other.dol_is;
      given_is = one-spelled _ _ _ _ datas fill.data_is other.data_is;
    }
