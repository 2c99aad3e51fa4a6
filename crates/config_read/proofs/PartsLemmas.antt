-- What a part is parsed as, by its elements before the first malformed one and the indices of its faults.
use Rattle.std.proofs.Common.{◌≡◌, ℕ, ◌+◌, ◌<◌, ◌≤◌, nat_lt, if◌then◌else◌, List, [], ◌∷◌, length, map, Option, Some, None, Ok, Err, codes, refl, ap}
use Rattle.std.proofs.Common.{sym, ◌∙◌, ◌++◌, suc, Bool, true, false, not, Result, inl, inr, add-zero, zero-add, length-append, arith}
use Rattle.std.specs.List.{list_any}
use Rattle.std.proofs.lemmas.Bool.{cases_lt, cond-true, cond-false, lt-ltb}
use Rattle.std.proofs.lemmas.List.{length-map}
use Rattle.std.specs.Option.{option_or}
use Rattle.serde_json.specs.Data.{Data}
use Rattle.serde_json.specs.View.{view}
use Rattle.serde_json.specs.declared.value.Value.{Value}
use Rattle.issuer_base.specs.declared.limits.TheConstants.{MAX_KEY_SETS, MAX_CARDS}
use Rattle.key_derive.specs.declared.card.KeySet.{KeySet}
use Rattle.issuer_setup.specs.declared.card.CardInfo.{CardInfo}
use Rattle.decision_table.specs.declared.row.TableRow.{TableRow}
use Rattle.issuer_setup.specs.KeyList.{has_dki, first_repeat, bad_key}
use Rattle.issuer_setup.specs.CardList.{may_follow, first_bad, bad_card}
use Rattle.issuer_setup.proofs.Elements.{onto, parsed_from}
use Rattle.issuer_setup.proofs.CardListLemmas.{bad_card-sized}
use Rattle.issuer_setup.proofs.KeyListLemmas.{bad_key-some}
use Rattle.config_read.specs.declared.fault.ConfigPart.{ConfigPart}
use Rattle.config_read.specs.declared.fault.ConfigPart.TheVariants.{Keys, Cards}
use Rattle.config_read.specs.declared.fault.ConfigFault.{ConfigFault}
use Rattle.config_read.specs.declared.fault.ConfigFault.TheVariants.{At}
use Rattle.config_read.specs.Elements.{key_set_in, card_in}
use Rattle.config_read.specs.Front.{front, in_front}
use Rattle.config_read.specs.Parts.{◌>>=◌, part_elements, said_by, is_new, follows_any, keys_in, cards_in}
use Rattle.config_read.proofs.FrontLemmas.{length-front-le}

-- the place of the element in conflict, or else of that behind those found, where there are more
abbrev pub broken_place : Option ℕ → ℕ → ℕ → Option ℕ
broken_place conflict found elements = option_or conflict (if nat_lt found elements then Some found else None)

-- the things, if the part has no fault
abbrev unless_broken : {A : Type 0} → ConfigPart → Option ℕ → List A → Result (List A) ConfigFault
unless_broken part None found = Ok found
unless_broken part (Some place) found = Err (At part (place + 1))

-- the index of the first thing that may not follow those before it, or none
abbrev pub first_unfit : {A : Type 0} → (List A → A → Bool) → List A → List A → Option ℕ
first_unfit may_follow before [] = None
first_unfit may_follow before (thing ∷ things) =
    if may_follow before thing then first_unfit may_follow (before ++ thing ∷ []) things else Some (length before)

-- the index of the element behind those found, where there are more
abbrev behind_found : ℕ → ℕ → ℕ → Option ℕ
behind_found base found elements = if nat_lt found elements then Some (base + found) else None

module _ {A : Type 0} (part : ConfigPart) (parsed : Data → Option A) (may_follow : List A → A → Bool) where
  abbrev fault : ℕ → ConfigFault
  fault place = At part (place + 1)

  onto-unless : (thing : A) (things : List A) (place : Option ℕ) → onto thing (unless_broken part place things) ≡ unless_broken part place (thing ∷ things)
  onto-unless thing things None = refl
  onto-unless thing things (Some place) = refl

  behind-more : (before : List A) (thing : A) (found elements : ℕ)
      → behind_found (length (before ++ thing ∷ [])) found elements ≡ behind_found (length before) (suc found) (suc elements)
  behind-more before thing found elements =
      let size = length-append before (thing ∷ []) in
      elim (cases_lt found elements) [
        | inl fewer ↦
            cond-true (nat_lt found elements) _ _ (lt-ltb found elements fewer) ∙ ap Some (omega (arith, size))
            ∙ sym (cond-true (nat_lt (suc found) (suc elements)) _ _ (lt-ltb (suc found) (suc elements) (omega (arith, fewer))))
        | inr all ↦
            cond-false (nat_lt found elements) _ _ (grind (arith, all))
            ∙ sym (cond-false (nat_lt (suc found) (suc elements)) _ _ (grind (arith, all)))
      ]

  -- what is parsed one after another, by the elements in front
  in-front : (before : List A) (elements : List Data) → parsed_from parsed may_follow fault before elements
      ≡ unless_broken part (option_or (first_unfit may_follow before (front parsed elements))
      (behind_found (length before) (length (front parsed elements)) (length elements))) (front parsed elements)
  in-front before [] = refl
  in-front before (element ∷ elements) = by_parsed (λ thing. in-front (before ++ thing ∷ []) elements) (parsed element)
    where
      by_follow : (thing : A) → (parsed_from parsed may_follow fault (before ++ thing ∷ []) elements
          ≡ unless_broken part (option_or (first_unfit may_follow (before ++ thing ∷ []) (front parsed elements))
          (behind_found (length (before ++ thing ∷ [])) (length (front parsed elements)) (length elements))) (front parsed elements)) → (may : Bool)
          → (if may then onto thing (parsed_from parsed may_follow fault (before ++ thing ∷ []) elements) else Err (fault (length before)))
          ≡ unless_broken part (option_or (if may then first_unfit may_follow (before ++ thing ∷ []) (front parsed elements) else Some (length before))
          (behind_found (length before) (suc (length (front parsed elements))) (suc (length elements)))) (thing ∷ front parsed elements)
      by_follow thing rest true =
          ap (onto thing) rest ∙ onto-unless thing (front parsed elements) _
          ∙ ap (λ behind. unless_broken part (option_or (first_unfit may_follow (before ++ thing ∷ []) (front parsed elements)) behind) (thing ∷ front parsed elements))
          (behind-more before thing (length (front parsed elements)) (length elements))
      by_follow thing rest false = refl

      by_parsed : ((thing : A) → parsed_from parsed may_follow fault (before ++ thing ∷ []) elements
          ≡ unless_broken part (option_or (first_unfit may_follow (before ++ thing ∷ []) (front parsed elements))
          (behind_found (length (before ++ thing ∷ [])) (length (front parsed elements)) (length elements))) (front parsed elements)) → (found : Option A)
          → (elim found [
            | None ↦ Err (fault (length before))
            | Some thing ↦ if may_follow before thing then onto thing (parsed_from parsed may_follow fault (before ++ thing ∷ []) elements)
                else Err (fault (length before))
          ])
          ≡ unless_broken part (option_or (first_unfit may_follow before (in_front found (front parsed elements)))
          (behind_found (length before) (length (in_front found (front parsed elements))) (suc (length elements)))) (in_front found (front parsed elements))
      by_parsed rest None =
          ap (λ (place : ℕ). Err (fault place)) (sym (add-zero (length before)))
          ∙ ap (λ (behind : Option ℕ). unless_broken part behind []) (sym (cond-true (nat_lt 0 (suc (length elements))) _ _ (lt-ltb 0 (suc (length elements)) (omega arith))))
      by_parsed rest (Some thing) = by_follow thing (rest thing) (may_follow before thing)

-- key sets, cards and rows that may not follow those before them
repeats : (before keys : List KeySet) → first_repeat before keys ≡ first_unfit is_new before keys
repeats before [] = refl
repeats before (set ∷ keys) =
    elim (list_any (has_dki set.dki) before) as
    (λ repeated. (if repeated then Some (length before) else first_repeat (before ++ set ∷ []) keys)
    ≡ (if not repeated then first_unfit is_new (before ++ set ∷ []) keys else Some (length before))) [
      | true ↦ refl
      | false ↦ repeats (before ++ set ∷ []) keys
    ]

bads : (before cards : List CardInfo) → first_bad before cards ≡ first_unfit may_follow before cards
bads before [] = refl
bads before (card ∷ cards) = ap (λ rest. if may_follow before card then rest else Some (length before)) (bads (before ++ card ∷ []) cards)

pub no_conflict : (before rows : List TableRow) → None ≡ first_unfit follows_any before rows
no_conflict before [] = refl
no_conflict before (row ∷ rows) = no_conflict (before ++ row ∷ []) rows

said_by-found : {A : Type 0} (part : ConfigPart) (said : Data → Option A) (may_follow : List A → A → Bool) (conflict : Option ℕ) (elements : List Value)
    (found : List A) → found ≡ front said (map view elements) → conflict ≡ first_unfit may_follow [] found
    → said_by part said may_follow (map view elements) ≡ unless_broken part (broken_place conflict (length found) (length elements)) found
said_by-found part said may_follow conflict elements found is agrees =
    let count : length (map view elements) ≡ length elements = length-map elements view in
    in-front part said may_follow [] (map view elements)
    ∙ ap (λ (front : List _). unless_broken part (option_or (first_unfit may_follow [] front) (behind_found 0 (length front) (length (map view elements)))) front) (sym is)
    ∙ ap (λ (conflict : Option ℕ). unless_broken part (option_or conflict (behind_found 0 (length found) (length (map view elements)))) found) (sym agrees)
    ∙ ap (λ (size : ℕ). unless_broken part (option_or conflict (behind_found 0 (length found) size)) found) count
    ∙ ap (λ (place : ℕ). unless_broken part (option_or conflict (if nat_lt (length found) (length elements) then Some place else None)) found)
    (zero-add (length found))

-- a part that is broken at this element
pub said_by-broken : {A : Type 0} (part : ConfigPart) (said : Data → Option A) (may_follow : List A → A → Bool) (conflict : Option ℕ) (elements : List Value) (found : List A) (place : ℕ)
    → found ≡ front said (map view elements) → conflict ≡ first_unfit may_follow [] found → broken_place conflict (length found) (length elements) ≡ Some place
    → said_by part said may_follow (map view elements) ≡ Err (At part (place + 1))
said_by-broken part said may_follow conflict elements found place is agrees broken =
    said_by-found part said may_follow conflict elements found is agrees ∙ ap (λ place. unless_broken part place found) broken

-- and one that isn't broken
pub said_by-whole : {A : Type 0} (part : ConfigPart) (said : Data → Option A) (may_follow : List A → A → Bool) (conflict : Option ℕ) (elements : List Value) (found : List A)
    → found ≡ front said (map view elements) → conflict ≡ first_unfit may_follow [] found → broken_place conflict (length found) (length elements) ≡ None
    → said_by part said may_follow (map view elements) ≡ Ok found
said_by-whole part said may_follow conflict elements found is agrees whole =
    said_by-found part said may_follow conflict elements found is agrees ∙ ap (λ place. unless_broken part place found) whole

-- with no conflict, a part is broken at the first element that says nothing
pub silent-place : (conflict : Option ℕ) (found elements : ℕ) → conflict ≡ None → found < elements → broken_place conflict found elements ≡ Some found
silent-place conflict found elements none fewer =
    ap (λ conflict. broken_place conflict found elements) none ∙ cond-true (nat_lt found elements) _ _ (lt-ltb found elements fewer)

pub whole-place : (conflict : Option ℕ) (found elements : ℕ) → conflict ≡ None → elements ≤ found → broken_place conflict found elements ≡ None
whole-place conflict found elements none all =
    ap (λ conflict. broken_place conflict found elements) none ∙ cond-false (nat_lt found elements) _ _ (grind (arith, all))

-- where nothing was found in front, the first element says nothing
empty-place : (elements place : ℕ) → Some 0 ≡ Some place → 1 ≤ elements → broken_place None 0 elements ≡ Some place
empty-place elements place first some = cond-true (nat_lt 0 elements) _ _ (lt-ltb 0 elements some) ∙ first

-- no more are found in front than there are elements
pub front-few : {A : Type 0} (said : Data → Option A) (elements : List Value) (found : List A) (most : ℕ)
    → found ≡ front said (map view elements) → length elements ≤ most → length found ≤ most
front-few said elements found most is few =
    omega (arith, length-front-le said (map view elements), length-map elements view, ap length is, few)

-- ---- key sets

-- key sets that are refused are broken there
repeat-place : (keys : List KeySet) (elements place : ℕ) → 1 ≤ elements → bad_key keys ≡ Some place
    → broken_place (first_repeat [] keys) (length keys) elements ≡ Some place
unfolding bad_key
repeat-place [] elements place some bad = empty-place elements place bad some
repeat-place (set ∷ keys) elements place some bad =
    ap (λ conflict. broken_place conflict (length (set ∷ keys)) elements) (sym (bad_key-some (set ∷ keys) (omega arith)) ∙ bad)

no-repeat : (keys : List KeySet) → bad_key keys ≡ None → first_repeat [] keys ≡ None
no-repeat [] good = refl
no-repeat (set ∷ keys) good = sym (bad_key-some (set ∷ keys) (omega arith)) ∙ good

module _ (value : Data) (elements : List Value) (keys : List KeySet) (is : part_elements Keys (codes "keys") MAX_KEY_SETS value ≡ Ok (map view elements))
    (found : keys ≡ front key_set_in (map view elements)) where
  keys_in-elements : keys_in value ≡ said_by Keys key_set_in is_new (map view elements)
  keys_in-elements = ap (λ these. these >>= said_by Keys key_set_in is_new) is

  pub keys_in-refused : (place : ℕ) → 1 ≤ length elements → bad_key keys ≡ Some place → keys_in value ≡ Err (At Keys (place + 1))
  keys_in-refused place some bad =
      keys_in-elements ∙ said_by-broken Keys key_set_in is_new (first_repeat [] keys) elements keys place found (repeats [] keys) (repeat-place keys (length elements) place some bad)

  pub keys_in-silent : bad_key keys ≡ None → length keys < length elements → keys_in value ≡ Err (At Keys (length keys + 1))
  keys_in-silent good fewer =
      keys_in-elements
      ∙ said_by-broken Keys key_set_in is_new (first_repeat [] keys) elements keys (length keys) found (repeats [] keys)
      (silent-place (first_repeat [] keys) (length keys) (length elements) (no-repeat keys good) fewer)

  pub keys_in-whole : bad_key keys ≡ None → length elements ≤ length keys → keys_in value ≡ Ok keys
  keys_in-whole good all =
      keys_in-elements
      ∙ said_by-whole Keys key_set_in is_new (first_repeat [] keys) elements keys found (repeats [] keys)
      (whole-place (first_repeat [] keys) (length keys) (length elements) (no-repeat keys good) all)

-- ---- cards

-- cards that are refused are broken there
bad-place : (cards : List CardInfo) (elements place : ℕ) → 1 ≤ elements → length cards ≤ MAX_CARDS → bad_card cards ≡ Some place
    → broken_place (first_bad [] cards) (length cards) elements ≡ Some place
unfolding bad_card
bad-place [] elements place some few bad = empty-place elements place bad some
bad-place (card ∷ cards) elements place some few bad =
    let sized : bad_card (card ∷ cards) ≡ first_bad [] (card ∷ cards) = bad_card-sized (card ∷ cards) (omega arith) few in
    ap (λ conflict. broken_place conflict (length (card ∷ cards)) elements) (sym sized ∙ bad)

no-bad : (cards : List CardInfo) → length cards ≤ MAX_CARDS → bad_card cards ≡ None → first_bad [] cards ≡ None
no-bad [] few good = refl
no-bad (card ∷ cards) few good = sym (bad_card-sized (card ∷ cards) (omega arith) few) ∙ good

module _ (value : Data) (elements : List Value) (cards : List CardInfo)
    (is : part_elements Cards (codes "cards") MAX_CARDS value ≡ Ok (map view elements)) (found : cards ≡ front card_in (map view elements))
    (few : length cards ≤ MAX_CARDS) where
  cards_in-elements : cards_in value ≡ said_by Cards card_in may_follow (map view elements)
  cards_in-elements = ap (λ these. these >>= said_by Cards card_in may_follow) is

  pub cards_in-refused : (place : ℕ) → 1 ≤ length elements → bad_card cards ≡ Some place → cards_in value ≡ Err (At Cards (place + 1))
  cards_in-refused place some bad =
      cards_in-elements ∙ said_by-broken Cards card_in may_follow (first_bad [] cards) elements cards place found (bads [] cards) (bad-place cards (length elements) place some few bad)

  pub cards_in-silent : bad_card cards ≡ None → length cards < length elements → cards_in value ≡ Err (At Cards (length cards + 1))
  cards_in-silent good fewer =
      cards_in-elements
      ∙ said_by-broken Cards card_in may_follow (first_bad [] cards) elements cards (length cards) found (bads [] cards)
      (silent-place (first_bad [] cards) (length cards) (length elements) (no-bad cards few good) fewer)

  pub cards_in-whole : bad_card cards ≡ None → length elements ≤ length cards → cards_in value ≡ Ok cards
  cards_in-whole good all =
      cards_in-elements
      ∙ said_by-whole Cards card_in may_follow (first_bad [] cards) elements cards found (bads [] cards)
      (whole-place (first_bad [] cards) (length cards) (length elements) (no-bad cards few good) all)
