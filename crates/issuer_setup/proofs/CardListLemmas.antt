-- What the definitions of an issuer's cards state: where a name is found, and which lists are valid.
use Rattle.std.proofs.Common.{◌≡◌, ◌≢◌, ℕ, zero, suc, ◌+◌, ◌<◌, ◌≤◌, if◌then◌else◌, true, false, ◌&&◌, ◌||◌, leb, List, [], ◌∷◌, ◌++◌, length, get_or}
use Rattle.std.proofs.Common.{take, drop, refl, ap, sym, ◌∙◌, subst, inl, inr, ◌⊎◌, Option, None, Some, length-append, add-zero, append-nil}
use Rattle.std.proofs.Common.{append_assoc, All, IsTrue, arith, cond, is_some}
use Rattle.std.proofs.lemmas.Bool.{and_parts, and_from, and_left, and_right, leb-true, le-leb, lt-leb, cond-true, cond-false, cases_Bool, not-true}
use Rattle.std.proofs.lemmas.Bool.{not_from_false, not_from_true}
use Rattle.std.proofs.lemmas.List.{at_drop_more, at_drop_all, take_more, length-take-le}
use Rattle.std.proofs.lemmas.List.Elements.{All-push}
use Rattle.std.proofs.lemmas.List.Quantifiers.{all_pairs_push}
use Rattle.std.proofs.lemmas.Option.{IfSome_then, same_Some}
use Rattle.std.specs.List.{slice_get, list_any, position_from, AllPairs}
use Rattle.std.specs.Option.{IfSome}
use Rattle.issuer_base.specs.ChipData.{is_bcd}
use Rattle.issuer_base.specs.declared.limits.TheConstants.{MAX_CARDS}
use Rattle.issuer_base.specs.CardNames.{CardName}
use Rattle.issuer_setup.specs.declared.card.CardInfo.{CardInfo}
use Rattle.issuer_setup.specs.CardList.{name_of, is_named, number_of, may_follow, first_bad, bad_card, AreCards}
use Rattle.issuer_setup.proofs.Names.{name_at, is_named-own, is_named-same, is_named-other, name_at-get_or}

number_from : (start : ℕ) (name : CardName) (cards : List CardInfo) (number : ℕ) → number < length cards → name_at cards number ≡ name
    → ((before : ℕ) → before < number → name_at cards before ≡ name → ⊥) → position_from (is_named name) start cards ≡ Some (start + number)
number_from start name [] number below here first = absurd (omega arith)
number_from start name (card ∷ cards) zero below here first = cond-true (is_named name card) _ _ (is_named-own name card here) ∙ ap Some (sym (add-zero start))
number_from start name (card ∷ cards) (suc number) below here first =
    let other : is_named name card ≡ false = is_named-other name card (first 0 (omega arith)) in
    let rest = number_from (start + 1) name cards number (omega arith) here (λ before lower. first (suc before) (omega arith)) in
    let place : start + 1 + number ≡ start + suc number = omega arith in
    cond-false (is_named name card) _ _ other ∙ rest ∙ ap Some place

-- the first card with a name has the number that the name tells
pub number_of-first : (name : CardName) (cards : List CardInfo) (number : ℕ) → number < length cards → name_at cards number ≡ name
    → ((before : ℕ) → before < number → name_at cards before ≡ name → ⊥) → number_of name cards ≡ Some number
number_of-first name cards number below here first = number_from 0 name cards number below here first
    ∙ ap Some (let same : 0 + number ≡ number = omega arith in same)

-- a name has a number if one of the cards has it
pub is_some-number_from : (name : CardName) (start : ℕ) (cards : List CardInfo)
    → is_some (position_from (is_named name) start cards) ≡ list_any (is_named name) cards
is_some-number_from name start [] = refl
is_some-number_from name start (card ∷ cards) =
    let rest = is_some-number_from name (start + 1) cards in
    elim (is_named name card) as
    (λ named. is_some (cond named (Some start) (position_from (is_named name) (start + 1) cards)) ≡ (named || list_any (is_named name) cards)) [
      | true ↦ refl
      | false ↦ rest
    ]

-- a card of another name changes no number
pub number_from-other : (name : CardName) (start : ℕ) (cards : List CardInfo) (card : CardInfo) → is_named name card ≡ false
    → position_from (is_named name) start (cards ++ card ∷ []) ≡ position_from (is_named name) start cards
number_from-other name start [] card other = cond-false (is_named name card) _ _ other
number_from-other name start (first ∷ cards) card other =
    ap (λ rest. cond (is_named name first) (Some start) rest) (number_from-other name (start + 1) cards card other)

-- a card with a new name gives it its number
pub number_from-own : (name : CardName) (start : ℕ) (cards : List CardInfo) (card : CardInfo) → is_named name card ≡ true
    → position_from (is_named name) start cards ≡ None → position_from (is_named name) start (cards ++ card ∷ []) ≡ Some (start + length cards)
number_from-own name start [] card own none = cond-true (is_named name card) _ _ own ∙ ap Some (sym (add-zero start))
number_from-own name start (first ∷ cards) card own none =
    elim (cases_Bool (is_named name first)) [
      | inl named ↦ absurd (let some : Some start ≡ None = sym (cond-true (is_named name first) _ _ named) ∙ none in cc)
      | inr other ↦
          let rest = number_from-own name (start + 1) cards card own (sym (cond-false (is_named name first) _ _ other) ∙ none) in
          let place : start + 1 + length cards ≡ start + length (first ∷ cards) = omega arith in
          cond-false (is_named name first) _ _ other ∙ rest ∙ ap Some place
    ]

record IsFound (start : ℕ) (name : CardName) (cards : List CardInfo) (number : ℕ) : Type 0 where
  index : ℕ
  number_is : number ≡ start + index
  card : CardInfo
  card_is : slice_get cards index ≡ Some card
  named : name_of card ≡ name

found_from : (start : ℕ) (name : CardName) (cards : List CardInfo) (number : ℕ) → position_from (is_named name) start cards ≡ Some number
    → IsFound start name cards number
found_from start name [] number found = absurd (cc)
found_from start name (card ∷ cards) number found =
    elim (cases_Bool (is_named name card)) [
      | inl named ↦
          let same : start ≡ number = same_Some start number (sym (cond-true (is_named name card) _ _ named) ∙ found) in
          record { index = 0; number_is = omega arith; card = card; card_is = refl; named = is_named-same name card named }
      | inr other ↦
          let rest = found_from (start + 1) name cards number (sym (cond-false (is_named name card) _ _ other) ∙ found) in
          record { index = suc rest.index; number_is = omega (arith, rest.number_is); card = rest.card; card_is = rest.card_is; named = rest.named }
    ]

-- the number that a name tells is that of a card with the name
pub number_of-found : (name : CardName) (cards : List CardInfo) (number : ℕ) → number_of name cards ≡ Some number
    → (card : CardInfo) × (slice_get cards number ≡ Some card) × (name_of card ≡ name)
number_of-found name cards number found =
    let it = found_from 0 name cards number found in
    let same : it.index ≡ number = omega (arith, it.number_is) in
    (it.card, subst (λ (n : ℕ). slice_get cards n ≡ Some it.card) same it.card_is, it.named)

-- a name among some cards
named-some : (name : CardName) (cards : List CardInfo) (number : ℕ) → number < length cards → name_at cards number ≡ name
    → list_any (is_named name) cards ≡ true
named-some name [] number below here = absurd (omega arith)
named-some name (card ∷ cards) zero below here = grind (arith, is_named-own name card here)
named-some name (card ∷ cards) (suc number) below here =
    let rest = named-some name cards number (omega arith) here in
    elim (is_named name card) as (λ named. (named || list_any (is_named name) cards) ≡ true) [ true ↦ refl | false ↦ rest ]

-- the cards so far are good
record AreGood (cards : List CardInfo) : Type 0 where
  decimal : All (λ card. IsTrue (is_bcd card.psn)) cards
  distinct : AllPairs (λ first second. name_of first ≢ name_of second) cards

-- no card before has the name
list_any-absent : (name : CardName) (cards : List CardInfo) → list_any (is_named name) cards ≡ false → (k : ℕ) (d : CardInfo) → k < length cards
    → name_of (get_or cards k d) ≡ name → ⊥
list_any-absent name cards absent k d below same =
    let there : list_any (is_named name) cards ≡ true = named-some name cards k below (name_at-get_or cards k d below ∙ same) in
    let both : true ≡ false = sym there ∙ absent in
    absurd (cc)

-- what the test of one more card says
pub may_follow-true : (before : List CardInfo) (card : CardInfo) → may_follow before card ≡ true
    → IsTrue (is_bcd card.psn) × (list_any (is_named (name_of card)) before ≡ false)
unfolding may_follow
may_follow-true before card may =
    let parts = and_parts _ _ may in
    (parts.0, not-true _ parts.1)

pub may_follow-from : (before : List CardInfo) (card : CardInfo) → is_bcd card.psn ≡ true → list_any (is_named (name_of card)) before ≡ false
    → may_follow before card ≡ true
unfolding may_follow
may_follow-from before card decimal absent = and_from _ _ decimal (not_from_false _ absent)

pub may_follow-decimal : (before : List CardInfo) (card : CardInfo) → is_bcd card.psn ≡ false → may_follow before card ≡ false
unfolding may_follow
may_follow-decimal before card not_decimal = and_left _ _ not_decimal

pub may_follow-repeated : (before : List CardInfo) (card : CardInfo) → list_any (is_named (name_of card)) before ≡ true → may_follow before card ≡ false
unfolding may_follow
may_follow-repeated before card repeated = and_right _ _ (not_from_true _ repeated)

good-more : (before : List CardInfo) (card : CardInfo) → AreGood before → may_follow before card ≡ true → AreGood (before ++ card ∷ [])
good-more before card good may =
    let parts = may_follow-true before card may in
    record {
      decimal = All-push (λ card. IsTrue (is_bcd card.psn)) before card good.decimal parts.0;
      distinct = all_pairs_push (λ first second. name_of first ≢ name_of second) before card good.distinct (list_any-absent (name_of card) before parts.1);
    }

good-all : (before cards : List CardInfo) → AreGood before → first_bad before cards ≡ None → AreGood (before ++ cards)
good-all before [] good none = subst AreGood (sym (append-nil before)) good
good-all before (card ∷ cards) good none =
    elim (cases_Bool (may_follow before card)) [
      | inl may ↦
          let rest : first_bad (before ++ card ∷ []) cards ≡ None = sym (cond-true (may_follow before card) _ _ may) ∙ none in
          subst AreGood (append_assoc before (card ∷ []) cards) (good-all (before ++ card ∷ []) cards (good-more before card good may) rest)
      | inr bad ↦ absurd (let some : Some (length before) ≡ None = sym (cond-false (may_follow before card) _ _ bad) ∙ none in cc)
    ]

-- a list of cards that is taken is what an issuer's cards are
pub bad_card-none : (cards : List CardInfo) → bad_card cards ≡ None → AreCards cards
unfolding bad_card
bad_card-none cards none =
    elim (cases_Bool (leb 1 (length cards) && leb (length cards) MAX_CARDS)) [
      | inl sized ↦
          let sizes : (leb 1 (length cards) ≡ true) × (leb (length cards) MAX_CARDS ≡ true) = and_parts (leb 1 (length cards))
          (leb (length cards) MAX_CARDS) sized in
          let all : first_bad [] cards ≡ None = sym (cond-true (leb 1 (length cards) && leb (length cards) MAX_CARDS) _ _ sized) ∙ none in
          let nothing : AreGood [] = record { decimal = λ k d below. absurd (omega arith); distinct = λ i j d lower below. absurd (omega arith) } in
          let good = good-all [] cards nothing all in
          record { some = leb-true 1 (length cards) sizes.0; few = leb-true (length cards) MAX_CARDS sizes.1; decimal = good.decimal; distinct = good.distinct }
      | inr unsized ↦ absurd (let some : Some 0 ≡ None = sym (cond-false (leb 1 (length cards) && leb (length cards) MAX_CARDS) _ _ unsized) ∙ none in cc)
    ]

-- a list of another size is refused at 0
pub bad_card-unsized : (cards : List CardInfo) → (length cards ≡ 0) ⊎ (MAX_CARDS < length cards) → bad_card cards ≡ Some 0
unfolding bad_card
bad_card-unsized cards unsized =
    elim unsized [
      | inl none ↦ cond-false _ _ _ (and_left _ _ (lt-leb 1 (length cards) (omega arith)))
      | inr many ↦ cond-false _ _ _ (and_right _ _ (lt-leb (length cards) MAX_CARDS many))
    ]

-- and one of a right size where its first bad card is
pub bad_card-sized : (cards : List CardInfo) → 1 ≤ length cards → length cards ≤ MAX_CARDS → bad_card cards ≡ first_bad [] cards
unfolding bad_card
bad_card-sized cards some few = cond-true _ _ _ (and_from _ _ (le-leb 1 (length cards) some) (le-leb (length cards) MAX_CARDS few))

-- one more card that may follow
pub first_bad-more : (cards : List CardInfo) (i : ℕ) (card : CardInfo) → i < length cards → card ≡ get_or cards i card
    → may_follow (take i cards) card ≡ true → first_bad (take i cards) (drop i cards) ≡ first_bad (take (i + 1) cards) (drop (i + 1) cards)
first_bad-more cards i card below read may =
    at_drop_more (first_bad (take i cards)) cards i card below
    ∙ ap (λ (first : CardInfo). first_bad (take i cards) (first ∷ drop (i + 1) cards)) (sym read)
    ∙ cond-true (may_follow (take i cards) card) _ _ may
    ∙ ap (λ before. first_bad before (drop (i + 1) cards)) (ap (λ (last : CardInfo). take i cards ++ last ∷ []) read ∙ sym (take_more cards i card below))

-- the first card that may not
pub first_bad-here : (cards : List CardInfo) (i : ℕ) (card : CardInfo) → i < length cards → card ≡ get_or cards i card
    → may_follow (take i cards) card ≡ false → first_bad (take i cards) (drop i cards) ≡ Some i
first_bad-here cards i card below read bad =
    at_drop_more (first_bad (take i cards)) cards i card below
    ∙ ap (λ (first : CardInfo). first_bad (take i cards) (first ∷ drop (i + 1) cards)) (sym read)
    ∙ cond-false (may_follow (take i cards) card) _ _ bad
    ∙ ap Some (length-take-le i cards (omega arith))

-- the place at which a loop over the cards stops
pub bad_card-here : (cards : List CardInfo) (i : ℕ) (card : CardInfo) → 1 ≤ length cards → length cards ≤ MAX_CARDS
    → first_bad (take i cards) (drop i cards) ≡ first_bad [] cards → i < length cards → card ≡ get_or cards i card
    → may_follow (take i cards) card ≡ false → bad_card cards ≡ Some i
bad_card-here cards i card some few rest below read bad = bad_card-sized cards some few ∙ sym rest ∙ first_bad-here cards i card below read bad

-- where it stops at none
pub bad_card-all : (cards : List CardInfo) (i : ℕ) → 1 ≤ length cards → length cards ≤ MAX_CARDS
    → first_bad (take i cards) (drop i cards) ≡ first_bad [] cards → length cards ≤ i → bad_card cards ≡ None
bad_card-all cards i some few rest all = bad_card-sized cards some few ∙ sym rest ∙ at_drop_all (first_bad (take i cards)) cards i all

-- a bad card is one of the cards
first_bad-within : (before cards : List CardInfo) → IfSome (first_bad before cards) (λ place. place < length before + length cards)
first_bad-within before [] = tt
first_bad-within before (card ∷ cards) =
    let more = first_bad-within (before ++ card ∷ []) cards in
    let count : length (before ++ card ∷ []) ≡ length before + 1 = length-append before (card ∷ []) in
    elim (may_follow before card) as
    (λ may. IfSome (if may then first_bad (before ++ card ∷ []) cards else Some (length before)) (λ place. place < length before + length (card ∷ cards))) [
      | true ↦ IfSome_then (first_bad (before ++ card ∷ []) cards) more (λ place below. omega (arith, below, count))
      | false ↦ omega arith
    ]

if-some : (found : Option ℕ) (place most : ℕ) → IfSome found (λ place. place < most) → found ≡ Some place → place < most
if-some found place most within is = subst (λ found. IfSome found (λ place. place < most)) is within

-- the place at which cards are refused is below the most cards
pub bad_card-below : (cards : List CardInfo) (place : ℕ) → length cards ≤ MAX_CARDS → bad_card cards ≡ Some place → place < MAX_CARDS
unfolding bad_card
bad_card-below [] place few bad = if-some (Some 0) place MAX_CARDS (omega arith) bad
bad_card-below (card ∷ cards) place few bad =
    if-some (first_bad [] (card ∷ cards)) place MAX_CARDS
    (IfSome_then (first_bad [] (card ∷ cards)) (first_bad-within [] (card ∷ cards)) (λ place below. omega (arith, below)))
    (sym (bad_card-sized (card ∷ cards) (omega arith) few) ∙ bad)
