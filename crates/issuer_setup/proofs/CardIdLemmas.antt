-- A name is determined by its integers, and a map of numbers with one more card.
use Rattle.std.proofs.Common.{◌≡◌, ℕ, ◌+◌, ◌-◌, ◌/◌, ◌<◌, ◌≤◌, true, false, cond, is_some, List, [], ◌∷◌, ◌++◌, length, get_or, take, drop, refl}
use Rattle.std.proofs.Common.{ap, sym, ◌∙◌, subst, inl, inr, Option, None, Some, IsTrue, arith}
use Rattle.std.proofs.lemmas.Bool.{and_parts, and_from, eqb-true, eq-eqb, cases_Bool, cases_lt, cond-true, cond-false, false_from_ne_true}
use Rattle.std.proofs.lemmas.List.{get_or-take, get_or-drop, get_or_past, same_lists, take_more, length-take-le, length-drop}
use Rattle.std.proofs.lemmas.Nat.{le_bytes_8}
use Rattle.std.specs.HashMap.{HashMap, get}
use Rattle.std.specs.Int.{w64, to_le_bytes}
use Rattle.std.specs.List.{list_any}
use Rattle.issuer_base.specs.CardNumber.{is_pan}
use Rattle.issuer_base.proofs.CardNumberLemmas.{length-pan, digit-pan}
use Rattle.issuer_base.specs.CardNames.{CardName}
use Rattle.issuer_setup.specs.declared.card.CardInfo.{CardInfo}
use Rattle.issuer_setup.specs.declared.card_id.CardId.{CardId}
use Rattle.issuer_setup.specs.CardIds.{word_at, card_id, same_id, AreNumbersOf}
use Rattle.issuer_setup.specs.CardList.{name_of, is_named, number_of}
use Rattle.issuer_setup.proofs.CardListLemmas.{is_some-number_from, number_from-other, number_from-own}
use Rattle.issuer_setup.proofs.Names.{is_named-own, is_named-same}

-- how many digits an account number has
pub pan_sized : (digits pan : List ℕ) → digits ≡ pan → IsTrue (is_pan pan) → (8 ≤ length digits) × (length digits ≤ 19)
pan_sized digits pan same valid = length-pan digits (subst (λ (digits : List ℕ). IsTrue (is_pan digits)) (sym same) valid)

digit-small : (digits : List ℕ) → IsTrue (is_pan digits) → (i : ℕ) → get_or digits i 0 < 256
digit-small digits valid i =
    elim (cases_lt i (length digits)) [
      | inl below ↦ let small = digit-pan digits valid i below in omega (arith, small)
      | inr past ↦ let none = get_or_past digits i 0 past in omega (arith, none)
    ]

-- the bytes of a word are its digits
bytes-word_at : (digits : List ℕ) → IsTrue (is_pan digits) → (index : ℕ) → index + 8 ≤ length digits
    → to_le_bytes w64 (word_at digits index) ≡ take 8 (drop index digits)
bytes-word_at digits valid index within =
    let long : length (take 8 (drop index digits)) ≡ 8 =
    length-take-le 8 (drop index digits) (let rest = length-drop index digits in omega (arith, rest, within)) in
    le_bytes_8 (take 8 (drop index digits)) (word_at digits index) long (λ i. elim (cases_lt i 8) [
      | inl below ↦
          let read : get_or (take 8 (drop index digits)) i 0 ≡ get_or digits (index + i) 0 =
          get_or-take 8 (drop index digits) i 0 below ∙ get_or-drop index digits i 0 in
          let small = digit-small digits valid (index + i) in
          omega (arith, read, small)
      | inr past ↦
          let none : get_or (take 8 (drop index digits)) i 0 ≡ 0 = get_or_past (take 8 (drop index digits)) i 0 (omega (arith, long, past)) in
          omega (arith, none)
    ]) refl

-- equal words have equal digits
digit-word_at : (one two : List ℕ) → IsTrue (is_pan one) → IsTrue (is_pan two) → (index : ℕ) → index + 8 ≤ length one → index + 8 ≤ length two
    → word_at one index ≡ word_at two index → (k d : ℕ) → index ≤ k → k < index + 8 → get_or one k d ≡ get_or two k d
digit-word_at one two first_valid second_valid index first_within second_within same k d least most =
    let digits : take 8 (drop index one) ≡ take 8 (drop index two) =
    sym (bytes-word_at one first_valid index first_within) ∙ ap (to_le_bytes w64) same ∙ bytes-word_at two second_valid index second_within in
    let place : index + (k - index) ≡ k = omega (arith, least) in
    let below : k - index < 8 = omega (arith, least, most) in
    let read : (xs : List ℕ) → get_or (take 8 (drop index xs)) (k - index) d ≡ get_or xs k d = λ xs.
    get_or-take 8 (drop index xs) (k - index) d below ∙ get_or-drop index xs (k - index) d ∙ ap (λ n. get_or xs n d) place in
    sym (read one) ∙ ap (λ xs. get_or xs (k - index) d) digits ∙ read two

-- each digit is in one of the three words
digit-card_id : (one two : CardName) → IsTrue (is_pan one.pan) → IsTrue (is_pan two.pan) → card_id one ≡ card_id two
    → (k d : ℕ) → k < length one.pan → get_or one.pan k d ≡ get_or two.pan k d
unfolding card_id
digit-card_id one two first_valid second_valid same k d below =
    let count : length one.pan ≡ length two.pan = ap (λ (id : CardId). id.count) same in
    let some = length-pan one.pan first_valid in
    let equal = digit-word_at one.pan two.pan first_valid second_valid in
    let first : word_at one.pan 0 ≡ word_at two.pan 0 = ap (λ (id : CardId). id.first) same in
    let middle : word_at one.pan ((length one.pan - 8) / 2) ≡ word_at two.pan ((length one.pan - 8) / 2) =
    ap (λ (id : CardId). id.middle) same ∙ ap (λ n. word_at two.pan ((n - 8) / 2)) (sym count) in
    let last : word_at one.pan (length one.pan - 8) ≡ word_at two.pan (length one.pan - 8) =
    ap (λ (id : CardId). id.last) same ∙ ap (λ n. word_at two.pan (n - 8)) (sym count) in
    elim (cases_lt k 8) [
      | inl low ↦ equal 0 (omega (arith, some)) (omega (arith, some, count)) first k d (omega arith) (omega (arith, low))
      | inr more ↦ elim (cases_lt k (length one.pan - 8)) [
        | inl before ↦
            equal ((length one.pan - 8) / 2) (omega (arith, some)) (omega (arith, some, count)) middle k d
            (omega (arith, some, more, before)) (omega (arith, some, before))
        | inr high ↦
            equal (length one.pan - 8) (omega (arith, some)) (omega (arith, some, count)) last k d (omega (arith, high)) (omega (arith, some, below))
      ]
    ]

-- names with the same integers are the same name
card_id-same : (one two : CardName) → IsTrue (is_pan one.pan) → IsTrue (is_pan two.pan) → card_id one ≡ card_id two → one ≡ two
unfolding card_id
card_id-same one two first_valid second_valid same =
    let count : length one.pan ≡ length two.pan = ap (λ (id : CardId). id.count) same in
    let pan : one.pan ≡ two.pan = same_lists one.pan two.pan count (digit-card_id one two first_valid second_valid same) in
    let psn : one.psn ≡ two.psn = ap (λ (id : CardId). id.psn) same in
    λ i. record { pan = pan i; psn = psn i }

same_id-same : (one two : CardId) → same_id one two ≡ true → one ≡ two
same_id-same one two same =
    let a = and_parts _ _ same in
    let b = and_parts _ _ a.1 in
    let c = and_parts _ _ b.1 in
    let d = and_parts _ _ c.1 in
    let first : one.first ≡ two.first = eqb-true one.first two.first a.0 in
    let middle : one.middle ≡ two.middle = eqb-true one.middle two.middle b.0 in
    let last : one.last ≡ two.last = eqb-true one.last two.last c.0 in
    let count : one.count ≡ two.count = eqb-true one.count two.count d.0 in
    let psn : one.psn ≡ two.psn = eqb-true one.psn two.psn d.1 in
    λ i. record { first = first i; middle = middle i; last = last i; count = count i; psn = psn i }

same_id-own : (id : CardId) → same_id id id ≡ true
same_id-own id =
    and_from _ _ (eq-eqb id.first id.first refl) (and_from _ _ (eq-eqb id.middle id.middle refl) (and_from _ _ (eq-eqb id.last id.last refl)
    (and_from _ _ (eq-eqb id.count id.count refl) (eq-eqb id.psn id.psn refl))))

-- a map of numbers has one at a name's integers if one of the cards has the name
pub numbers-at : {S : Type 0} (cards : List CardInfo) (numbers : HashMap CardId ℕ S) (name : CardName) (id : CardId) (found : Option ℕ)
    → AreNumbersOf cards numbers → IsTrue (is_pan name.pan) → id ≡ card_id name → found ≡ get same_id numbers id
    → list_any (is_named name) cards ≡ is_some found
numbers-at cards numbers name id found are valid id_is found_is =
    let at_name : number_of name cards ≡ found = sym (are name valid) ∙ ap (get same_id numbers) (sym id_is) ∙ sym found_is in
    sym (is_some-number_from name 0 cards) ∙ ap is_some at_name

-- a map with the number of one more card
pub numbers-more : {S : Type 0} (cards : List CardInfo) (i : ℕ) (card : CardInfo) (id : CardId) (old new : HashMap CardId ℕ S) → i < length cards
    → card ≡ get_or cards i card → AreNumbersOf (take i cards) old → IsTrue (is_pan card.pan) → id ≡ card_id (name_of card)
    → None ≡ get same_id old id → ((q : CardId) → get same_id new q ≡ cond (same_id id q) (Some i) (get same_id old q))
    → AreNumbersOf (take (i + 1) cards) new
numbers-more cards i card id old new below read are valid id_is absent added = λ name valid_name.
    let longer : take (i + 1) cards ≡ take i cards ++ card ∷ [] =
    take_more cards i card below ∙ ap (λ (last : CardInfo). take i cards ++ last ∷ []) (sym read) in
    let here : number_of name (take i cards ++ card ∷ []) ≡ number_of name (take (i + 1) cards) = ap (number_of name) (sym longer) in
    elim (cases_Bool (same_id id (card_id name))) [
      | inl same ↦
          let own : name_of card ≡ name = card_id-same (name_of card) name valid valid_name (sym id_is ∙ same_id-same id (card_id name) same) in
          let none : number_of (name_of card) (take i cards) ≡ None = sym (are (name_of card) valid) ∙ ap (get same_id old) (sym id_is) ∙ sym absent in
          let unnamed : number_of name (take i cards) ≡ None = subst (λ (n : CardName). number_of n (take i cards) ≡ None) own none in
          let count : 0 + length (take i cards) ≡ i = let long = length-take-le i cards (omega arith) in omega (arith, long) in
          let number = number_from-own name 0 (take i cards) card (is_named-own name card own) unnamed in
          added (card_id name) ∙ cond-true _ (Some i) _ same ∙ sym (number ∙ ap Some count) ∙ here
      | inr apart ↦
          let other : is_named name card ≡ false = false_from_ne_true (is_named name card) (λ named.
          let equal : id ≡ card_id name = id_is ∙ ap card_id (is_named-same name card named) in
          let both : true ≡ false = sym (same_id-own id) ∙ ap (same_id id) equal ∙ apart in
          absurd (cc)) in
          added (card_id name) ∙ cond-false _ (Some i) _ apart ∙ are name valid_name ∙ sym (number_from-other name 0 (take i cards) card other) ∙ here
    ]
