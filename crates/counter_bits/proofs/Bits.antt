-- One bit that is set, and the sets of the words after that.
use Rattle.std.proofs.Common.{◌≡◌, ℕ, ◌+◌, ◌-◌, ◌*◌, ◌/◌, ◌%◌, ◌^◌, ◌<◌, ◌≤◌, ◌⊎◌, List, []}
use Rattle.std.proofs.Common.{◌++◌, length, set, get_or, bit_and, bit_or, w64, inl, inr, sym, ap, ◌∙◌, refl, subst}
use Rattle.std.proofs.Common.{Bool, true, false, ◌&&◌, ◌||◌, eqb, ltb, arith, get_or-set_same, get_or-set_other, replicate}
use Rattle.std.proofs.lemmas.Bool.{cases_eq, cases_lt, and_from, and_left, and_right, eq-eqb, ne_eqb, lt-ltb, le-ltb, or_right}
use Rattle.std.proofs.lemmas.List.{get_or_read, get_or_past, get_or-replicate, length-replicate}
use Rattle.std.proofs.lemmas.List.{get_or_append_left, get_or-append_right, append-nil, length-append}
use Rattle.std.proofs.lemmas.Nat.{mul-add-lt, same_from_place}
use Rattle.std.proofs.lemmas.Nat.Bits.{bit_at_set_same, bit_at_set_other, bit_at-zero, shr_and_one}
use Rattle.std.specs.Int.{bit_at}
use Rattle.counter_bits.specs.declared.counter_bits.TheConstants.{COUNTERS, WORD_COUNTERS, CARD_WORDS}
use Rattle.counter_bits.specs.CounterSets.{CounterSets, word_of, has}

-- the word with this counter's bit set
abbrev with_bit : ℕ → ℕ → ℕ
with_bit word counter = bit_or word (1 * 2 ^ (counter % WORD_COUNTERS) % 2 ^ 64)

-- the bit that the words have for this counter of this card, of so many cards
abbrev bit : ℕ → List ℕ → ℕ → ℕ → ℕ
bit cards words index counter = bit_at (get_or words (word_of cards index counter) 0) (counter % WORD_COUNTERS)

pair_cases : (index counter other_index other : ℕ) → ((other_index ≡ index) × (other ≡ counter)) ⊎ ((other_index ≡ index) × (other ≡ counter) → ⊥)
pair_cases index counter other_index other =
    elim (cases_eq other_index index) [
      | inl cards ↦ elim (cases_eq other counter) [
        | inl counters ↦ inl (cards, counters)
        | inr apart ↦ inr (λ both. apart both.1)
      ]
      | inr apart ↦ inr (λ both. apart both.0)
    ]

-- the word of a counter is one of the words that there is room for
pub word-within : (cards index counter : ℕ) → index < cards → counter < COUNTERS → word_of cards index counter < CARD_WORDS * cards
word-within cards index counter within small =
    let row : counter / WORD_COUNTERS < CARD_WORDS = omega arith in
    let place = mul-add-lt (counter / WORD_COUNTERS) cards index CARD_WORDS row within in
    omega (arith, place)

-- words that are opened are 0, as if they weren't
zeros : (count i : ℕ) → ◌≡◌ {A = ℕ} (get_or (replicate count 0) i 0) 0
zeros count i =
    elim (cases_lt i count) [
      | inl within ↦ get_or-replicate count i 0 0 within
      | inr past ↦ get_or_past (replicate count 0) i 0 (subst (λ (n : ℕ). n ≤ i) (sym (length-replicate {A = ℕ} count 0)) past)
    ]

pub opened-same : (words : List ℕ) (more i : ℕ) → get_or (words ++ replicate more 0) i 0 ≡ get_or words i 0
opened-same words more i =
    elim (cases_lt i (length words)) [
      | inl within ↦ get_or_append_left words (replicate more 0) 0 i within
      | inr past ↦
          get_or-append_right words (replicate more 0) (length words) i 0 refl past ∙ zeros more _ ∙ sym (get_or_past words i 0 past)
    ]

-- a word is there once the words up to it are opened
pub opened-within : (words opened : List ℕ) (word : ℕ) → opened ≡ words ++ replicate (word + 1 - length words) 0 → word < length opened
opened-within words opened word grown =
    let long = ap length grown in
    omega (arith, long, length-append words (replicate (word + 1 - length words) 0), length-replicate {A = ℕ} (word + 1 - length words) 0)

-- words that are open stay as they are
pub opened-before : (words : List ℕ) (word : ℕ) → word < length words → words ≡ words ++ replicate (word + 1 - length words) 0
opened-before words word within =
    let none : word + 1 - length words ≡ 0 = omega arith in
    sym (append-nil words) ∙ ap (λ (n : ℕ). words ++ replicate n 0) (sym none)

module _ (cards : ℕ) (words : List ℕ) (index counter : ℕ) (known : index < cards) (small : counter < COUNTERS)
    (within : word_of cards index counter < length words) where
  abbrev after : List ℕ
  after = set words (word_of cards index counter) (with_bit (get_or words (word_of cards index counter) 0) counter)

  bit-same : bit cards after index counter ≡ 1
  bit-same =
      ap (λ (word : ℕ). bit_at word (counter % WORD_COUNTERS))
      (get_or-set_same words (word_of cards index counter) (with_bit (get_or words (word_of cards index counter) 0) counter) 0 within)
      ∙ bit_at_set_same w64 (get_or words (word_of cards index counter) 0) (counter % WORD_COUNTERS) (omega arith)

  bit-other : (other_index other : ℕ) → other_index < cards → ((other_index ≡ index) × (other ≡ counter) → ⊥)
      → bit cards after other_index other ≡ bit cards words other_index other
  bit-other other_index other also apart =
      elim (cases_eq (word_of cards other_index other) (word_of cards index counter)) [
        | inl same ↦
            let place = same_from_place (other / WORD_COUNTERS) other_index (counter / WORD_COUNTERS) index cards also known same in
            ap (λ (i : ℕ). bit_at (get_or after i 0) (other % WORD_COUNTERS)) same
            ∙ ap (λ (word : ℕ). bit_at word (other % WORD_COUNTERS))
            (get_or-set_same words (word_of cards index counter) (with_bit (get_or words (word_of cards index counter) 0) counter) 0 within)
            ∙ bit_at_set_other w64 (get_or words (word_of cards index counter) 0) (counter % WORD_COUNTERS) (omega arith) (other % WORD_COUNTERS)
            (λ low. apart (place.1, omega (arith, place.0, low)))
            ∙ ap (λ (i : ℕ). bit_at (get_or words i 0) (other % WORD_COUNTERS)) (sym same)
        | inr not_it ↦
            ap (λ (word : ℕ). bit_at word (other % WORD_COUNTERS))
            (get_or-set_other words (word_of cards index counter) (word_of cards other_index other)
            (with_bit (get_or words (word_of cards index counter) 0) counter) 0 not_it)
      ]

or-false : (one none : Bool) → none ≡ false → one ≡ (one || none)
or-false true none is = refl
or-false false none is = sym is

-- a counter is in the set of a card that there is a set for, where its bit is 1
here : (sets : CounterSets) (index counter : ℕ) → index < sets.cards → counter < COUNTERS
    → has sets index counter ≡ eqb (bit sets.cards sets.words index counter) 1
unfolding has
here sets index counter known small =
    let one = lt-ltb index sets.cards known in
    let two = lt-ltb counter COUNTERS small in
    rw (one, two) refl

-- and no other is
pub nowhere : (sets : CounterSets) (index counter : ℕ) → ((index < sets.cards) × (counter < COUNTERS) → ⊥) → has sets index counter ≡ false
unfolding has
nowhere sets index counter not_held =
    elim (cases_lt index sets.cards) [
      | inl known ↦ elim (cases_lt counter COUNTERS) [
        | inl small ↦ absurd (not_held (known, small))
        | inr past ↦ and_right (ltb index sets.cards) _ (and_left (ltb counter COUNTERS) _ (le-ltb counter COUNTERS past))
      ]
      | inr past ↦ and_left (ltb index sets.cards) _ (le-ltb index sets.cards past)
    ]

-- after one bit is set the sets have what they had, and that counter
pub added : (sets new : CounterSets) (opened : List ℕ) (more index counter word : ℕ) → index < sets.cards → counter < COUNTERS → new.cards ≡ sets.cards
    → opened ≡ sets.words ++ replicate more 0 → word_of sets.cards index counter < length opened
    → word ≡ get_or opened (word_of sets.cards index counter) word → new.words ≡ set opened (word_of sets.cards index counter) (with_bit word counter)
    → (other_index other : ℕ) → has new other_index other ≡ (has sets other_index other || (eqb other_index index && eqb other counter))
added sets new opened more index counter word known small same_cards opened_is within word_is new_is other_index other =
    let word_there : word ≡ get_or opened (word_of sets.cards index counter) 0 =
    get_or_read opened (word_of sets.cards index counter) word within word_is 0 in
    let words_are : new.words ≡ after sets.cards opened index counter known small within =
    new_is ∙ ap (λ (word : ℕ). set opened (word_of sets.cards index counter) (with_bit word counter)) word_there in
    elim (pair_cases index counter other_index other) [
      | inl same ↦
          let now : has new index counter ≡ true =
          here new index counter (subst (λ (n : ℕ). index < n) (sym same_cards) known) small
          ∙ ap (λ (cards : ℕ). eqb (bit cards new.words index counter) 1) same_cards
          ∙ ap (λ (words : List ℕ). eqb (bit sets.cards words index counter) 1) words_are
          ∙ eq-eqb _ 1 (bit-same sets.cards opened index counter known small within) in
          ap (λ (i : ℕ). has new i other) same.0 ∙ ap (has new index) same.1 ∙ now
          ∙ sym (or_right (has sets other_index other) _
          (and_from (eqb other_index index) (eqb other counter) (eq-eqb other_index index same.0) (eq-eqb other counter same.1)))
      | inr apart ↦
          let none : (eqb other_index index && eqb other counter) ≡ false =
          elim (cases_eq other_index index) [
            | inl cards ↦ and_right (eqb other_index index) (eqb other counter) (ne_eqb other counter (λ same. apart (cards, same)))
            | inr cards ↦ and_left (eqb other_index index) (eqb other counter) (ne_eqb other_index index cards)
          ] in
          let kept : has new other_index other ≡ has sets other_index other =
          elim (cases_lt other_index sets.cards) [
            | inl also ↦ elim (cases_lt other COUNTERS) [
              | inl low ↦
                  here new other_index other (subst (λ (n : ℕ). other_index < n) (sym same_cards) also) low
                  ∙ ap (λ (cards : ℕ). eqb (bit cards new.words other_index other) 1) same_cards
                  ∙ ap (λ (words : List ℕ). eqb (bit sets.cards words other_index other) 1) words_are
                  ∙ ap (λ (n : ℕ). eqb n 1) (bit-other sets.cards opened index counter known small within other_index other also apart)
                  ∙ ap (λ (words : List ℕ). eqb (bit sets.cards words other_index other) 1) opened_is
                  ∙ ap (λ (word : ℕ). eqb (bit_at word (other % WORD_COUNTERS)) 1) (opened-same sets.words more (word_of sets.cards other_index other))
                  ∙ sym (here sets other_index other also low)
              | inr past ↦
                  nowhere new other_index other (λ held. let low = held.1 in omega (arith, low, past))
                  ∙ sym (nowhere sets other_index other (λ held. let low = held.1 in omega (arith, low, past)))
            ]
            | inr beyond ↦
                nowhere new other_index other (λ held. let inside = held.0 in omega (arith, inside, same_cards, beyond))
                ∙ sym (nowhere sets other_index other (λ held. let inside = held.0 in omega (arith, inside, beyond)))
          ] in
          kept ∙ or-false (has sets other_index other) _ none
    ]

-- the test of one bit
pub tested : (sets : CounterSets) (index counter word : ℕ) → index < sets.cards → counter < COUNTERS
    → word ≡ get_or sets.words (word_of sets.cards index counter) 0 → eqb (bit_and (word / 2 ^ (counter % WORD_COUNTERS)) 1) 1 ≡ has sets index counter
tested sets index counter word known small word_is =
    ap (λ (n : ℕ). eqb n 1) (shr_and_one word (counter % WORD_COUNTERS) ∙ ap (λ (word : ℕ). bit_at word (counter % WORD_COUNTERS)) word_is)
    ∙ sym (here sets index counter known small)

-- where the word of a counter is 0 the counter isn't in the set
pub no-counter : (sets : CounterSets) (index counter word : ℕ) → word ≡ get_or sets.words (word_of sets.cards index counter) 0 → word ≡ 0
    → has sets index counter ≡ false
unfolding has
no-counter sets index counter word word_is zero =
    and_right (ltb index sets.cards) _
    (and_right (ltb counter COUNTERS) (eqb (bit sets.cards sets.words index counter) 1)
    (ap (λ (word : ℕ). eqb (bit_at word (counter % WORD_COUNTERS)) 1) (sym word_is ∙ zero)
    ∙ ap (λ (n : ℕ). eqb n 1) (bit_at-zero (counter % WORD_COUNTERS))))

-- where no word is open the sets are empty
pub no-bits : (sets : CounterSets) → sets.words ≡ [] → (index counter : ℕ) → has sets index counter ≡ false
no-bits sets words_are index counter =
    no-counter sets index counter 0
    (sym (ap (λ (words : List ℕ). get_or words (word_of sets.cards index counter) 0) words_are
    ∙ get_or_past [] (word_of sets.cards index counter) 0 (omega arith))) refl
