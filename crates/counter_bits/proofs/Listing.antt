-- A list to which the ATCs of a set are appended, one after another.
use Rattle.std.proofs.Common.{◌≡◌, ℕ, ◌+◌, ◌*◌, ◌/◌, ◌≤◌, List, [], ◌∷◌, ◌++◌, length, take, inl, inr, sym, ap, ◌∙◌, refl, subst}
use Rattle.std.proofs.Common.{Bool, true, false, ◌&&◌, eqb, ltb, arith}
use Rattle.std.proofs.lemmas.Bool.{cases_eq, cases_lt, cases_order, and_left, and_right, eq-eqb, ne_eqb, lt-ltb, le-ltb}
use Rattle.std.proofs.lemmas.List.{take-take, take_all}
use Rattle.std.proofs.lemmas.List.Sums.{sum_by_push, sum_by-append}
use Rattle.counter_bits.specs.declared.counter_bits.TheConstants.{COUNTERS, WORD_COUNTERS, CARD_WORDS}
use Rattle.counter_bits.specs.CounterSets.{CounterSets, has, times, one_if}
use Rattle.counter_bits.proofs.Bits.{nowhere}

-- one pair more
pub times-push : (number counter : ℕ) (pairs : List (ℕ × ℕ)) (pair : ℕ × ℕ)
    → times number counter (pairs ++ pair ∷ []) ≡ times number counter pairs + one_if (eqb pair.0 number && eqb pair.1 counter)
unfolding times
times-push number counter pairs pair = sum_by_push (λ (pair : ℕ × ℕ). one_if (eqb pair.0 number && eqb pair.1 counter)) pairs pair

-- one list behind another
pub times-append : (number counter : ℕ) (first second : List (ℕ × ℕ))
    → times number counter (first ++ second) ≡ times number counter first + times number counter second
unfolding times
times-append number counter first second = sum_by-append (λ (pair : ℕ × ℕ). one_if (eqb pair.0 number && eqb pair.1 counter)) first second

-- ---- one number more is below the next
steps-below : (its has_it : Bool) → one_if (its && (true && has_it)) + one_if (its && (false && has_it)) ≡ one_if (its && (true && has_it))
steps-below true true = refl
steps-below true false = refl
steps-below false has_it = refl

steps-here : (its has_it : Bool) → one_if (its && (false && has_it)) + one_if (its && (true && has_it)) ≡ one_if (its && (true && has_it))
steps-here true true = refl
steps-here true false = refl
steps-here false has_it = refl

steps-above : (its has_it : Bool) → one_if (its && (false && has_it)) + one_if (its && (false && has_it)) ≡ one_if (its && (false && has_it))
steps-above true has_it = refl
steps-above false has_it = refl

steps-at : (its has_it below here more b h m : Bool) → below ≡ b → here ≡ h → more ≡ m
    → one_if (its && (b && has_it)) + one_if (its && (h && has_it)) ≡ one_if (its && (m && has_it))
    → one_if (its && (below && has_it)) + one_if (its && (here && has_it)) ≡ one_if (its && (more && has_it))
steps-at its has_it below here more b h m below_is here_is more_is at =
    subst (λ (below : Bool). one_if (its && (below && has_it)) + one_if (its && (here && has_it)) ≡ one_if (its && (more && has_it))) (sym below_is)
    (subst (λ (here : Bool). one_if (its && (b && has_it)) + one_if (its && (here && has_it)) ≡ one_if (its && (more && has_it))) (sym here_is)
    (subst (λ (more : Bool). one_if (its && (b && has_it)) + one_if (its && (h && has_it)) ≡ one_if (its && (more && has_it))) (sym more_is) at))

-- what is below the next number is below this one, or is it
pub below-more : (its has_it : Bool) (number next : ℕ)
    → one_if (its && (ltb number next && has_it)) + one_if (its && (eqb next number && has_it)) ≡ one_if (its && (ltb number (next + 1) && has_it))
below-more its has_it number next =
    elim (cases_order number next) [
      | inl same ↦
          steps-at its has_it _ _ _ false true true (le-ltb number next (omega arith)) (eq-eqb next number (sym same)) (lt-ltb number (next + 1) (omega arith))
          (steps-here its has_it)
      | inr apart ↦ elim apart [
        | inl below ↦
            steps-at its has_it _ _ _ true false true (lt-ltb number next below) (ne_eqb next number (λ same. omega arith))
            (lt-ltb number (next + 1) (omega arith)) (steps-below its has_it)
        | inr above ↦
            steps-at its has_it _ _ _ false false false (le-ltb number next (omega arith)) (ne_eqb next number (λ same. omega arith))
            (le-ltb number (next + 1) (omega arith)) (steps-above its has_it)
      ]
    ]

and-true : (its here : Bool) → (its && (here && true)) ≡ (its && here)
and-true true true = refl
and-true true false = refl
and-true false here = refl

and-false : (its here : Bool) → (its && (here && false)) ≡ false
and-false true true = refl
and-false true false = refl
and-false false here = refl

-- a counter that is in the set and is listed
pub counted-listed : (sets : CounterSets) (index next counter : ℕ) (its : Bool) → has sets index next ≡ true
    → one_if (its && (eqb next counter && has sets index counter)) ≡ one_if (its && eqb next counter)
counted-listed sets index next counter its there =
    elim (cases_eq next counter) [
      | inl same ↦
          ap (λ (has_it : Bool). one_if (its && (eqb next counter && has_it))) (ap (has sets index) (sym same) ∙ there)
          ∙ ap one_if (and-true its (eqb next counter))
      | inr apart ↦
          let none = ne_eqb next counter apart in
          ap (λ (here : Bool). one_if (its && (here && has sets index counter))) none ∙ ap (λ (here : Bool). one_if (its && here)) (sym none)
    ]

-- and one that isn't in the set
pub counted-none : (sets : CounterSets) (index next counter : ℕ) (its : Bool) → has sets index next ≡ false
    → one_if (its && (eqb next counter && has sets index counter)) ≡ 0
counted-none sets index next counter its none =
    elim (cases_eq next counter) [
      | inl same ↦
          ap (λ (has_it : Bool). one_if (its && (eqb next counter && has_it))) (ap (has sets index) (sym same) ∙ none)
          ∙ ap one_if (and-false its (eqb next counter))
      | inr apart ↦ ap (λ (here : Bool). one_if (its && (here && has sets index counter))) (ne_eqb next counter apart) ∙ ap one_if (and_right its false refl)
    ]

-- ---- the counters of one word

-- a word begins with no counter listed
pub in-word-none : (has_it : Bool) (block counter : ℕ)
    → (ltb counter (block * WORD_COUNTERS) && (eqb block (counter / WORD_COUNTERS) && has_it)) ≡ false
in-word-none has_it block counter =
    elim (cases_lt counter (block * WORD_COUNTERS)) [
      | inl below ↦
          and_right (ltb counter (block * WORD_COUNTERS)) _
          (and_left (eqb block (counter / WORD_COUNTERS)) has_it (ne_eqb block (counter / WORD_COUNTERS) (λ same. omega (arith, below, same))))
      | inr past ↦ and_left (ltb counter (block * WORD_COUNTERS)) _ (le-ltb counter (block * WORD_COUNTERS) past)
    ]

-- nothing more where it is false
pub none-added : (count : ℕ) (its : Bool) {there : Bool} → there ≡ false → count ≡ count + one_if (its && there)
none-added count its {there} none =
    let zero : one_if (its && there) ≡ 0 = ap (λ (there : Bool). one_if (its && there)) none ∙ ap one_if (and_right its false refl) in
    omega (arith, zero)

-- the next number is one of the word
pub in-word-here : (its has_it : Bool) (block next counter : ℕ) → next / WORD_COUNTERS ≡ block
    → one_if (its && (eqb next counter && has_it)) ≡ one_if (its && (eqb next counter && (eqb block (counter / WORD_COUNTERS) && has_it)))
in-word-here its has_it block next counter within =
    elim (cases_eq next counter) [
      | inl same ↦
          ap (λ (here : Bool). one_if (its && (eqb next counter && (here && has_it))))
          (sym (eq-eqb block (counter / WORD_COUNTERS) (sym within ∙ ap (λ (n : ℕ). n / WORD_COUNTERS) same)))
      | inr apart ↦
          let none = ne_eqb next counter apart in
          ap (λ (here : Bool). one_if (its && (here && has_it))) none
          ∙ ap (λ (here : Bool). one_if (its && (here && (eqb block (counter / WORD_COUNTERS) && has_it)))) (sym none)
    ]

-- and ends with all of them
pub in-word-all : (has_it : Bool) (block counter last : ℕ) → last ≡ block * WORD_COUNTERS + WORD_COUNTERS
    → (ltb counter last && (eqb block (counter / WORD_COUNTERS) && has_it)) ≡ (eqb block (counter / WORD_COUNTERS) && has_it)
in-word-all has_it block counter last end =
    elim (cases_eq block (counter / WORD_COUNTERS)) [
      | inl same ↦
          ap (λ (small : Bool). small && (eqb block (counter / WORD_COUNTERS) && has_it)) (lt-ltb counter last (omega (arith, same, end)))
      | inr apart ↦
          let none = ne_eqb block (counter / WORD_COUNTERS) apart in
          and_right (ltb counter last) _ (and_left (eqb block (counter / WORD_COUNTERS)) has_it none)
          ∙ sym (and_left (eqb block (counter / WORD_COUNTERS)) has_it none)
    ]

-- a word without counters has none to list
pub in-word-empty : (sets : CounterSets) (index block counter : ℕ) (its : Bool)
    → ((counter : ℕ) → counter / WORD_COUNTERS ≡ block → has sets index counter ≡ false)
    → one_if (its && (eqb block (counter / WORD_COUNTERS) && has sets index counter)) ≡ 0
in-word-empty sets index block counter its none =
    elim (cases_eq block (counter / WORD_COUNTERS)) [
      | inl same ↦
          ap (λ (has_it : Bool). one_if (its && (eqb block (counter / WORD_COUNTERS) && has_it))) (none counter (sym same))
          ∙ ap one_if (and-false its (eqb block (counter / WORD_COUNTERS)))
      | inr apart ↦
          ap (λ (here : Bool). one_if (its && (here && has sets index counter))) (ne_eqb block (counter / WORD_COUNTERS) apart)
          ∙ ap one_if (and_right its false refl)
    ]

-- all counters stand in the first 1,024 words
pub below-all : (sets : CounterSets) (index counter last : ℕ) → last ≡ CARD_WORDS
    → (ltb (counter / WORD_COUNTERS) last && has sets index counter) ≡ has sets index counter
below-all sets index counter last all =
    elim (cases_lt counter COUNTERS) [
      | inl below ↦
          ap (λ (small : Bool). small && has sets index counter) (lt-ltb (counter / WORD_COUNTERS) last (omega (arith, below, all)))
      | inr past ↦
          and_left (ltb (counter / WORD_COUNTERS) last) (has sets index counter) (le-ltb (counter / WORD_COUNTERS) last (omega (arith, past, all)))
          ∙ sym (nowhere sets index counter (λ held. let low = held.1 in omega (arith, low, past)))
    ]

-- what stood at the front stays there, and again
pub kept-more : {X : Type 0} (first list longer : List X) → (length first ≤ length list) × (take (length first) list ≡ first)
    → (length list ≤ length longer) × (take (length list) longer ≡ list) → (length first ≤ length longer) × (take (length first) longer ≡ first)
kept-more first list longer before more = (
  omega (arith, before.0, more.0),
  sym (take-take (length first) (length list) longer before.0) ∙ ap (take (length first)) more.1 ∙ before.1,
)

-- a list stands at its own front
pub kept-same : {X : Type 0} (list : List X) → (length list ≤ length list) × (take (length list) list ≡ list)
kept-same list = (omega arith, take_all (length list) list (omega arith))
