-- The numbers of records after one more.
use Rattle.std.proofs.Common.{◌≡◌, ℕ, ◌+◌, ◌<◌, ◌≤◌, Bool, true, false, cond, not, eqb, ◌&&◌, if◌then◌else◌, List, [], ◌∷◌, ◌++◌, length, set, get_or, refl, ap, ap₂, ◌∙◌, sym, arith, inl, inr}
use Rattle.std.specs.List.{position_or_len}
use Rattle.std.proofs.lemmas.Bool.{cases_Bool, cond-false, cond-true, and_from, and_left, and_right, eq-eqb, ne_eqb, cases_eq}
use Rattle.std.proofs.lemmas.List.{length-set, length_push}
use Rattle.std.proofs.lemmas.List.Folds.{position_or_len-set, position_or_len_push}
use Rattle.std.proofs.lemmas.List.Sums.{prefix_len-le-length}
use Rattle.clearing_check.specs.declared.filed.Filed.{Filed}
use Rattle.clearing_check.specs.Records.{has_atc, certified}
use Rattle.clearing_check.specs.AtcPages.{Pages, slot_of, slot_for, HaveNumbers}

-- the slot by a number and the number of records
slot : ℕ → ℕ → ℕ
slot number count = cond (eqb number count) 0 (number + 1)

-- the number after one more record, which is of the ATC or not
after : ℕ → ℕ → Bool → ℕ
after number count here = cond (eqb number count) (count + cond here 0 1) number

slot-new : (number count : ℕ) → slot number count ≡ 0 → slot (after number count true) (count + 1) ≡ count + 1
unfolding slot after
slot-new number count none =
    elim (cases_eq number count) [
      | inl all ↦
          rw (eq-eqb number count all, ne_eqb (count + 0) (count + 1) (λ same. omega (arith, same))) (omega arith)
      | inr apart ↦
          let some = cond-false (eqb number count) 0 (number + 1) (ne_eqb number count apart) in
          absurd (omega (arith, none, some))
    ]

slot-none : (number count : ℕ) → number ≤ count → slot (after number count false) (count + 1) ≡ slot number count
unfolding slot after
slot-none number count within = grind (arith, cases_eq number count)

slot-first : (number count : ℕ) (here : Bool) → number ≤ count → (slot number count ≡ 0 → ⊥)
    → slot (after number count here) (count + 1) ≡ slot number count
unfolding slot after
slot-first number count here within is = grind (arith, cases_eq number count)

module _ (card atc : ℕ) (records : List Filed) (filed : Filed) where
  within : position_or_len (has_atc card atc) records ≤ length records
  within = prefix_len-le-length (λ x. not (has_atc card atc x)) records

  slot_for-push : (here : Bool) → has_atc card atc filed ≡ here → slot_for card atc (records ++ filed ∷ [])
      ≡ slot (after (position_or_len (has_atc card atc) records) (length records) here) (length records + 1)
  unfolding slot after
  slot_for-push here is =
      ap₂ slot (position_or_len_push (has_atc card atc) records filed) (length_push records filed)
      ∙ ap (λ (here : Bool).
      slot (after (position_or_len (has_atc card atc) records) (length records) here) (length records + 1)) is

  -- the first record of an ATC gets the next number
  slot_for-new : slot_for card atc records ≡ 0 → has_atc card atc filed ≡ true
      → slot_for card atc (records ++ filed ∷ []) ≡ length records + 1
  unfolding slot
  slot_for-new none here =
      slot_for-push true here ∙ slot-new (position_or_len (has_atc card atc) records) (length records) none

  -- another ATC keeps its number
  slot_for-other : has_atc card atc filed ≡ false
      → slot_for card atc records ≡ slot_for card atc (records ++ filed ∷ [])
  unfolding slot
  slot_for-other apart =
      sym (slot_for-push false apart ∙ slot-none (position_or_len (has_atc card atc) records) (length records) within)

  -- and so does an ATC that has one
  slot_for-kept : (slot_for card atc records ≡ 0 → ⊥)
      → slot_for card atc records ≡ slot_for card atc (records ++ filed ∷ [])
  unfolding slot
  slot_for-kept is =
      sym (slot_for-push (has_atc card atc filed) refl
      ∙ slot-first (position_or_len (has_atc card atc) records) (length records) (has_atc card atc filed) within is)

-- after one more record, its number is that of its ATC, unless the ATC has one
pub numbers-push : (pages new : Pages) (records : List Filed) (filed : Filed) (n : ℕ) → HaveNumbers pages records
    → n ≡ length records + 1
    → ((card atc : ℕ) → atc < 65_536 → slot_of new card atc
    ≡ (if eqb (slot_of pages card atc) 0 && has_atc card atc filed then n else slot_of pages card atc))
    → HaveNumbers new (records ++ filed ∷ [])
numbers-push pages new records filed n numbers next set card atc small =
    let old = slot_of pages card atc in
    let known = numbers card atc small in
    elim (cases_Bool (has_atc card atc filed)) [
      | inl here ↦ elim (cases_eq (slot_of pages card atc) 0) [
        | inl none ↦
            set card atc small
            ∙ cond-true (eqb old 0 && has_atc card atc filed) n old
            (and_from (eqb old 0) (has_atc card atc filed) (eq-eqb old 0 none) here)
            ∙ next ∙ sym (slot_for-new card atc records filed (sym known ∙ none) here)
        | inr taken ↦
            set card atc small
            ∙ cond-false (eqb old 0 && has_atc card atc filed) n old
            (and_left (eqb old 0) (has_atc card atc filed) (ne_eqb old 0 taken))
            ∙ known ∙ slot_for-kept card atc records filed (λ none. taken (known ∙ none))
      ]
      | inr apart ↦
          set card atc small
          ∙ cond-false (eqb old 0 && has_atc card atc filed) n old
          (and_right (eqb old 0) (has_atc card atc filed) apart)
          ∙ known ∙ slot_for-other card atc records filed apart
    ]

-- a record that is certified keeps its number
pub numbers-certified : (pages : Pages) (records : List Filed) (n : ℕ) (d : Filed) → HaveNumbers pages records
    → HaveNumbers pages (set records n (certified (get_or records n d)))
numbers-certified pages records n d numbers card atc small =
    let number = position_or_len-set (has_atc card atc) records n (certified (get_or records n d)) d refl in
    let count = length-set records n (certified (get_or records n d)) in
    numbers card atc small ∙ rw (number, count) refl
