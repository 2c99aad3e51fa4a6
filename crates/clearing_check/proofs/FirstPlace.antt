-- The first record of an ATC, by its place in the list.
use Rattle.std.proofs.Common.{◌≡◌, ℕ, ◌+◌, ◌<◌, ◌≤◌, true, false, List, [], ◌∷◌, length, get_or, set, refl, ap, arith, inl, inr, zero, suc}
use Rattle.std.specs.List.{position_or_len}
use Rattle.std.proofs.lemmas.Bool.{cases_Bool}
use Rattle.clearing_check.specs.declared.filed.Filed.{Filed}
use Rattle.clearing_check.specs.Records.{has_atc, certify, certified}

-- a record of the ATC is the first of those from it on
first : (card atc : ℕ) (filed : Filed) (others : List Filed) → has_atc card atc filed ≡ true
    → position_or_len (has_atc card atc) (filed ∷ others) ≡ 0
first card atc filed others here = rw here refl

-- another record is before the first
next : (card atc : ℕ) (filed : Filed) (others : List Filed) → has_atc card atc filed ≡ false
    → position_or_len (has_atc card atc) (filed ∷ others) ≡ 1 + position_or_len (has_atc card atc) others
next card atc filed others apart = rw apart refl

-- the first record is certified where it is
pub certify-at : (card atc : ℕ) (records : List Filed) (n : ℕ) (found : Filed)
    → n ≡ position_or_len (has_atc card atc) records
    → n < length records → found ≡ get_or records n found → set records n (certified found) ≡ certify card atc records
certify-at card atc [] n found place within read = absurd (omega (arith, within))
certify-at card atc (filed ∷ others) zero found place within read =
    elim (cases_Bool (has_atc card atc filed)) [
      | inl here ↦ rw here (ap (λ (x : Filed). certified x ∷ others) read)
      | inr apart ↦ absurd (omega (arith, place, next card atc filed others apart))
    ]
certify-at card atc (filed ∷ others) (suc n) found place within read =
    elim (cases_Bool (has_atc card atc filed)) [
      | inl here ↦ absurd (omega (arith, place, first card atc filed others here))
      | inr apart ↦
          let there : n ≡ position_or_len (has_atc card atc) others =
          omega (arith, place, next card atc filed others apart) in
          rw apart (ap (λ (rest : List Filed). filed ∷ rest)
          (certify-at card atc others n found there (omega (arith, within)) read))
    ]

-- with none there is nothing to certify
pub certify-none : (card atc : ℕ) (records : List Filed) → length records ≤ position_or_len (has_atc card atc) records
    → records ≡ certify card atc records
certify-none card atc [] past = refl
certify-none card atc (filed ∷ others) past =
    elim (cases_Bool (has_atc card atc filed)) [
      | inl here ↦ absurd (omega (arith, past, first card atc filed others here))
      | inr apart ↦
          let beyond : length others ≤ position_or_len (has_atc card atc) others =
          omega (arith, past, next card atc filed others apart) in
          rw apart (ap (λ (rest : List Filed). filed ∷ rest) (certify-none card atc others beyond))
    ]
