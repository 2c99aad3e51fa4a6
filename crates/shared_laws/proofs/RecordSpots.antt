-- The index among a log's items of each of its records.
use Rattle.std.proofs.Common.{◌≡◌, ℕ, zero, suc, ◌<◌, List, [], ◌∷◌, ◌++◌, length, true, false, ◌&&◌, eqb, leb, ltb, refl, sym, ◌∙◌, subst, arith}
use Rattle.std.proofs.Math.Dec.{eqb-zero-suc, eqb-suc-zero, eqb-suc-suc, leb-suc-suc, leb-suc-zero}
use Rattle.std.proofs.lemmas.Bool.{le-leb}
use Rattle.shared_seats.specs.Totals.{one_if}
use Rattle.turn_book.specs.Logs.{IsFront}
use Rattle.turn_book.specs.TurnRule.{between}
use Rattle.shared_shards.specs.declared.logs.LogItem.{LogItem}
use Rattle.shared_shards.specs.declared.logs.LogItem.TheVariants.{Record, Fault}
use Rattle.shared_shards.specs.ShardLogs.{records_of}

-- a front and what stands behind it are the whole
pub front-rest : {I : Type 0} (front items : List I) → IsFront front items → (more : List I) × (items ≡ front ++ more)
front-rest [] items is = (items, refl)
front-rest (x ∷ front) [] is = absurd (cc)
front-rest (x ∷ front) (y ∷ items) is =
    let rest : IsFront front items = cc in
    let same : y ≡ x = cc in
    let behind = front-rest front items rest in
    (behind.0, (λ i. same i ∷ behind.1 i))

-- the place at which the record with this number stands, or would if only records came
abbrev pub spot : List LogItem → ℕ → ℕ
spot [] number = number
spot (Record entry ∷ items) zero = 0
spot (Record entry ∷ items) (suc number) = suc (spot items number)
spot (Fault count ∷ items) number = suc (spot items number)

-- a record stands at the spot of its number among the records, and at no other
pub spot-record : (before more : List LogItem) (entry : _) (number : ℕ)
    → eqb (length before) (spot (before ++ Record entry ∷ more) number) ≡ eqb (length (records_of before)) number
spot-record [] more entry zero = refl
spot-record [] more entry (suc number) = eqb-zero-suc (spot more number) ∙ sym (eqb-zero-suc number)
spot-record (Record first ∷ before) more entry zero = eqb-suc-zero (length before) ∙ sym (eqb-suc-zero (length (records_of before)))
spot-record (Record first ∷ before) more entry (suc number) =
    eqb-suc-suc (length before) (spot (before ++ Record entry ∷ more) number) ∙ spot-record before more entry number
    ∙ sym (eqb-suc-suc (length (records_of before)) number)
spot-record (Fault count ∷ before) more entry number =
    eqb-suc-suc (length before) (spot (before ++ Record entry ∷ more) number) ∙ spot-record before more entry number

-- no record is at the place of a fault
pub spot-fault : (before more : List LogItem) (count number : ℕ) → eqb (length before) (spot (before ++ Fault count ∷ more) number) ≡ false
spot-fault [] more count number = eqb-zero-suc (spot more number)
spot-fault (Record first ∷ before) more count zero = eqb-suc-zero (length before)
spot-fault (Record first ∷ before) more count (suc number) =
    eqb-suc-suc (length before) (spot (before ++ Fault count ∷ more) number) ∙ spot-fault before more count number
spot-fault (Fault first ∷ before) more count number =
    eqb-suc-suc (length before) (spot (before ++ Fault count ∷ more) number) ∙ spot-fault before more count number

-- the spot is within the items just where the number is within the records
pub spot-within : (items : List LogItem) (number : ℕ) → ltb (spot items number) (length items) ≡ ltb number (length (records_of items))
spot-within [] number = refl
spot-within (Record entry ∷ items) zero = below (suc (length items)) (omega arith) ∙ sym (below (suc (length (records_of items))) (omega arith))
  where
    below : (count : ℕ) → 0 < count → ltb 0 count ≡ true
    below count some = le-leb 1 count some
spot-within (Record entry ∷ items) (suc number) =
    leb-suc-suc (suc (spot items number)) (length items) ∙ spot-within items number ∙ sym (leb-suc-suc (suc number) (length (records_of items)))
spot-within (Fault count ∷ items) number = leb-suc-suc (suc (spot items number)) (length items) ∙ spot-within items number

-- and past the first items just where the number is past their records
pub spot-past : (first more : List LogItem) (number : ℕ) → leb (length first) (spot (first ++ more) number) ≡ leb (length (records_of first)) number
spot-past [] more number = le-leb 0 (spot more number) (omega arith) ∙ sym (le-leb 0 number (omega arith))
spot-past (Record entry ∷ first) more zero = leb-suc-zero (length first) ∙ sym (leb-suc-zero (length (records_of first)))
spot-past (Record entry ∷ first) more (suc number) =
    leb-suc-suc (length first) (spot (first ++ more) number) ∙ spot-past first more number ∙ sym (leb-suc-suc (length (records_of first)) number)
spot-past (Fault count ∷ first) more number = leb-suc-suc (length first) (spot (first ++ more) number) ∙ spot-past first more number

pub spot-between : (opening items : List LogItem) (number : ℕ) → IsFront opening items
    → between (length opening) (length items) (spot items number) ≡ between (length (records_of opening)) (length (records_of items)) number
spot-between opening items number front =
    let rest = front-rest opening items front in
    let past : leb (length opening) (spot items number) ≡ leb (length (records_of opening)) number =
    subst (λ (items : List LogItem). leb (length opening) (spot items number) ≡ leb (length (records_of opening)) number) (sym rest.1)
    (spot-past opening rest.0 number) in
    let within = spot-within items number in
    λ i. one_if (past i && within i)
