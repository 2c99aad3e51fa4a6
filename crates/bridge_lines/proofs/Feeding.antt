-- Reading feed lines one after another, as a loop does.
use Rattle.std.proofs.Common.{◌≡◌, ℕ, suc, ◌<◌, List, [], ◌∷◌, ◌++◌, length, map, Option, Some, None, refl, sym, ap, ◌∙◌, arith, append_assoc}
use Rattle.std.proofs.lemmas.List.{append-nil, map-append}
use Rattle.one_history.specs.Streams.{Indexed}
use Rattle.bridge_rule.specs.declared.record.Placed.{Placed}
use Rattle.bridge_rule.specs.Bridges.{indexed}
use Rattle.bridge_lines.specs.Parts.{◌>>=◌, cut, record_in}
use Rattle.bridge_lines.specs.Reading.{records_in}

-- the records before, and those that are read
abbrev pub with_front : List Indexed → Option (List Indexed) → Option (List Indexed)
with_front front read = read >>= λ more. Some (front ++ more)

-- the records so far, and those of the lines that are left, are those of all lines
pub record Feeds (records : List Placed) (left : ℕ) (rest : List ℕ) (total : Option (List Indexed)) : Type 0 where
  pub is : with_front (map indexed records) (records_in left rest) ≡ total

abbrev pub one_more : Indexed → Option (List Indexed) → Option (List Indexed)
one_more one read = read >>= λ more. Some (one ∷ more)

-- where a line is left, one more record is read, or none
abbrev pub then_records : ℕ → Option (List ℕ × List ℕ) → Option (List Indexed)
then_records left line = do
  line ← line
  one ← record_in line.0
  more ← records_in left line.1
  Some (one ∷ more)

records-step : (left : ℕ) (rest : List ℕ) → 0 < length rest → records_in (suc left) rest ≡ then_records left (cut 10 rest)
unfolding records_in
records-step left [] some = absurd (omega (arith, some))
records-step left (byte ∷ rest) some = refl

records-end : (left : ℕ) (rest : List ℕ) → length rest ≡ 0 → records_in left rest ≡ Some []
unfolding records_in
records-end left [] none = refl
records-end left (byte ∷ rest) none = absurd (omega (arith, none))

records-over : (rest : List ℕ) → 0 < length rest → records_in 0 rest ≡ None
unfolding records_in
records-over [] some = absurd (omega (arith, some))
records-over (byte ∷ rest) some = refl

regroup : (front : List Indexed) (one : Indexed) (read : Option (List Indexed))
    → with_front front (one_more one read) ≡ with_front (front ++ one ∷ []) read
regroup front one (Some more) = ap (λ (records : List Indexed). Some records) (simp append_assoc)
regroup front one None = refl

module _ (records : List Placed) (left after : ℕ) (rest : List ℕ) (total : Option (List Indexed)) (feeds : Feeds records left rest total) where
  -- no line is left
  pub feeds-end : length rest ≡ 0 → Some (map indexed records) ≡ total
  feeds-end none =
      ap Some (sym (append-nil (map indexed records))) ∙ sym (ap (with_front (map indexed records)) (records-end left rest none)) ∙ feeds.is

  -- there are too many lines
  pub feeds-over : left ≡ 0 → 0 < length rest → None ≡ total
  feeds-over none some =
      sym (ap (with_front (map indexed records)) (ap (λ n. records_in n rest) none ∙ records-over rest some)) ∙ feeds.is

  -- what is left doesn't end a line
  pub feeds-broken : left ≡ suc after → 0 < length rest → cut 10 rest ≡ None → None ≡ total
  feeds-broken more some none =
      sym (ap (with_front (map indexed records))
      (ap (λ n. records_in n rest) more ∙ records-step after rest some ∙ ap (then_records after) none)) ∙ feeds.is

  -- the next line is no record
  pub feeds-none : (line behind : List ℕ) → left ≡ suc after → 0 < length rest → cut 10 rest ≡ Some (line, behind)
      → record_in line ≡ None → None ≡ total
  feeds-none line behind more some next none =
      sym (ap (with_front (map indexed records))
      (ap (λ n. records_in n rest) more ∙ records-step after rest some ∙ ap (then_records after) next
      ∙ ap (λ found. found >>= λ one. one_more one (records_in after behind)) none)) ∙ feeds.is

  -- the next line is a record
  pub feeds-one : (line behind : List ℕ) (one : Placed) → left ≡ suc after → 0 < length rest
      → cut 10 rest ≡ Some (line, behind) → record_in line ≡ Some (indexed one)
      → Feeds (records ++ one ∷ []) after behind total
  feeds-one line behind one more some next is =
      let step : records_in left rest ≡ one_more (indexed one) (records_in after behind) =
      ap (λ n. records_in n rest) more ∙ records-step after rest some ∙ ap (then_records after) next
      ∙ ap (λ found. found >>= λ one. one_more one (records_in after behind)) is in
      record {
        is = ap (λ front. with_front front (records_in after behind)) (map-append indexed records (one ∷ []))
            ∙ sym (regroup (map indexed records) (indexed one) (records_in after behind))
            ∙ sym (ap (with_front (map indexed records)) step) ∙ feeds.is;
      }
