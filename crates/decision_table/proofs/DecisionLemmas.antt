-- What the definition of a decision states: which row it is, and that a table always has one.
use Rattle.std.proofs.Common.{◌≡◌, ℕ, zero, suc, ◌<◌, ◌==◌, true, false, List, [], ◌∷◌, length, refl, ap, sym, ◌∙◌, subst, inl, inr, Option, None, Some, IsTrue}
use Rattle.std.proofs.Common.{IsSome, bit_and, arith}
use Rattle.std.proofs.lemmas.Bool.{cond-true, cond-false, cases_Bool, and_parts, and_from, eqb-true, le-leb}
use Rattle.std.proofs.lemmas.Option.{same_Some}
use Rattle.std.specs.Int.Bits.{and_zero_r}
use Rattle.std.specs.Option.{is_none, option_map}
use Rattle.std.specs.List.{list_all, find, slice_get}
use Rattle.issuer_base.specs.declared.request.Parts.{Parts}
use Rattle.issuer_base.specs.ChipData.{cvr, amount_value}
use Rattle.decision_table.specs.declared.row.TableRow.{TableRow}
use Rattle.decision_table.specs.Fitting.{has_bits, is_for, fits, decision, IsDecision}
use Rattle.decision_table.specs.Tables.{tells_approval, takes_all, ends_in_all, is_table}

none-before : (status : ℕ) (request : Parts) (here : TableRow) (rows : List TableRow) (place : ℕ) → fits status request here ≡ false
    → ((before : ℕ) (other : TableRow) → before < place → slice_get rows before ≡ Some other → fits status request other ≡ false)
    → (before : ℕ) (other : TableRow) → before < suc place → slice_get (here ∷ rows) before ≡ Some other → fits status request other ≡ false
none-before status request here rows place unfit first zero other below stands =
    subst (λ (row : TableRow). fits status request row ≡ false) (same_Some here other stands) unfit
none-before status request here rows place unfit first (suc before) other below stands = first before other (omega arith) stands

-- the first row that fits is at some index, and none before it fits
pub first-fits : (rows : List TableRow) (status : ℕ) (request : Parts) (row : TableRow) → find (fits status request) rows ≡ Some row
    → IsDecision rows status request row
first-fits [] status request row found = absurd (let no : None ≡ Some row = found in cc)
first-fits (here ∷ rows) status request row found =
    elim (cases_Bool (fits status request here)) [
      | inl fitting ↦
          let same : here ≡ row = same_Some here row (sym (cond-true (fits status request here) _ _ fitting) ∙ found) in
          record {
            place = 0;
            stands = ap Some same;
            fitting = subst (λ (first : TableRow). fits status request first ≡ true) same fitting;
            first = λ before other below stands. absurd (omega arith);
          }
      | inr unfit ↦
          let rest = first-fits rows status request row (sym (cond-false (fits status request here) _ _ unfit) ∙ found) in
          record {
            place = suc rest.place;
            stands = rest.stands;
            fitting = rest.fitting;
            first = none-before status request here rows rest.place unfit rest.first;
          }
    ]

has_bits-zeros : (masks values bytes : List ℕ) → list_all (λ byte. byte == 0) masks ≡ true → list_all (λ byte. byte == 0) values ≡ true
    → has_bits masks values bytes ≡ true
has_bits-zeros [] values bytes no_masks no_values = refl
has_bits-zeros (mask ∷ masks) [] bytes no_masks no_values = refl
has_bits-zeros (mask ∷ masks) (value ∷ values) [] no_masks no_values = refl
has_bits-zeros (mask ∷ masks) (value ∷ values) (byte ∷ bytes) no_masks no_values =
    let no_mask : mask ≡ 0 = eqb-true mask 0 (and_parts _ _ no_masks).0 in
    let no_value : value ≡ 0 = eqb-true value 0 (and_parts _ _ no_values).0 in
    let picked : bit_and byte mask ≡ value = ap (bit_and byte) no_mask ∙ and_zero_r byte ∙ sym no_value in
    let here : (bit_and byte mask == value) ≡ true = grind (arith, picked) in
    and_from _ _ here (has_bits-zeros masks values bytes (and_parts _ _ no_masks).1 (and_parts _ _ no_values).1)

is_for-any : (wanted : Option ℕ) (status : ℕ) → is_none wanted ≡ true → is_for wanted status ≡ true
is_for-any None status any = refl
is_for-any (Some wanted) status any = absurd (let no : false ≡ true = any in cc)

-- a row that takes all fits every request
pub takes_all-fits : (row : TableRow) (status : ℕ) (request : Parts) → amount_value request < 1000000000000 → takes_all row ≡ true
    → fits status request row ≡ true
unfolding fits takes_all
takes_all-fits row status request below all =
    let to_most = and_parts _ _ (and_parts _ _ all).0 in
    let to_least = and_parts _ _ to_most.0 in
    let to_cvr = and_parts _ _ to_least.0 in
    let to_cvr_mask = and_parts _ _ to_cvr.0 in
    let to_tvr = and_parts _ _ to_cvr_mask.0 in
    let least : row.least ≡ 0 = eqb-true row.least 0 to_least.1 in
    let most : row.most ≡ 999999999999 = eqb-true row.most 999999999999 to_most.1 in
    and_from _ _ (and_from _ _ (and_from _ _ (and_from _ _
    (is_for-any row.status status (and_parts _ _ all).1)
    (le-leb row.least (amount_value request) (omega (arith, least))))
    (le-leb (amount_value request) row.most (omega (arith, most, below))))
    (has_bits-zeros row.tvr_mask row.tvr_value request.tvr to_tvr.0 to_tvr.1))
    (has_bits-zeros row.cvr_mask row.cvr_value (cvr request) to_cvr_mask.1 to_cvr.1)

some-fits : (rows : List TableRow) (status : ℕ) (request : Parts) → amount_value request < 1000000000000 → ends_in_all rows ≡ true
    → find (fits status request) rows ≡ None → ⊥
some-fits [] status request below ends none = let no : false ≡ true = ends in absurd (cc)
some-fits (row ∷ []) status request below ends none =
    let some : Some row ≡ None = sym (cond-true (fits status request row) _ _ (takes_all-fits row status request below ends)) ∙ none in
    absurd (cc)
some-fits (row ∷ next ∷ rows) status request below ends none =
    elim (cases_Bool (fits status request row)) [
      | inl fitting ↦ absurd (let some : Some row ≡ None = sym (cond-true (fits status request row) _ _ fitting) ∙ none in cc)
      | inr unfit ↦ some-fits (next ∷ rows) status request below ends (sym (cond-false (fits status request row) _ _ unfit) ∙ none)
    ]

-- in a table the first row that fits decides
pub table-decision : (rows : List TableRow) (status : ℕ) (request : Parts) → IsTrue (is_table rows)
    → decision rows status request ≡ find (fits status request) rows
table-decision rows status request table = cond-true (is_table rows) (find (fits status request) rows) None table

-- the row of a table that decides fits, and none before it does
pub decides : (rows : List TableRow) (status : ℕ) (request : Parts) (row : TableRow) → IsTrue (is_table rows)
    → decision rows status request ≡ Some row → IsDecision rows status request row
decides rows status request row table found = first-fits rows status request row (sym (table-decision rows status request table) ∙ found)

-- of rows with their approval, the one that is found has it
found-tells : (rows : List TableRow) (status : ℕ) (request : Parts) (row : TableRow) → list_all tells_approval rows ≡ true
    → find (fits status request) rows ≡ Some row → tells_approval row ≡ true
found-tells [] status request row told found = absurd (let no : None ≡ Some row = found in cc)
found-tells (here ∷ rows) status request row told found =
    let parts = and_parts (tells_approval here) (list_all tells_approval rows) told in
    elim (cases_Bool (fits status request here)) [
      | inl fitting ↦
          let same : here ≡ row = same_Some here row (sym (cond-true (fits status request here) _ _ fitting) ∙ found) in
          subst (λ (first : TableRow). tells_approval first ≡ true) same parts.0
      | inr unfit ↦ found-tells rows status request row parts.1 (sym (cond-false (fits status request here) _ _ unfit) ∙ found)
    ]

-- a row that decides has its approval
pub decision-tells : (rows : List TableRow) (status : ℕ) (request : Parts) (row : TableRow) → decision rows status request ≡ Some row
    → tells_approval row ≡ true
unfolding is_table
decision-tells rows status request row found =
    elim (cases_Bool (is_table rows)) [
      | inl table ↦ found-tells rows status request row (and_parts (list_all tells_approval rows) _ table).0
          (sym (table-decision rows status request table) ∙ found)
      | inr other ↦
          absurd (let no : None ≡ Some row = sym (cond-false (is_table rows) (find (fits status request) rows) None other) ∙ found in cc)
    ]

-- such a row's card status update has four bytes
pub tells-update : (row : TableRow) → tells_approval row ≡ true → length row.csu ≡ 4
unfolding tells_approval
tells-update row told = eqb-true (length row.csu) 4 (and_parts (length row.csu == 4) _ told).0

-- a table decides every request
pub decision-table : (rows : List TableRow) (status : ℕ) (request : Parts) → amount_value request < 1000000000000 → IsTrue (is_table rows)
    → decision rows status request ≡ None → ⊥
unfolding is_table
decision-table rows status request below table none =
    some-fits rows status request below (and_parts _ _ table).1 (sym (table-decision rows status request table) ∙ none)

-- so what is found in a table is there
pub found-table : {A : Type 0} (shown : A → TableRow) (found : Option A) (rows : List TableRow) (status : ℕ) (request : Parts)
    → amount_value request < 1000000000000 → IsTrue (is_table rows) → option_map shown found ≡ find (fits status request) rows → IsSome found
unfolding is_table
found-table shown (Some row) rows status request below table is = refl
found-table shown None rows status request below table is =
    absurd (some-fits rows status request below (and_parts _ _ table).1 (sym is))
