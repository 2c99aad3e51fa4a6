-- The definition of a table against that of its first invalid row.
use Rattle.std.proofs.Common.{◌≡◌, ℕ, suc, ◌≤◌, ◌↔◌, ◌==◌, true, false, ◌&&◌, ◌||◌, not, List, [], ◌∷◌, length, refl, ap, sym, ◌∙◌, inl, inr, Option, None}
use Rattle.std.proofs.Common.{Some, IsTrue, arith}
use Rattle.std.proofs.lemmas.Bool.{cond-true, cond-false, cases_Bool, ne_eqb}
use Rattle.std.specs.Option.{is_none}
use Rattle.std.specs.List.{list_all}
use Rattle.decision_table.specs.declared.row.TableRow.{TableRow}
use Rattle.decision_table.specs.Tables.{tells_approval, takes_all, ends_in_all, is_table, may_stand, first_bad_from, first_bad_row}

-- of rows that are there, none is bad exactly if each states its approval and the last one takes all
bad_from-none : (place : ℕ) (row : TableRow) (rows : List TableRow)
    → is_none (first_bad_from place (row ∷ rows)) ≡ (list_all tells_approval (row ∷ rows) && ends_in_all (row ∷ rows))
unfolding may_stand
bad_from-none place row [] =
    elim (cases_Bool (tells_approval row)) [
      | inl told ↦ elim (cases_Bool (takes_all row)) [
        | inl all ↦ grind (arith, told, all)
        | inr some ↦ grind (arith, told, some)
      ]
      | inr untold ↦ grind (arith, untold)
    ]
bad_from-none place row (next ∷ rows) =
    elim (cases_Bool (tells_approval row)) [
      | inl told ↦
          let more : (length (next ∷ rows) == 0) ≡ false = ne_eqb (length (next ∷ rows)) 0 (λ same. absurd (omega (arith, same))) in
          let good : may_stand row (next ∷ rows) ≡ true =
          ap (λ told. told && (not (length (next ∷ rows) == 0) || takes_all row)) told ∙ ap (λ empty. not empty || takes_all row) more in
          ap is_none (cond-true (may_stand row (next ∷ rows)) _ _ good)
          ∙ bad_from-none (suc place) next rows
          ∙ sym (ap (λ told. told && list_all tells_approval (next ∷ rows) && ends_in_all (next ∷ rows)) told)
      | inr untold ↦
          let bad : may_stand row (next ∷ rows) ≡ false = ap (λ told. told && (not (length (next ∷ rows) == 0) || takes_all row)) untold in
          ap is_none (cond-false (may_stand row (next ∷ rows)) _ _ bad)
          ∙ sym (ap (λ told. told && list_all tells_approval (next ∷ rows) && ends_in_all (next ∷ rows)) untold)
    ]

-- rows that are there are a table where none is bad
pub is_table-first_bad : (row : TableRow) (rows : List TableRow) → is_table (row ∷ rows) ≡ is_none (first_bad_row (row ∷ rows))
unfolding is_table
is_table-first_bad row rows = sym (bad_from-none 0 row rows)

-- no rows are no table
pub is_table-empty : (rows : List TableRow) → length rows ≡ 0 → is_table rows ≡ false
unfolding is_table
is_table-empty [] empty = refl
is_table-empty (row ∷ rows) empty = absurd (omega (arith, empty))

-- rows are a table where there is one and the search for a bad row has found none
pub is_table-found : (rows : List TableRow) (found : Option ℕ) → found ≡ first_bad_row rows → IsTrue (is_table rows) ↔ ((1 ≤ length rows) × (found ≡ None))
is_table-found [] found is = (λ table. absurd (let no : false ≡ true = sym (is_table-empty [] refl) ∙ table in cc), λ parts. absurd (omega (arith, parts.0)))
is_table-found (row ∷ rows) None is =
    let table : is_table (row ∷ rows) ≡ true = is_table-first_bad row rows ∙ sym (ap is_none is) in
    (λ told. (omega arith, refl), λ parts. table)
is_table-found (row ∷ rows) (Some place) is =
    let other : is_table (row ∷ rows) ≡ false = is_table-first_bad row rows ∙ sym (ap is_none is) in (
      λ table. absurd (let no : false ≡ true = sym other ∙ table in cc),
      λ parts. absurd (let no : Some place ≡ None = parts.1 in cc),
    )
