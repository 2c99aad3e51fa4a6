-- The rows of the decision table: each one's card status update states its decision, so only the last row can be at
-- fault, and what a configuration states is a table.
use Rattle.std.proofs.Common.{◌≡◌, ◌+◌, ◌<◌, ◌≤◌, if◌then◌else◌, true, false, List, [], ◌∷◌, length, map, Option, Some, None, Ok, Err, codes, refl}
use Rattle.std.proofs.Common.{ap, sym, subst, ◌∙◌, ◌++◌, ◌&&◌, nat_le, ℕ, inl, inr, IsTrue, Result, arith}
use Rattle.std.proofs.lemmas.Bool.{and_from, cases_Bool, cond-false, cond-true}
use Rattle.std.proofs.lemmas.List.{length-map}
use Rattle.std.specs.List.{list_all}
use Rattle.std.specs.Option.{IfSome}
use Rattle.serde_json.specs.Data.{Data}
use Rattle.serde_json.specs.View.{view}
use Rattle.serde_json.specs.declared.value.Value.{Value}
use Rattle.issuer_base.specs.declared.limits.TheConstants.{MAX_TABLE_ROWS}
use Rattle.decision_table.specs.declared.row.TableRow.{TableRow}
use Rattle.issuer_setup.specs.IssuerSetup.{Setup}
use Rattle.decision_table.specs.Tables.{tells_approval, ends_in_all, is_table, table_from}
use Rattle.config_read.specs.declared.fault.ConfigPart.TheVariants.{Table, Whole}
use Rattle.config_read.specs.declared.fault.ConfigFault.{ConfigFault}
use Rattle.config_read.specs.declared.fault.ConfigFault.TheVariants.{At}
use Rattle.config_read.specs.declared.config.TheConstants.{MAX_CONFIG_BYTES}
use Rattle.config_read.specs.Configuration.{configured, object_in, setup_in, where_json}
use Rattle.config_read.specs.Json.{json_of}
use Rattle.config_read.specs.Elements.{row_in}
use Rattle.config_read.specs.Parts.{◌>>=◌, cards_in, follows_any, keys_in, part_elements, said_by, shards_in, table_in, where_last_takes_all}
use Rattle.config_read.specs.Front.{front, in_front}
use Rattle.issuer_setup.specs.Elements.{AreSound, IsParsed}
use Rattle.issuer_setup.proofs.Elements.{is_parsed}
use Rattle.config_read.proofs.FrontLemmas.{length-front-le}
use Rattle.config_read.proofs.PartsLemmas.{no_conflict, said_by-broken, said_by-whole, silent-place, whole-place}
use Rattle.config_read.proofs.RowPartsLemmas.{row_in-tells}

-- ---- which rows are a table

in_front-told : (first : Option TableRow) (rows : List TableRow) → IfSome first (λ row. tells_approval row ≡ true)
    → list_all tells_approval rows ≡ true → list_all tells_approval (in_front first rows) ≡ true
in_front-told None rows told all = refl
in_front-told (Some row) rows told all = rw (told, all) refl

front-told : (elements : List Data) → list_all tells_approval (front row_in elements) ≡ true
front-told [] = refl
front-told (element ∷ elements) = in_front-told (row_in element) (front row_in elements) (row_in-tells element) (front-told elements)

-- rows that tell their approvals are a table where the last takes all
table_from-told : (rows : List TableRow) → list_all tells_approval rows ≡ true → table_from rows ≡ (if ends_in_all rows then Some rows else None)
unfolding table_from is_table
table_from-told rows told = rw told refl

table_from-front : (elements : List Data) (rows : List TableRow) → rows ≡ front row_in elements
    → table_from rows ≡ (if ends_in_all rows then Some rows else None)
table_from-front elements rows found = table_from-told rows (ap (list_all tells_approval) found ∙ front-told elements)

-- ---- the part

module _ (value : Data) (elements : List Value) (rows : List TableRow)
    (is : part_elements Table (codes "table") MAX_TABLE_ROWS value ≡ Ok (map view elements)) (found : rows ≡ front row_in (map view elements)) where
  table_in-elements : table_in value ≡ (said_by Table row_in follows_any (map view elements) >>= where_last_takes_all)
  table_in-elements = ap (λ these. these >>= said_by Table row_in follows_any >>= where_last_takes_all) is

  -- an element that says nothing
  pub table_in-silent : length rows < length elements → table_in value ≡ Err (At Table (length rows + 1))
  table_in-silent fewer =
      table_in-elements
      ∙ ap (λ said. said >>= where_last_takes_all)
      (said_by-broken Table row_in follows_any None elements rows (length rows) found (no_conflict [] rows) (silent-place None (length rows) (length elements) refl fewer))

  table_in-rows : length elements ≤ length rows → table_in value ≡ where_last_takes_all rows
  table_in-rows all =
      table_in-elements
      ∙ ap (λ said. said >>= where_last_takes_all)
      (said_by-whole Table row_in follows_any None elements rows found (no_conflict [] rows) (whole-place None (length rows) (length elements) refl all))

  -- rows that are a table
  pub table_in-whole : (table : List TableRow) → length elements ≤ length rows → Some table ≡ table_from rows → table_in value ≡ Ok table
  table_in-whole table all taken =
      let it : Some table ≡ (if ends_in_all rows then Some rows else None) = taken ∙ table_from-front (map view elements) rows found in
      table_in-rows all
      ∙ elim (ends_in_all rows) as
      (λ last. Some table ≡ (if last then Some rows else None) → (if last then Ok rows else Err (At Table (length rows))) ≡ Ok table) [
        | true ↦ λ same. grind (arith, same)
        | false ↦ λ none. cc none
      ] it

  rows-count : length elements ≤ length rows → length rows ≡ length elements
  rows-count all =
      let most : length (front row_in (map view elements)) ≤ length (map view elements) = length-front-le row_in (map view elements) in
      let few : length rows ≤ length elements = rw (found, ← length-map elements view) most in
      omega (arith, few, all)

  -- rows whose last doesn't take all
  pub table_in-last : length elements ≤ length rows → None ≡ table_from rows → table_in value ≡ Err (At Table (length elements))
  table_in-last all refused =
      let it : None ≡ (if ends_in_all rows then Some rows else None) = refused ∙ table_from-front (map view elements) rows found in
      table_in-rows all
      ∙ elim (ends_in_all rows) as
      (λ last. None ≡ (if last then Some rows else None) → (if last then Ok rows else Err (At Table (length rows))) ≡ Err (At Table (length elements))) [
        | true ↦ λ some. cc some
        | false ↦ λ none. ap (λ count. Err (At Table count)) (rows-count all)
      ] it

-- ---- what is stated is a table

abbrev rows_of : Result Setup ConfigFault → List TableRow
rows_of (Ok issuer) = issuer.table
rows_of (Err fault) = []

front-table : (found rows : List TableRow) → list_all tells_approval found ≡ true → where_last_takes_all found ≡ Ok rows → IsTrue (is_table rows)
unfolding is_table
front-table found rows told is =
    elim (cases_Bool (ends_in_all found)) [
      | inl ends ↦
          let same : Ok found ≡ Ok rows = sym (cond-true (ends_in_all found) _ _ ends) ∙ is in
          let rows_are : found ≡ rows = cc in
          subst (λ (rows : List TableRow). IsTrue (list_all tells_approval rows && ends_in_all rows)) rows_are (and_from _ _ told ends)
      | inr more ↦ absurd (let no : Err (At Table (length found)) ≡ Ok rows = sym (cond-false (ends_in_all found) _ _ more) ∙ is in cc)
    ]

-- the first step gave a value, and the second is the result
first-gave : {A B : Type 0} (first : Result A ConfigFault) (next : A → Result B ConfigFault) (result : B) → (first >>= next) ≡ Ok result
    → (value : A) × (first ≡ Ok value) × (next value ≡ Ok result)
first-gave (Ok value) next result is = (value, refl, is)
first-gave (Err fault) next result is = absurd (cc)

sound-told : (before : List TableRow) (elements : List Data) (rows : List TableRow) → AreSound row_in follows_any before elements rows
    → list_all tells_approval rows ≡ true
sound-told before [] [] held = refl
sound-told before [] (row ∷ rows) held = absurd held
sound-told before (element ∷ elements) [] held = absurd held
sound-told before (element ∷ elements) (row ∷ rows) held =
    let told = subst (λ (said : Option TableRow). IfSome said (λ row. tells_approval row ≡ true)) held.0 (row_in-tells element) in
    let rest = sound-told (before ++ row ∷ []) elements rows held.2 in
    and_from _ _ told rest

elements-table : (elements : List Data) (rows : List TableRow) → (said_by Table row_in follows_any elements >>= where_last_takes_all) ≡ Ok rows
    → IsTrue (is_table rows)
elements-table elements rows is =
    let found = first-gave (said_by Table row_in follows_any elements) where_last_takes_all rows is in
    let fault : ℕ → ConfigFault = λ place. At Table (place + 1) in
    let sound = subst (IsParsed row_in follows_any fault [] elements) found.1 (is_parsed row_in follows_any fault [] elements) in
    front-table found.0 rows (sound-told [] elements found.0 sound) found.2

table_in-table : (value : Data) (rows : List TableRow) → table_in value ≡ Ok rows → IsTrue (is_table rows)
table_in-table value rows =
    elim (part_elements Table (codes "table") MAX_TABLE_ROWS value) as
    (λ these. (these >>= said_by Table row_in follows_any >>= where_last_takes_all) ≡ Ok rows → IsTrue (is_table rows)) [
      | Ok elements ↦ elements-table elements rows
      | Err fault ↦ λ is. absurd (cc)
    ]

setup-table : (value : Data) (issuer : Setup) → setup_in value ≡ Ok issuer → IsTrue (is_table issuer.table)
setup-table value issuer is =
    let object = first-gave (object_in value) _ issuer is in
    let shards = first-gave (shards_in object.0) _ issuer object.2 in
    let keys = first-gave (keys_in object.0) _ issuer shards.2 in
    let cards = first-gave (cards_in object.0) _ issuer keys.2 in
    let table = first-gave (table_in object.0) _ issuer cards.2 in
    let rows : table.0 ≡ issuer.table = ap (λ (said : Result Setup ConfigFault). rows_of said) table.2 in
    subst (λ (rows : List TableRow). IsTrue (is_table rows)) rows (table_in-table object.0 table.0 table.1)

json-table : (told : Option Data) (issuer : Setup) → where_json told ≡ Ok issuer → IsTrue (is_table issuer.table)
json-table None issuer is = absurd (cc)
json-table (Some value) issuer is = setup-table value issuer is

-- the rows of an issuer that a configuration states
pub configured-table : (content : List ℕ) (issuer : Setup) → configured content ≡ Ok issuer → IsTrue (is_table issuer.table)
unfolding configured
configured-table content issuer =
    elim (nat_le (length content) MAX_CONFIG_BYTES) as
    (λ within. (if within then where_json (json_of content) else Err (At Whole 0)) ≡ Ok issuer → IsTrue (is_table issuer.table)) [
      | true ↦ json-table (json_of content) issuer
      | false ↦ λ is. absurd (cc)
    ]
