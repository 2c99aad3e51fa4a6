-- Which lists of rows are a decision table.
use Rattle.std.specs.Prelude.{ℕ, suc, Bool, false, ◌&&◌, ◌||◌, not, ◌==◌, if◌then◌else◌, bit_and, List, [], ◌∷◌, length, slice_index, Option, None, Some}
use Rattle.std.specs.Prelude.{is_none}
use Rattle.std.specs.List.{list_all}
use Rattle.decision_table.specs.declared.row.TableRow.{TableRow}
use Rattle.decision_table.specs.declared.row.TheConstants.{MAX_AMOUNT}

-- the row's card status update has four bytes (EMV 4.3 Book 2, section 8.2.2), and bit 8 of its byte 2 is set exactly
-- if the row approves; that layout is this project's profile
unfoldable pub tells_approval : TableRow → Bool
tells_approval row =
    length row.csu == 4
    && (if row.approve then bit_and (slice_index row.csu 1) 0x80 == 0x80
    else not (bit_and (slice_index row.csu 1) 0x80 == 0x80))

-- the row has zero masks and values, amounts from 0 to 999,999,999,999 and no status
unfoldable pub takes_all : TableRow → Bool
takes_all row =
    list_all (λ byte. byte == 0) row.tvr_mask
    && list_all (λ byte. byte == 0) row.tvr_value
    && list_all (λ byte. byte == 0) row.cvr_mask
    && list_all (λ byte. byte == 0) row.cvr_value
    && row.least == 0
    && row.most == MAX_AMOUNT
    && is_none row.status

-- there is a last row, and it matches every request
abbrev pub ends_in_all : List TableRow → Bool
ends_in_all [] = false
ends_in_all (row ∷ []) = takes_all row
ends_in_all (row ∷ next ∷ rows) = ends_in_all (next ∷ rows)

-- rows are a table if each has its approval in its card status update, and there is a last one, which matches every
-- request
unfoldable pub is_table : List TableRow → Bool
is_table rows = list_all tells_approval rows && ends_in_all rows

-- the table of these rows, or none
unfoldable pub table_from : List TableRow → Option (List TableRow)
table_from rows = if is_table rows then Some rows else None

-- a row is valid before these rows if its card status update has its approval and, if there are none, it matches every
-- request
unfoldable pub may_stand : TableRow → List TableRow → Bool
may_stand row after = tells_approval row && (not (length after == 0) || takes_all row)

-- the index of the first invalid one of these rows, counted from this index, or none
abbrev pub first_bad_from : ℕ → List TableRow → Option ℕ
first_bad_from place [] = None
first_bad_from place (row ∷ rows) = if may_stand row rows then first_bad_from (suc place) rows else Some place

-- the index of the first invalid row, or none
abbrev pub first_bad_row : List TableRow → Option ℕ
first_bad_row rows = first_bad_from 0 rows
