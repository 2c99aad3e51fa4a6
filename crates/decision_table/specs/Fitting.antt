-- Which rows of a decision table match a card's status and a request, and which row decides.
use Rattle.std.specs.Prelude.{◌≡◌, ℕ, ◌<◌, Bool, true, false, ◌&&◌, if◌then◌else◌, ◌==◌, nat_le, bit_and, List, ◌∷◌, slice_get, Option, None, Some, IsTrue}
use Rattle.std.specs.List.{find}
use Rattle.issuer_base.specs.declared.request.Parts.{Parts}
use Rattle.issuer_base.specs.ChipData.{cvr, amount_value}
use Rattle.decision_table.specs.declared.row.TableRow.{TableRow}
use Rattle.decision_table.specs.Tables.{is_table}

-- byte by byte, the byte under the mask is the value
abbrev pub has_bits : List ℕ → List ℕ → List ℕ → Bool
has_bits (mask ∷ masks) (value ∷ values) (byte ∷ bytes) = bit_and byte mask == value && has_bits masks values bytes
has_bits _ _ _ = true

-- a row that requires this status, or none, matches a card of that status
abbrev pub is_for : Option ℕ → ℕ → Bool
is_for None status = true
is_for (Some wanted) status = wanted == status

-- a row matches if its status is none or the card's, the amount is in its range, and the terminal's (tag 95) and the
-- card's verification results under its masks are its values
unfoldable pub fits : ℕ → Parts → TableRow → Bool
fits status request row =
    is_for row.status status
    && nat_le row.least (amount_value request)
    && nat_le (amount_value request) row.most
    && has_bits row.tvr_mask row.tvr_value request.tvr
    && has_bits row.cvr_mask row.cvr_value (cvr request)

-- the row that decides: the first row of the table that matches. Rows that are no table decide nothing
abbrev pub decision : List TableRow → ℕ → Parts → Option TableRow
decision rows status request = if is_table rows then find (fits status request) rows else None

-- a row that decides is at some index of the table and matches, and no row before that index matches
pub record IsDecision (rows : List TableRow) (status : ℕ) (request : Parts) (row : TableRow) : Type 0 where
  pub place : ℕ
  pub stands : slice_get rows place ≡ Some row
  pub fitting : IsTrue (fits status request row)
  pub first : (before : ℕ) (other : TableRow) → before < place → slice_get rows before ≡ Some other
      → fits status request other ≡ false
