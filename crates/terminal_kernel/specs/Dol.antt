-- The entries of a list of data objects (DOL), and which lists are refused: EMV 4.3 Book 3, section 5.4.
use Rattle.std.specs.Prelude.{ℕ, zero, suc, ◌+◌, ◌-◌, Bool, ◌&&◌, nat_le, if◌then◌else◌, List, [], ◌∷◌, length, Option, Some, None, Result, Ok, Err}
use Rattle.arrayvec.specs.ArrayVec.{ArrayVec}
use Rattle.tlv_objects.specs.Tlv.{◌>>=◌, tag_at, short_length}
use Rattle.terminal_kernel.specs.declared.dol.DolEntry.{DolEntry}
use Rattle.terminal_kernel.specs.declared.dol.BadDol.{BadDol}
use Rattle.terminal_kernel.specs.declared.limits.TheConstants.{MAX_ENTRIES, MAX_FILLED_BYTES}

-- the first entry of a list: its tag, its length, and the bytes after it
pub record FrontEntry : Type 0 where
  pub tag : ℕ
  pub size : ℕ
  pub rest : List ℕ

-- the first entry of a list, none where it is torn or its tag has more than three bytes
unfoldable pub front_entry : List ℕ → Option FrontEntry
front_entry bytes = do
  tag ← tag_at bytes
  size ← short_length tag.1
  Some (record { tag = tag.0; size = size.0; rest = size.1 })

-- a list as it is parsed: its entries in order, and the offset where no entry begins, if there is one
pub record DolText : Type 0 where
  pub entries : List DolEntry
  pub torn : Option ℕ

-- the same list with an entry before its entries
abbrev pub with_entry : DolEntry → DolText → DolText
with_entry entry text = record { entries = entry ∷ text.entries; torn = text.torn }

-- the entries of the list at an offset, of which so many bytes belong to an entry that was already parsed: these are
-- skipped
unfoldable pub entries_from : (inside at : ℕ) → List ℕ → DolText
entries_from inside at [] = record { entries = []; torn = None }
entries_from (suc inside) at (byte ∷ rest) = entries_from inside (at + 1) rest
entries_from zero at (byte ∷ rest) = elim (front_entry (byte ∷ rest)) [
  | None ↦ record { entries = []; torn = Some at }
  | Some front ↦ with_entry (record { tag = front.tag; length = front.size; at = at })
      (entries_from (length rest - length front.rest) (at + 1) rest)
]

-- the sum of the entries' lengths
abbrev pub total_length : List DolEntry → ℕ
total_length [] = 0
total_length (entry ∷ entries) = entry.length + total_length entries

-- whether so many entries, whose lengths have this sum, are no more than a list may have
abbrev pub is_within : (count total : ℕ) → Bool
is_within count total = nat_le count MAX_ENTRIES && nat_le total MAX_FILLED_BYTES

-- the offset of the first entry that a list may not have after so many entries, whose lengths have this sum
unfoldable pub first_beyond : (count total : ℕ) → List DolEntry → Option ℕ
first_beyond count total [] = None
first_beyond count total (entry ∷ entries) =
    if is_within (count + 1) (total + entry.length) then first_beyond (count + 1) (total + entry.length) entries
    else Some entry.at

-- a refusal at an offset, where there is one; otherwise what was parsed
abbrev pub unless_bad : {A E : Type 0} → Option ℕ → (ℕ → E) → Result A E → Result A E
unless_bad (Some at) refusal read = Err (refusal at)
unless_bad None refusal read = read

-- the entries of a list, or the offset of the first that it may not have, which may be one that isn't whole
unfoldable pub dol_of : List ℕ → Result (ArrayVec DolEntry) BadDol
dol_of bytes =
    let text = entries_from 0 0 bytes in
    unless_bad (first_beyond 0 0 text.entries) (λ at. record { at = at }) (
    unless_bad text.torn (λ at. record { at = at }) (Ok (record { items = text.entries })))
