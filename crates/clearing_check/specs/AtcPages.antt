-- The numbers of records by card and ATC, in pages: a page has a slot for each of 256 ATCs in a row.
use Rattle.std.specs.Prelude.{◌≡◌, ℕ, ◌+◌, ◌*◌, ◌/◌, ◌%◌, ◌<◌, ◌≤◌, ◌⊎◌, ◌==◌, if◌then◌else◌, List, length, slice_index}
use Rattle.std.specs.List.{position_or_len}
use Rattle.clearing_check.specs.declared.atc_pages.TheConstants.{PAGE}
use Rattle.clearing_check.specs.declared.filed.Filed.{Filed}
use Rattle.clearing_check.specs.Records.{has_atc}

-- the number of the page for each card and 256 ATCs, 0 where there is none yet; and the slots of all pages
pub record Pages : Type 0 where
  pub directory : List ℕ
  pub slots : List ℕ

-- the index in the directory of the page of this ATC of the card
abbrev pub entry_of : ℕ → ℕ → ℕ
entry_of card atc = PAGE * card + atc / PAGE

-- the slot of this ATC in the page
abbrev pub slot_in : List ℕ → ℕ → ℕ → ℕ
slot_in slots page atc = slice_index slots (PAGE * page + atc % PAGE)

-- the slot of this ATC of the card
abbrev pub slot_of : Pages → ℕ → ℕ → ℕ
slot_of pages card atc = slot_in pages.slots (slice_index pages.directory (entry_of card atc)) atc

-- page 0 is blank, each page has all its slots, and no page is in the directory twice
pub record ArePages (pages : Pages) : Type 0 where
  pub whole : length pages.slots % PAGE ≡ 0
  pub blank : (slot : ℕ) → slot < PAGE → slice_index pages.slots slot ≡ 0
  pub within : (entry : ℕ) → PAGE * slice_index pages.directory entry + PAGE ≤ length pages.slots
  pub once : (first second : ℕ) → slice_index pages.directory first ≡ slice_index pages.directory second
      → (slice_index pages.directory first ≡ 0) ⊎ (first ≡ second)

-- what the slot of an ATC has: one more than the number of its first record, or 0 if there is none
abbrev pub slot_for : ℕ → ℕ → List Filed → ℕ
slot_for card atc records =
    let number = position_or_len (has_atc card atc) records in if number == length records then 0 else number + 1

-- the pages have the numbers of these records
abbrev pub HaveNumbers : Pages → List Filed → Type 0
HaveNumbers pages records = (card atc : ℕ) → atc < 65_536 → slot_of pages card atc ≡ slot_for card atc records
