-- Records that are filed: which one has an ATC of a card, and which are open or certified.
use Rattle.std.specs.Prelude.{ℕ, Bool, true, not, ◌&&◌, ◌==◌, List, [], ◌∷◌, filter, if◌then◌else◌}
use Rattle.clearing_check.specs.declared.filed.Filed.{Filed}

-- whether the record is of this ATC of the card
abbrev pub has_atc : ℕ → ℕ → Filed → Bool
has_atc card atc filed = filed.card == card && filed.atc == atc

-- whether the record is certified
abbrev pub is_certified : Filed → Bool
is_certified filed = filed.certified

-- an open record is approved, and not certified
abbrev pub is_open : Filed → Bool
is_open filed = filed.approved && not filed.certified

-- the open records
abbrev pub opens : List Filed → List Filed
opens records = filter is_open records

-- where the record is: its shard, and its index in the shard's journal
abbrev pub place_of : Filed → ℕ × ℕ
place_of filed = (filed.shard, filed.place)

-- the record, certified
abbrev pub certified : Filed → Filed
certified filed = record filed { certified = true }

-- these records with the first one of this ATC of the card certified
abbrev pub certify : ℕ → ℕ → List Filed → List Filed
certify card atc [] = []
certify card atc (filed ∷ others) =
    if has_atc card atc filed then certified filed ∷ others else filed ∷ certify card atc others
