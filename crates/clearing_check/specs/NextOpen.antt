-- The open records in their order, one after another.
use Rattle.std.specs.Prelude.{◌≡◌, ℕ, List, ◌∷◌, drop}
use Rattle.clearing_check.specs.declared.filed.Filed.{Filed}
use Rattle.clearing_check.specs.declared.filed_records.OpenRecord.{OpenRecord}
use Rattle.clearing_check.specs.Records.{opens, place_of}

-- of the records from this number on, the first open one is at this place, and the others that are open come after it
pub record IsNextOpen (records : List Filed) (from : ℕ) (found : OpenRecord) : Type 0 where
  pub filed : Filed
  pub opens_are : opens (drop from records) ≡ filed ∷ opens (drop found.next records)
  pub place_is : place_of filed ≡ (found.shard, found.place)
