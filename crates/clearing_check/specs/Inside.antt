-- What is kept beside the records for lookup.
use Rattle.std.specs.Prelude.{◌<◌, ◌^◌, List, length}
use Rattle.clearing_check.specs.declared.filed.Filed.{Filed}
use Rattle.clearing_check.specs.AtcPages.{Pages, HaveNumbers}

-- records, and the pages of their numbers
pub record Inside : Type 0 where
  pub records : List Filed
  pub pages : Pages

-- the records are fewer than a number of 32 bits counts, and the pages have their numbers
pub record AreFiled (inside : Inside) : Type 0 where
  pub few : length inside.records < 2 ^ 32
  pub numbers : HaveNumbers inside.pages inside.records
