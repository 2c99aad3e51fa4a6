-- The numbers of a configuration's parts.
use Rattle.std.specs.Prelude.{ℕ}
use Rattle.config_read.specs.declared.fault.ConfigPart.{ConfigPart}
use Rattle.config_read.specs.declared.fault.ConfigPart.TheVariants.{Whole, Shards, Keys, Cards, Table}

-- the number by which the last line of a run names a part
abbrev pub number_of_part : ConfigPart → ℕ
number_of_part Whole = 1
number_of_part Shards = 2
number_of_part Keys = 3
number_of_part Cards = 4
number_of_part Table = 5
