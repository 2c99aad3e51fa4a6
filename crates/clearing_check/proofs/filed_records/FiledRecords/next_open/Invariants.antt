-- The records that were passed are not open.
use Rattle.std.proofs.Common.{◌≡◌, ◌-◌, drop, length}
use Rattle.clearing_check.specs.Records.{opens}
use Rattle.clearing_check.proofs.filed_records.FiledRecords.next_open.Given as goal

abbrev pub invariant-records : goal.invariant-records
invariant-records l = opens (drop l.from l.self) ≡ opens (drop l.next l.self)

abbrev pub decreases-records : goal.decreases-records
decreases-records l = length l.self - l.next
