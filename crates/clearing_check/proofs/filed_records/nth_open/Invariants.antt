-- The open record is among those that are left.
use Rattle.std.proofs.Common.{◌≡◌, drop, slice_get}
use Rattle.clearing_check.specs.Records.{opens}
use Rattle.clearing_check.proofs.filed_records.nth_open.Given as goal

abbrev pub invariant-loop-filed : goal.invariant-loop-filed
invariant-loop-filed l = slice_get (opens l.records) l.index ≡ slice_get (opens (drop l.filed-index l.records)) l.left
