-- The newlines so far are counted.
use Rattle.std.proofs.Common.{◌≡◌, ◌-◌, ◌≤◌, length, take}
use Rattle.shard_book.specs.Loading.{newlines_in}
use Rattle.shard_book.proofs.migrating.newlines.Given as goal

abbrev pub invariant-bytes : goal.invariant-bytes
invariant-bytes l = record {
  within : l.at ≤ length l.part;
  few : l.count ≤ l.at;
  count_is : l.count ≡ newlines_in (take l.at l.part);
}

abbrev pub decreases-bytes : goal.decreases-bytes
decreases-bytes l = length l.part - l.at
