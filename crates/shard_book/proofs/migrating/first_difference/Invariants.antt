-- Both texts agree so far.
use Rattle.std.proofs.Common.{◌≡◌, ◌-◌, ◌≤◌, length, take}
use Rattle.shard_book.proofs.migrating.first_difference.Given as goal

abbrev pub invariant-bytes : goal.invariant-bytes
invariant-bytes l = record {
  within : l.same ≤ length l.ours;
  alike : take l.same l.ours ≡ take l.same l.theirs;
}

abbrev pub decreases-bytes : goal.decreases-bytes
decreases-bytes l = length l.ours - l.same
