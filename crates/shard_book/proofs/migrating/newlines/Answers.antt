-- One more byte is counted.
use Rattle.std.proofs.Common.{arith}
use Rattle.shard_book.proofs.Migration.{lines-byte}
use Rattle.shard_book.proofs.migrating.newlines.Goals as goal

pub bytes-preserved : goal.bytes-preserved
bytes-preserved c = record {
  within = let inside = c.bytes-test.true in omega arith;
  few = let before = c.bytes.invariant.few in let one = c.newline_count-count.ensures.few in omega arith;
  count_is = lines-byte c.args.part.now c.bytes.at c.bytes.count c.newline_count-count.result c.bytes-test.true c.bytes.invariant.count_is c.newline_count-count.ensures.one;
}
