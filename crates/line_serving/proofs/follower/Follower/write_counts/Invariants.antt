-- The lines of the first shards are put.
use Rattle.std.proofs.Common.{◌≡◌, List, false, take}
use Rattle.issuer_base.specs.declared.entry.Entry.{Entry}
use Rattle.standby_node.specs.Standing.{Hold, shards_in}
use Rattle.line_serving.specs.Following.{counts_text}
use Rattle.line_serving.proofs.follower.Follower.write_counts.Given as goal

abbrev pub invariant-loop-shard : goal.invariant-loop-shard
invariant-loop-shard g l = record {
  lines : l.self.block.lines ≡ l.shard;
  text : (histories : List (List Entry)) → Hold l.issuer (λ number. false) (shards_in l.node) histories
      → l.self.block.text.items ≡ counts_text (take l.shard histories);
}
