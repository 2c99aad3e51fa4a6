-- One more record goes into a message.
use Rattle.std.proofs.Common.{◌≡◌, ◌+◌, ◌-◌, ℕ, ap, ◌∙◌, subst, arith}
use Rattle.std.specs.List.{flat_map, range_with_len}
use Rattle.bridge_rule.specs.Logs.{known_of}
use Rattle.bridge_rule.specs.Bridges.{log_at}
use Rattle.bridge_turns.specs.Publishing.{batch_of, all_added}
use Rattle.bridge_turns.specs.Saying.{IsBatch}
use Rattle.bridge_turns.specs.Partitions.{found}
use Rattle.bridge_turns.proofs.Batches.{batch-more}
use Rattle.bridge_turns.proofs.serving.publish_log.Goals as goal

pub loop-index-preserved : goal.loop-index-preserved
loop-index-preserved g c = record {
  none = λ few. absurd (omega arith);
  added = λ start said first.
      let f = found (log_at c.args.bridge.now.logs c.args.shard) c.args.shard in
      let count = c.loop-index.index - c.args.from in
      let begun = batch_of c.args.publisher.now said in
      let before = c.loop-index.invariant.added start said first in
      batch-more (g.S.Speaker.says start c.publish_one.new.speaker) begun c.loop-index.publisher c.publish_one.new.publisher f
      c.args.from count (c.loop-index.index + 1 - c.args.from) c.loop-index.index (omega arith) (omega arith) before.0
      (c.publish_one.ensures start (all_added begun (flat_map f (range_with_len c.args.from count))).said before.1);
}

pub returns : goal.returns
returns g c start said first =
    let log = log_at c.args.bridge.now.logs c.args.shard in
    let end : c.known_count-index-end.result ≡ known_of log = c.known_count-index-end.ensures in
    let none = c.loop-index.invariant.none in
    let at : c.loop-index.index - c.args.from ≡ c.known_count-index-end.result - c.args.from = grind (arith, none) in
    subst (λ (n : ℕ). IsBatch c.loop-index.publisher (g.S.Speaker.says start c.loop-index.speaker)
    (all_added (batch_of c.args.publisher.now said) (flat_map (found log c.args.shard) (range_with_len c.args.from n))))
    (at ∙ ap (λ (k : ℕ). k - c.args.from) end) (c.loop-index.invariant.added start said first)
