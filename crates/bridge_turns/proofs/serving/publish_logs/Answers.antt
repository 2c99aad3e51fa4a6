-- The news of one more log go into messages.
use Rattle.std.proofs.Common.{◌≡◌, ◌+◌, ℕ, max, refl, ap, ◌∙◌, subst, arith, zero-add, get_or}
use Rattle.std.specs.List.{flat_map, range_with_len}
use Rattle.bridge_rule.specs.Bridges.{log_at}
use Rattle.bridge_turns.specs.Publishing.{batch_of, all_added}
use Rattle.bridge_turns.specs.Saying.{IsBatch}
use Rattle.bridge_turns.specs.Partitions.{news, news_of, found_from}
use Rattle.bridge_turns.proofs.Batches.{batch-more}
use Rattle.bridge_turns.proofs.serving.publish_logs.Goals as goal

pub loop-shard-preserved : goal.loop-shard-preserved
loop-shard-preserved g c start said first =
    let was_said = g.S.Speaker.says start c.publish_log.new.speaker in
    let logs = c.args.bridge.now.logs in
    let shard = c.loop-shard.shard in
    let from_is : c.greater-from.result ≡ max (get_or c.args.published.now shard 0) (log_at logs shard).count =
    c.greater-from.ensures ∙ ap (λ (k : ℕ). max (get_or c.args.published.now k 0) c.count.result) c.from.ensures
    ∙ ap (max (get_or c.args.published.now shard 0)) c.count.ensures in
    let f = news_of logs c.args.published.now in
    let begun = batch_of c.args.publisher.now said in
    let told = (all_added begun (flat_map f (range_with_len 0 shard))).said in
    let before = c.loop-shard.invariant start said first in
    batch-more was_said begun c.loop-shard.publisher c.publish_log.new.publisher f 0 shard (shard + 1) shard (zero-add shard) refl before.0
    (subst (λ (k : ℕ). IsBatch c.publish_log.new.publisher was_said
    (all_added (batch_of c.loop-shard.publisher told) (found_from (log_at logs shard) shard k))) from_is (c.publish_log.ensures start told before.1))

pub returns : goal.returns
unfolding news
returns g c start said first =
    let at : c.loop-shard.shard ≡ 17 = omega arith in
    subst (λ (n : ℕ). IsBatch c.loop-shard.publisher (g.S.Speaker.says start c.loop-shard.speaker)
    (all_added (batch_of c.args.publisher.now said) (flat_map (news_of c.args.bridge.now.logs c.args.published.now) (range_with_len 0 n)))) at
    (c.loop-shard.invariant start said first)
