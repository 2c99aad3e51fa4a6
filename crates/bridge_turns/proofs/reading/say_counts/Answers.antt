-- What is said of the next log joins what was said.
use Rattle.std.proofs.Common.{◌≡◌, ◌++◌, ℕ, refl, ap, subst, arith, get_or}
use Rattle.std.specs.List.{flat_map, range_with_len}
use Rattle.bridge_turns.specs.Partitions.{count_acts, all_count_acts}
use Rattle.bridge_turns.proofs.Shards.{joined-more}
use Rattle.bridge_turns.proofs.reading.say_counts.Goals as goal

pub loop-shard-preserved : goal.loop-shard-preserved
loop-shard-preserved g c start said first =
    let logs = c.args.bridge.now.logs in
    let counts = c.args.counts.now in
    let f = λ (shard : ℕ). count_acts (get_or counts shard 0) logs shard in
    let before = said ++ flat_map f (range_with_len 0 c.loop-shard.shard) in
    let here = count_acts (get_or counts c.from.result 0) logs c.loop-shard.shard in
    subst (g.S.Speaker.says start c.say_count.new.speaker)
    (joined-more f said before (before ++ here) here c.loop-shard.shard refl refl
    (ap (λ (k : ℕ). count_acts (get_or counts k 0) logs c.loop-shard.shard) c.from.ensures))
    (c.say_count.ensures start before (c.loop-shard.invariant start said first))

pub returns : goal.returns
unfolding all_count_acts
returns g c start said first =
    let at : c.loop-shard.shard ≡ 17 = omega arith in
    subst (λ (n : ℕ). g.S.Speaker.says start c.loop-shard.speaker (said
    ++ flat_map (λ shard. count_acts (get_or c.args.counts.now shard 0) c.args.bridge.now.logs shard) (range_with_len 0 n))) at
    (c.loop-shard.invariant start said first)
