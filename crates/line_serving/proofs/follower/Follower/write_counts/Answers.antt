-- The line of one more shard is put.
use Rattle.std.proofs.Common.{◌<◌, ◌++◌, List, ℕ, ap, ap₂, sym, ◌∙◌, arith, add-one, length, take}
use Rattle.answer_text.specs.CountText.{count_text}
use Rattle.desk_host.proofs.SeenSteps.{at-place}
use Rattle.line_serving.specs.Following.{counts_text}
use Rattle.line_serving.proofs.Counts.{counts-more}
use Rattle.line_serving.proofs.follower.Follower.write_counts.Goals as goal

pub loop-shard-preserved : goal.loop-shard-preserved
loop-shard-preserved g c =
    let shard = c.loop-shard.shard in
    let lines = c.loop-shard.invariant.lines in
    let more = c.add_line.ensures.lines in
    record {
      lines = omega (arith, lines, more);
      text = λ histories hold.
          let count = hold.count_is in
          let all = c.requires.shards.count_is in
          let end = c.shards-shard-end.ensures.count in
          let before = c.loop-shard-test.true in
          let within : shard < length histories = omega (arith, count, all, end, before) in
          let history = at-place histories shard within in
          c.add_line.ensures.text
          ∙ ap₂ (λ (a b : List ℕ). a ++ b) (c.loop-shard.invariant.text histories hold)
          (c.write_count.ensures.text
          ∙ ap (count_text shard) (c.records.ensures c.args.issuer.now _ histories history.0 hold history.1))
          ∙ sym (counts-more histories shard history.0 history.1)
          ∙ ap (λ (n : ℕ). counts_text (take n histories)) (sym (add-one shard));
    }
