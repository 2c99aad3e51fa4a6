-- Tallies that count nothing stand for empty logs.
use Rattle.std.proofs.Common.{arith, ◌≡◌, length, sym, ◌∙◌}
use Rattle.bench_runs.proofs.Tallies.{fresh_stand, fresh_counts}
use Rattle.bench_runs.proofs.turns.open.Goals as goal

pub load-requires : goal.load-requires
load-requires c =
    let tallies = c.in_ok-fresh_tallies.field-0 in
    let fresh = c.in_ok-fresh_tallies.ensures in
    let long : length tallies.items ≡ c.args.shards = omega (arith, fresh.0, tallies.ok) in
    record {
      shards = (omega (arith, fresh.0, c.requires.0), omega (arith, fresh.0, c.requires.1));
      counts = c.as_slice.ensures.value ∙ c.in_ok-counts.ensures.items_if_clones_equal (λ y same. same) ∙ sym (fresh_counts c.args.shards tallies.items long);
      values = fresh_stand tallies.items fresh.1;
    }
