-- Tallies that count nothing stand for empty logs.
use Rattle.std.proofs.Common.{arith, ◌≡◌, ℕ, length, sym, ap, ◌∙◌}
use Rattle.std.proofs.lemmas.List.{length-map}
use Rattle.sharing_tests.specs.declared.turns.TheConstants.{SHARDS}
use Rattle.sharing_tests.specs.declared.turns.Tally.{Tally}
use Rattle.turn_book.specs.Logs.{items_at}
use Rattle.turn_book.proofs.CountingLemmas.{log_of, fresh_stand, fresh_items, fresh_counts}
use Rattle.sharing_tests.proofs.turns.open.Goals as goal

pub load-requires : goal.load-requires
load-requires c =
    let tallies = c.in_ok-fresh_tallies.field-0 in
    let fresh = c.in_ok-fresh_tallies.ensures in
    let long : length tallies.items ≡ SHARDS = omega (arith, fresh.0, tallies.ok) in
    record {
      shards = (omega (arith, fresh.0), omega (arith, fresh.0));
      counts = sym (fresh_counts (λ (tally : Tally). tally.shard) (λ (tally : Tally). tally.count) SHARDS tallies.items long);
      values = fresh_stand (λ (tally : Tally). tally.shard) (λ (tally : Tally). tally.count) tallies.items fresh.1;
    }

pub returns-in-Ok-clause-turns : goal.returns-in-Ok-clause-turns
returns-in-Ok-clause-turns c =
    let tallies = c.in_ok-fresh_tallies.field-0 in
    let fresh = c.in_ok-fresh_tallies.ensures in
    let long : length tallies.items ≡ SHARDS = omega (arith, fresh.0, tallies.ok) in
    let opening = c.in-Ok.ensures.opening in
    let shard_of : Tally → ℕ = λ tally. tally.shard in
    let count_of : Tally → ℕ = λ tally. tally.count in (
      ap length opening ∙ length-map tallies.items (log_of shard_of count_of) ∙ long,
      λ shard. ap (λ logs. items_at logs shard) opening ∙ fresh_items shard_of count_of tallies.items shard,
    )
