-- A message whose records aren't the next ones of their shards changes no history.
use Rattle.std.proofs.Common.{◌≡◌, refl}
use Rattle.std.proofs.lemmas.Bool.{cond_both}
use Rattle.one_history.specs.Streams.{is_word, with_records}
use Rattle.one_history.proofs.Counts.{records-nothing}
use Rattle.one_history.proofs.law.only_the_next_counts.Goals as goal

pub returns-clause-index : goal.returns-clause-index
returns-clause-index c count name records others = record {
  barrier_stays = refl;
  histories_stay = λ shard.
      cond_both (is_word name count.barrier.name) (with_records shard (count.histories shard) records) (count.histories shard)
      (λ history. history ≡ count.histories shard) (λ own. records-nothing count.histories shard records others) (λ other. refl);
}
