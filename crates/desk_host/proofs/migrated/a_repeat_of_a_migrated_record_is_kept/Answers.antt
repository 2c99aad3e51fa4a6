-- The law of records that were migrated.
use Rattle.desk_host.proofs.OneAnswer.{repeat-kept}
use Rattle.desk_host.proofs.migrated.a_repeat_of_a_migrated_record_is_kept.Goals as goal

pub returns : goal.returns
returns c = record {
  kept = λ issuer shard place old first history after request reply won answer since goes_on legal is within turn.
      repeat-kept issuer shard place old first history after request reply won since.goes_on goes_on legal is within answer turn;
}
