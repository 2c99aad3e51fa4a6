-- One index for each record so far; and the answers so far, with those of the records that are left.
use Rattle.std.proofs.Common.{◌≡◌, ◌+◌, length, drop}
use Rattle.arpc_methods.specs.Batch.{answers_at}
use Rattle.shard_book.specs.Answers.{answer_of}
use Rattle.shard_book.proofs.ahead.add_answers.Given as goal

abbrev pub invariant-loop-index : goal.invariant-loop-index
invariant-loop-index l = record {
  all : length l.batch.answers ≡ l.index;
  count : l.batch.count + answers_at (answer_of l.issuer) (drop l.index l.entries) (drop l.index l.found) ≡ answers_at (answer_of l.issuer) l.entries l.found;
}
