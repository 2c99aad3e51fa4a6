-- One index for each line so far; and the answers so far, with those of the lines that are left.
use Rattle.std.proofs.Common.{◌≡◌, ◌+◌, length, drop}
use Rattle.arpc_methods.specs.Batch.{answers_at}
use Rattle.standby_node.specs.ReadLines.{answer_of_line}
use Rattle.standby_node.proofs.line.add_answers.Given as goal

abbrev pub invariant-loop-i : goal.invariant-loop-i
invariant-loop-i l = record {
  all : length l.batch.answers ≡ l.i;
  count :
      l.batch.count + answers_at (answer_of_line l.issuer) (drop l.i l.lines) (drop l.i l.found)
      ≡ answers_at (answer_of_line l.issuer) l.lines l.found;
}
