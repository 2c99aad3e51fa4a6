-- Answering the lines that wait, one after another.
use Rattle.std.proofs.Common.{◌≡◌, ◌+◌, List, ℕ, drop, length}
use Rattle.line_checks.specs.LookedUp.{AreLookUps}
use Rattle.one_caller.specs.declared.solo.Solo.{Solo}
use Rattle.line_serving.specs.Durable.{IsRecordedText}
use Rattle.line_serving.specs.Hosts.{HasAnswered}
use Rattle.line_serving.proofs.AloneSteps.{IsSettling, from-place}
use Rattle.line_serving.proofs.alone.AloneHost.settle_waiting.Given as goal

abbrev pub invariant-loop-index : goal.invariant-loop-index
invariant-loop-index g l = record {
  settling : (first : Solo g.row.S.Denot g.S.Store) (lines : List (List ℕ)) (text : List ℕ) (waiting : List (List ℕ))
      → HasAnswered first lines text waiting l.fn.self
      → IsSettling first lines text waiting l.fn.block.text.items l.block.text.items (from-place l.self l.index);
  looked_up : (lines : List (List ℕ)) × AreLookUps l.self.host.issuer lines (drop l.index l.self.ahead);
  waiting : length l.self.ahead ≡ length l.fn.self.ahead;
  count : l.block.lines ≡ l.fn.block.lines + l.index;
  recorded : IsRecordedText l.self.host l.block.text.items;
}
