-- The sealed commands so far are written, the chain is at the last one's MAC, and the remaining ones still fit.
use Rattle.std.proofs.Common.{◌≡◌, ◌+◌, ℕ, List, [], length, drop, sum_by}
use Rattle.issuer_base.specs.declared.request.Suite.{Suite}
use Rattle.key_derive.specs.SuiteRun.{IsRun}
use Rattle.issuer_base.specs.ScriptTemplate.{sealed_size}
use Rattle.secure_msg.proofs.Batches.{Writes}
use Rattle.secure_msg.proofs.batch.write_sealed.Given as goal

abbrev pub invariant-loop-command : goal.invariant-loop-command
invariant-loop-command l = record {
  len : length l.value.items + sum_by sealed_size (drop l.command-index l.commands) ≡ length l.initial.value.items + sum_by sealed_size l.commands;
  again : (suite : Suite) (key : List ℕ) → IsRun l.initial.run suite key [] → IsRun l.run suite key [];
  writes : (suite : Suite) (key : List ℕ) → IsRun l.initial.run suite key []
      → Writes suite key l.initial.chain l.initial.value.items l.commands l.command-index l.chain l.value.items;
}
