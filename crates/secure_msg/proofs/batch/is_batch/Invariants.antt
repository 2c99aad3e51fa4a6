-- The commands so far have the right form, and the template with them has this size and is not too large.
use Rattle.std.proofs.Common.{◌≡◌, ◌+◌, ◌≤◌, take, sum_by}
use Rattle.std.specs.Prelude.{All, IsTrue}
use Rattle.issuer_base.specs.ScriptCommand.{is_command}
use Rattle.issuer_base.specs.declared.limits.TheConstants.{BARE_TEMPLATE_BYTES, MAX_TEMPLATE_BYTES}
use Rattle.issuer_base.specs.ScriptTemplate.{sealed_size}
use Rattle.secure_msg.proofs.batch.is_batch.Given as goal

abbrev pub invariant-loop-command : goal.invariant-loop-command
invariant-loop-command l = record {
  room : l.room ≡ BARE_TEMPLATE_BYTES + sum_by sealed_size (take l.command-index l.commands);
  fit : l.room ≤ MAX_TEMPLATE_BYTES;
  form : All (λ command. IsTrue (is_command command)) (take l.command-index l.commands);
}
