-- One more command of the right form and its room are counted in.
use Rattle.std.proofs.Common.{◌≡◌, ◌<◌, ℕ, List, length, get_or, ap, sym, ◌∙◌, arith}
use Rattle.std.specs.Prelude.{IsTrue}
use Rattle.std.proofs.lemmas.List.Elements.{All-more}
use Rattle.std.proofs.lemmas.List.Sums.{sum_by_more}
use Rattle.issuer_base.specs.declared.command.Command.{Command}
use Rattle.issuer_base.specs.ScriptCommand.{is_command}
use Rattle.issuer_base.specs.ScriptTemplate.{sealed_size}
use Rattle.secure_msg.proofs.batch.is_batch.Goals as goal

pub loop-command-preserved : goal.loop-command-preserved
loop-command-preserved c =
    let commands : List Command = c.args.commands.now in
    let i : ℕ = c.loop-command.command-index in
    let command : Command = c.command-item.result in
    let below : i < length commands = omega arith in
    let room : sealed_size command ≡ sealed_size (get_or commands i command) = ap sealed_size c.command-item.is in
    let form : is_command (get_or commands i command) ≡ is_command command = ap is_command (sym c.command-item.is) in
    record {
      room = omega (arith, sum_by_more sealed_size commands i command below, room);
      fit = omega arith;
      form = All-more (λ command. IsTrue (is_command command)) commands i command below c.loop-command.invariant.form
          (form ∙ sym c.is_sendable.ensures ∙ c.if-not-is_sendable.false);
    }
