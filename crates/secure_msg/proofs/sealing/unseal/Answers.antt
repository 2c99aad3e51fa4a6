-- Bytes without a command in them, or other than its sealed ones, open as none; the sealed ones open as the command.
use Rattle.std.proofs.Common.{◌≡◌, true, false, Some, ap, ◌∙◌, sym, rules}
use Rattle.std.specs.Str.{bytes_eq}
use Rattle.std.proofs.lemmas.Bool.{not-true, not-false}
use Rattle.secure_msg.specs.Sealing.{unsealed_bytes}
use Rattle.script_commands.proofs.Forms.{command_of-Some}
use Rattle.secure_msg.proofs.Opening.{opened_command-no_command, opened_command-some, nothing_sealed, AreSealed-opened_command}
use Rattle.secure_msg.proofs.sealing.unseal.Goals as goal

pub returns-in_err-command-clause-exact : goal.returns-in_err-command-clause-exact
returns-in_err-command-clause-exact c = c.from_residual.ensures ∙ sym (opened_command-no_command _ _ _ _ (sym c.unsealed.ensures ∙ c.in_err-command.was))

pub seal-sealed-requires : goal.seal-sealed-requires
seal-sealed-requires c = (command_of-Some (unsealed_bytes c.args.bytes.now) _ (sym c.unsealed.ensures ∙ c.in_ok-command.was)).form

pub returns-then-ne-clause-exact : goal.returns-then-ne-clause-exact
returns-then-ne-clause-exact c =
    let e : bytes_eq c.as_slice.result.now c.args.bytes.now ≡ false = not-true (bytes_eq c.as_slice.result.now c.args.bytes.now) (sym (c.if-ne.ensures)) in
    sym (opened_command-some _ _ _ _ _ false (sym c.unsealed.ensures ∙ c.in_ok-command.was)
    (ap (λ sealed. bytes_eq sealed c.args.bytes.now) (sym (c.as_slice.ensures.value ∙ c.seal-sealed.ensures.sealed)) ∙ e))

pub returns-clause-exact : goal.returns-clause-exact
returns-clause-exact c =
    let e : bytes_eq c.as_slice.result.now c.args.bytes.now ≡ true = not-false (bytes_eq c.as_slice.result.now c.args.bytes.now) (sym (c.if-ne.ensures)) in
    ap (λ next. Some (c.in_ok-command.command, next)) c.seal-sealed.ensures.next
    ∙ sym (opened_command-some _ _ _ _ _ true (sym c.unsealed.ensures ∙ c.in_ok-command.was)
    (ap (λ sealed. bytes_eq sealed c.args.bytes.now) (sym (c.as_slice.ensures.value ∙ c.seal-sealed.ensures.sealed)) ∙ e))

pub returns-in_err-command-clause-refused : goal.returns-in_err-command-clause-refused
returns-in_err-command-clause-refused c =
    rw c.from_residual.ensures
    (λ command next. nothing_sealed _ _ _ _ next command (sym (opened_command-no_command _ _ _ _ (sym c.unsealed.ensures ∙ c.in_err-command.was))))

pub returns-then-ne-clause-refused : goal.returns-then-ne-clause-refused
returns-then-ne-clause-refused c = λ command next. nothing_sealed _ _ _ _ next command (returns-then-ne-clause-exact c)

pub returns-clause-sealed : goal.returns-clause-sealed
returns-clause-sealed c = AreSealed-opened_command _ _ _ _ _ _ (sym (returns-clause-exact c)) (search rules)
