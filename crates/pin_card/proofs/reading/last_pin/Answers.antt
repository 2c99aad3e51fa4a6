-- One more command sets the last PIN, or leaves it.
use Rattle.std.proofs.Common.{◌≡◌, ◌+◌, ◌∷◌, ◌++◌, [], List, ℕ, Option, take, is_some, sym, ap, ◌∙◌, subst, arith}
use Rattle.std.specs.Prelude.{if◌then◌else◌}
use Rattle.std.proofs.lemmas.List.{take_more, take_all}
use Rattle.std.proofs.lemmas.Bool.{cond-true, cond-false}
use Rattle.issuer_base.specs.declared.command.Command.{Command}
use Rattle.pin_card.specs.LastPin.{IsLastPin}
use Rattle.pin_card.proofs.LastPins.{last-more}
use Rattle.pin_card.proofs.reading.last_pin.Goals as goal
use Rattle.pin_card.proofs.reading.last_pin.Goals.{then-is_some, else-is_some}

pub loop-command-preserved : goal.loop-command-preserved
loop-command-preserved c =
    let commands : List Command = c.args.commands.now in
    let i : ℕ = c.loop-command.command-index in
    let smc : List ℕ = c.args.smc.now.0 in
    let last_is : c.if-is_some.last ≡ (if is_some c.read_pin-set.result then c.read_pin-set.result else c.loop-command.last) =
    elim c.if-is_some.branch [
      | then-is_some w ↦ w.last-is ∙ sym (cond-true _ _ _ (sym c.is_some.ensures ∙ w.if-is_some.true))
      | else-is_some w ↦ w.last-is ∙ sym (cond-false _ _ _ (sym c.is_some.ensures ∙ w.if-is_some.false))
    ] in
    let more : take (i + 1) commands ≡ take i commands ++ c.command-item.result ∷ [] =
    take_more commands i c.command-item.result (omega arith) ∙ ap (λ command. take i commands ++ command ∷ []) (sym c.command-item.is) in
    subst (λ (last : Option (List ℕ)). IsLastPin smc (take (i + 1) commands) last) (sym last_is)
    (subst (λ (taken : List Command). IsLastPin smc taken (if is_some c.read_pin-set.result then c.read_pin-set.result else c.loop-command.last)) (sym more)
    (last-more smc (take i commands) c.command-item.result c.loop-command.last c.read_pin-set.result c.read_pin-set.ensures c.loop-command.invariant))

pub returns : goal.returns
returns c =
    subst (λ (taken : List Command). IsLastPin c.args.smc.now.0 taken c.loop-command.last)
    (take_all c.loop-command.command-index c.args.commands.now (omega arith)) c.loop-command.invariant
