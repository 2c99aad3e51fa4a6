-- A command that was run sets the PIN if it is a PIN change, and any other leaves it.
use Rattle.std.proofs.Common.{Bool, true, false, Some, List, sym, ◌∙◌, subst}
use Rattle.std.proofs.lemmas.Option.{none-some}
use Rattle.issuer_base.specs.declared.command.Command.{Command}
use Rattle.pin_card.specs.LastPin.{IsLastPin}
use Rattle.pin_card.proofs.LastPins.{last-set, last-kept}
use Rattle.card_model.specs.CardSteps.{CardStep, Run}
use Rattle.card_model.proofs.Ran.{RanOneMore, command-adds, refused-adds_none}
use Rattle.pin_card.proofs.pin_card.PinCard.run.Goals as goal

pub invariant_of-self-then-not-branch : goal.invariant_of-self-then-not-branch
invariant_of-self-then-not-branch c =
    let step : CardStep c.self.inside.card (Run c.args.bytes.now false) c.run.new.self =
    subst (λ (answer : Bool). CardStep c.self.inside.card (Run c.args.bytes.now answer) c.run.new.self) c.if-not-branch.true c.in_ok-run.ensures.step in
    subst (λ (ran : List Command). IsLastPin c.self.inside.smc.0 ran c.self.inside.pin)
    (sym (refused-adds_none c.self.inside.card c.run.new.self c.args.bytes.now step)) c.self.invariant

pub invariant_of-self-in-Some : goal.invariant_of-self-in-Some
invariant_of-self-in-Some c =
    let step : CardStep c.self.inside.card (Run c.args.bytes.now true) c.run.new.self =
    subst (λ (answer : Bool). CardStep c.self.inside.card (Run c.args.bytes.now answer) c.run.new.self) c.if-not-branch.false c.in_ok-run.ensures.step in
    let more : RanOneMore c.self.inside.card c.run.new.self = command-adds c.self.inside.card c.run.new.self c.args.bytes.now step in
    subst (λ (ran : List Command). IsLastPin c.self.inside.smc.0 ran (Some c.in-Some.pin)) (sym more.ran_is)
    (last-set c.self.inside.smc.0 c.self.inside.card.ran more.command c.in-Some.pin
    ((c.last_set.ensures c.self.inside.card.ran more.command c.in-Some.pin (c.ran.ensures ∙ more.ran_is)).0 c.in-Some.is))

pub invariant_of-self-in_default : goal.invariant_of-self-in_default
invariant_of-self-in_default c =
    let step : CardStep c.self.inside.card (Run c.args.bytes.now true) c.run.new.self =
    subst (λ (answer : Bool). CardStep c.self.inside.card (Run c.args.bytes.now answer) c.run.new.self) c.if-not-branch.false c.in_ok-run.ensures.step in
    let more : RanOneMore c.self.inside.card c.run.new.self = command-adds c.self.inside.card c.run.new.self c.args.bytes.now step in
    subst (λ (ran : List Command). IsLastPin c.self.inside.smc.0 ran c.self.inside.pin) (sym more.ran_is)
    (last-kept c.self.inside.smc.0 c.self.inside.card.ran more.command c.self.inside.pin
    (λ pin sets. none-some pin
    (sym c.in_default.is ∙ (c.last_set.ensures c.self.inside.card.ran more.command pin (c.ran.ensures ∙ more.ran_is)).1 sets))
    c.self.invariant)
