-- One more line waits.
use Rattle.std.proofs.Common.{◌∷◌, [], ◌++◌, subst, sym}
use Rattle.issuer_setup.specs.IssuerSetup.{Setup}
use Rattle.line_checks.specs.LookedUp.{AreLookUps}
use Rattle.line_serving.proofs.AloneSteps.{look-ups-more, waits-more}
use Rattle.line_serving.proofs.DurableAlone.{recorded-moved}
use Rattle.line_serving.proofs.alone.AloneHost.add.Goals as goal

pub returns-clause-waits : goal.returns-clause-waits
returns-clause-waits g c = λ first lines text waiting so_far.
    waits-more first c.args.self.now _ c.args.line.now c.look_ahead-found.result c.add.ensures
    c.look_ahead-found.ensures.same.0 c.look_ahead-found.ensures.same.1 c.look_ahead-found.ensures.found lines text
    waiting so_far

pub returns-clause-looked_up : goal.returns-clause-looked_up
returns-clause-looked_up g c = λ lines are.
    subst (λ (issuer : Setup). AreLookUps issuer (lines ++ c.args.line.now ∷ []) c.add.new.self)
    (sym c.look_ahead-found.ensures.same.0)
    (look-ups-more c.args.self.now.host.issuer lines c.args.line.now c.args.self.now.ahead c.add.new.self
    c.look_ahead-found.result c.add.ensures c.look_ahead-found.ensures.found are)

pub returns-clause-recorded : goal.returns-clause-recorded
returns-clause-recorded g c = λ due.
    recorded-moved c.args.self.now.host c.look_ahead-found.new.self c.look_ahead-found.ensures.same.0 c.look_ahead-found.ensures.same.1 due
