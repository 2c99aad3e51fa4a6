-- A line is answered as its look-up is, which leaves issuer and shards unchanged.
use Rattle.std.proofs.Common.{sym, subst, ◌∙◌}
use Rattle.issuer_setup.specs.IssuerSetup.{Setup}
use Rattle.line_checks.specs.LookedUp.{IsLookUp}
use Rattle.one_caller.proofs.solo.Solo.authorise.Given.{Over}
use Rattle.one_caller.proofs.solo.Solo.authorise.Goals.{After-look_ahead-found}
use Rattle.one_caller.proofs.solo.Solo.authorise.Goals as goal

-- what was looked up for the line
looked_up : (g : Over) (c : After-look_ahead-found g) → IsLookUp c.look_ahead-found.new.self.issuer c.args.line.now c.look_ahead-found.result
looked_up g c =
    subst (λ (issuer : Setup). IsLookUp issuer c.args.line.now c.look_ahead-found.result) (sym c.look_ahead-found.ensures.same.0)
    c.look_ahead-found.ensures.found

pub answer-requires : goal.answer-requires
answer-requires g c = (c.args.line.now, looked_up g (goal.at.answer-requires g c).After-look_ahead-found)

pub returns-clause-turn : goal.returns-clause-turn
returns-clause-turn g c =
    rw (← c.look_ahead-found.ensures.same.0, ← c.look_ahead-found.ensures.same.1)
    (c.answer.ensures.turn c.args.line.now (looked_up g (goal.at.returns-clause-turn g c).After-look_ahead-found))

pub returns-clause-unchanged : goal.returns-clause-unchanged
returns-clause-unchanged g c idle = c.answer.ensures.unchanged idle ∙ c.look_ahead-found.ensures.same.1

pub returns-clause-room : goal.returns-clause-room
returns-clause-room g c =
    rw (← c.look_ahead-found.ensures.same.0, ← c.look_ahead-found.ensures.same.1)
    (c.answer.ensures.room c.args.line.now (looked_up g (goal.at.returns-clause-room g c).After-look_ahead-found))

pub returns-clause-leaves : goal.returns-clause-leaves
returns-clause-leaves g c =
    rw (← c.look_ahead-found.ensures.same.0, ← c.look_ahead-found.ensures.same.1)
    (c.answer.ensures.leaves c.args.line.now (looked_up g (goal.at.returns-clause-leaves g c).After-look_ahead-found))
