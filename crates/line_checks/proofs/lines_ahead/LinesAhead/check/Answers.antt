-- The look-ups are those of the same lines, checked.
use Rattle.std.proofs.Common.{◌≡◌, List, All, Result, length, sym, subst, ◌∙◌}
use Rattle.std.specs.List.{AllZip}
use Rattle.std.proofs.lemmas.List.{with_items_is}
use Rattle.issuer_base.specs.declared.answer.Refusal.{Refusal}
use Rattle.line_checks.specs.LookedUp.{AreLookUps, IsLookedUpAgain, IsReady}
use Rattle.line_checks.specs.declared.looked_up.LookedUp.{LookedUp}
use Rattle.line_checks.proofs.LookUps.{all-again}
use Rattle.line_checks.proofs.lines_ahead.LinesAhead.check.Goals.{After-check_in_lanes}
use Rattle.line_checks.proofs.lines_ahead.LinesAhead.check.Goals as goal

pub check_in_lanes-requires-clause-ready : goal.check_in_lanes-requires-clause-ready
check_in_lanes-requires-clause-ready c =
    subst (λ (found : List (Result LookedUp Refusal)). All (IsReady c.args.issuer.now) found)
    (sym (c.as_mut_slice.ensures.value ∙ c.self.view_is)) c.requires

-- each look-up finds the same again
again : (c : After-check_in_lanes) → AllZip (IsLookedUpAgain c.args.issuer.now) c.args.self.now c.check_in_lanes.new.found
again c =
    subst (λ (found : List (Result LookedUp Refusal)). AllZip (IsLookedUpAgain c.args.issuer.now) found c.check_in_lanes.new.found)
    (c.as_mut_slice.ensures.value ∙ c.self.view_is) c.check_in_lanes.ensures

pub returns-clause-again : goal.returns-clause-again
returns-clause-again c =
    let long : length c.check_in_lanes.new.found ≡ c.self.inside.found.len = c.check_in_lanes.auto.found ∙ c.as_mut_slice.ensures.len in
    subst (AllZip (IsLookedUpAgain c.args.issuer.now) c.args.self.now)
    (sym (with_items_is c.self.inside.found c.check_in_lanes.new.found long)) (again (goal.at.returns-clause-again c).After-check_in_lanes)

pub returns-clause-same : goal.returns-clause-same
returns-clause-same c = λ lines are.
    let long : length c.check_in_lanes.new.found ≡ c.self.inside.found.len = c.check_in_lanes.auto.found ∙ c.as_mut_slice.ensures.len in
    subst (AreLookUps c.args.issuer.now lines) (sym (with_items_is c.self.inside.found c.check_in_lanes.new.found long))
    (all-again c.args.issuer.now lines c.args.self.now c.check_in_lanes.new.found are (again (goal.at.returns-clause-same c).After-check_in_lanes))
