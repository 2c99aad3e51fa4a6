-- The verdict that was kept is that of the card's keys.
use Rattle.std.proofs.Common.{rules, ◌≡◌, sym, subst, ◌∙◌}
use Rattle.issuer_base.specs.declared.request.Suite.TheVariants.{TripleDes}
use Rattle.issuer_base.specs.ChipData.{suite_of}
use Rattle.line_checks.specs.LookedUp.{IsVerdict}
use Rattle.line_checks.proofs.RightSessions.{keys-suite, verdict-is}
use Rattle.clearing_check.proofs.presented.keep_of_request.Goals as goal

pub returns-then-goes_in_lanes-clause-verdict : goal.returns-then-goes_in_lanes-clause-verdict
returns-then-goes_in_lanes-clause-verdict c = λ issuer presented check its of_check session_is.
    let sought = c.args.sought.now in
    let keys = its.slot_is.keys in
    let suite_is : suite_of sought.request ≡ TripleDes = search rules in
    record {
      slot_is = its.slot_is;
      verdict_is = subst (IsVerdict keys sought.request) (sym c.verdict_of-sought.ensures)
          (verdict-is keys sought.request c.args.session check
          (keys-suite issuer sought.card sought.request keys its.slot_is.keys_are ∙ suite_is)
          (of_check keys its.slot_is.stored suite_is) session_is);
      presented_is = its.presented_is;
    }
