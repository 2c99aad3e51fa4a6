-- The verdict that was kept is that of the card's keys.
use Rattle.std.proofs.Common.{rules, ◌≡◌, refl, sym, subst, ◌∙◌}
use Rattle.issuer_base.specs.declared.request.Suite.TheVariants.{TripleDes}
use Rattle.issuer_base.specs.ChipData.{suite_of}
use Rattle.line_checks.specs.LookedUp.{IsVerdict}
use Rattle.line_checks.proofs.RightSessions.{keys-suite, verdict-is}
use Rattle.line_checks.proofs.looked_up.LookedUpRequest.keep_verdict.Goals as goal

pub returns-then-goes_in_lanes : goal.returns-then-goes_in_lanes
returns-then-goes_in_lanes c = λ issuer check known its session_is.
    let sought = c.args.self.now in
    let keys = known.slot_is.keys in
    let suite_is : suite_of sought.request ≡ TripleDes = search rules in
    record {
      request_is = refl;
      card_is = refl;
      slot_is = refl;
      at_hand = record {
        card_is = known.card_is;
        online_is = known.online_is;
        slot_is = known.slot_is;
        verdict_is = subst (IsVerdict keys sought.request) (sym c.verdict_of-self.ensures)
            (verdict-is keys sought.request c.args.session check
            (keys-suite issuer sought.card sought.request keys known.slot_is.keys_are ∙ suite_is) (its keys known.slot_is.stored suite_is) session_is);
      };
    }
