-- A request whose verdict is known passes its check, or doesn't.
use Rattle.std.proofs.Common.{sym, subst}
use Rattle.line_checks.specs.LookedUp.{IsVerdict}
use Rattle.line_checks.specs.RequestFacts.{HasItsKeys}
use Rattle.line_checks.proofs.CheckedRequests.{wrong-checked}
use Rattle.line_checks.proofs.looked_up.LookedUpRequest.check.Goals as goal

pub returns-in-Wrong-clause-request : goal.returns-in-Wrong-clause-request
returns-in-Wrong-clause-request c =
    let known = c.requires in
    let sought = c.args.self.now in
    let its : HasItsKeys c.args.issuer.now sought.request =
    record { number = sought.card; keys = known.slot_is.keys; number_is = known.card_is.number_is; keys_are = known.slot_is.keys_are } in
    sym (wrong-checked c.args.issuer.now sought.request its known.online_is (subst (IsVerdict known.slot_is.keys sought.request) c.in-Wrong.is known.verdict_is))
