-- The caller's claim exists, and ends.
use Rattle.std.proofs.Common.{◌≡◌, true, is_some, ◌∙◌, ap}
use Rattle.world_net.specs.WorldState.{claim_of}
use Rattle.world_model.specs.Stepping.{world_of}
use Rattle.world_model.proofs.NetSteps.{releases, found-there}
use Rattle.world_model.proofs.net.Net.release.Goals as goal

pub returns-clause-taken : goal.returns-clause-taken
returns-clause-taken c =
    let some : is_some c.claim_of.result ≡ true = c.if-is_none.ensures in
    releases (world_of c.args.self.now) c.args.caller c.end_claim.new.claims.items
    (found-there _ c.claim_of.result _ (c.claim_of.ensures ∙ ap (claim_of c.args.caller) c.as_slice.ensures.value) some) c.end_claim.ensures
