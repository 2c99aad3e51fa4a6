-- The request that was parsed is claimed.
use Rattle.std.proofs.Common.{◌≡◌, false, is_some, ◌∙◌, ap, sym}
use Rattle.world_net.specs.WorldState.{claim_of}
use Rattle.world_model.specs.Stepping.{world_of}
use Rattle.world_model.proofs.NetSteps.{claims_it, found-none}
use Rattle.world_model.proofs.net.Net.claim.Goals as goal

pub returns-clause-taken : goal.returns-clause-taken
returns-clause-taken c =
    let none : is_some c.claim_of.result ≡ false = sym c.is_some.ensures ∙ c.if-is_some.false in
    claims_it (world_of c.args.self.now) c.args.caller c.args.bytes.now c.in-Some.request c.push.new.self.items
    (found-none _ c.claim_of.result _ (c.claim_of.ensures ∙ ap (claim_of c.args.caller) c.as_slice.ensures.value) none)
    c.in-Some.ensures.0 c.in-Some.ensures.1 (c.is_free.ensures.0 c.if-not-is_free.false) c.in_ok-push.ensures.items
