-- What the tests show of the counter.
use Rattle.std.proofs.Common.{◌<◌, length, arith, ap, ◌∙◌}
use Rattle.std.specs.List.{list_all}
use Rattle.world_net.specs.declared.parts.OpenClaim.{OpenClaim}
use Rattle.world_model.specs.Counters.{is_apart, is_apart_in}
use Rattle.world_model.specs.Stepping.{world_of}
use Rattle.world_model.proofs.NetSteps.{free-where, taken-where, shard-read}
use Rattle.world_model.proofs.net.Net.is_free.Goals as goal

pub returns-then-is_unrecorded : goal.returns-then-is_unrecorded
returns-then-is_unrecorded c =
    let world = world_of c.args.self.now in
    let within : c.home_of-home.result < length world.shards = omega (arith, c.home_of-home.ensures.within, c.requires.shards) in
    let history = shard-read world c.args.request.now c.home_of-home.result c.index.result.now within c.index.ensures c.home_of-home.ensures.home in
    free-where world c.args.request.now c.is_unrecorded.result c.is_unclaimed.result
    (c.is_unrecorded.ensures ∙ ap (list_all (is_apart_in c.args.request.now)) (c.history.ensures ∙ history))
    (c.is_unclaimed.ensures ∙ ap (list_all (λ (claim : OpenClaim). is_apart c.args.request.now claim.request)) c.as_slice.ensures.value)
    c.if-is_unrecorded.true

pub returns-else-is_unrecorded : goal.returns-else-is_unrecorded
returns-else-is_unrecorded c =
    let world = world_of c.args.self.now in
    let within : c.home_of-home.result < length world.shards = omega (arith, c.home_of-home.ensures.within, c.requires.shards) in
    let history = shard-read world c.args.request.now c.home_of-home.result c.index.result.now within c.index.ensures c.home_of-home.ensures.home in
    taken-where world c.args.request.now c.is_unrecorded.result
    (c.is_unrecorded.ensures ∙ ap (list_all (is_apart_in c.args.request.now)) (c.history.ensures ∙ history))
    c.if-is_unrecorded.false
