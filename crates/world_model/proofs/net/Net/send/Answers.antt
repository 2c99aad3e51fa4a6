-- The decision in the record is sent.
use Rattle.world_model.specs.Stepping.{world_of}
use Rattle.world_model.proofs.NetSteps.{sends}
use Rattle.world_model.proofs.net.Net.send.Goals as goal

pub returns-clause-taken : goal.returns-clause-taken
returns-clause-taken c =
    sends (world_of c.args.self.now) c.args.shard c.args.place c.in-Some.exchange c.push.new.self.items c.in-Some.ensures c.in_ok-push.ensures.items
