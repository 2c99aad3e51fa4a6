-- A step of a run's end is a run's end, and safe.
use Rattle.world_model.specs.Stepping.{world_of}
use Rattle.world_model.proofs.NetWrites.{held-count, held-step, reached-safe}
use Rattle.world_model.proofs.world.World.step.Goals as goal

pub step-requires-clause-shards : goal.step-requires-clause-shards
step-requires-clause-shards c = held-count c.self.inside.net c.self.invariant

pub invariant_of-self : goal.invariant_of-self
invariant_of-self c =
    held-step c.self.inside.net c.step.new.self c.args.event.now c.step.result c.self.invariant c.step.ensures.taken c.step.ensures.rows

pub returns-clause-run : goal.returns-clause-run
returns-clause-run c =
    (held-step c.self.inside.net c.step.new.self c.args.event.now c.step.result c.self.invariant c.step.ensures.taken c.step.ensures.rows).reached

pub returns-clause-safe : goal.returns-clause-safe
returns-clause-safe c =
    reached-safe (world_of c.step.new.self)
    (held-step c.self.inside.net c.step.new.self c.args.event.now c.step.result c.self.invariant c.step.ensures.taken c.step.ensures.rows).reached
