-- The world that fell back is the end of a run, and safe.
use Rattle.std.proofs.Common.{subst}
use Rattle.world_model.specs.FallBack.{IsGenuinelyReached, KeepsLaws}
use Rattle.world_model.specs.Stepping.{world_of}
use Rattle.world_net.specs.WorldState.{WorldState}
use Rattle.world_model.proofs.FallenRuns.{FallsOrStays, falls-or-stays, falls-safe}
use Rattle.world_model.proofs.world.World.fall_back.Goals.{After-fall_back}
use Rattle.world_model.proofs.world.World.fall_back.Goals as goal

falls : (c : After-fall_back) → FallsOrStays (world_of c.self.inside.net) (world_of c.fall_back.new.self)
falls c =
    falls-or-stays c.args.keep.now (world_of c.self.inside.net) (world_of c.fall_back.new.self) c.fall_back.result c.self.invariant.reached
    c.fall_back.ensures.allowed c.fall_back.ensures.fallen c.fall_back.ensures.unchanged

pub invariant_of-self : goal.invariant_of-self
invariant_of-self c = record { reached = (falls c).reached; rows = c.fall_back.ensures.rows }

pub returns-clause-run : goal.returns-clause-run
returns-clause-run c = (falls c).reached

pub returns-clause-genuine : goal.returns-clause-genuine
returns-clause-genuine c =
    subst (λ (old : WorldState). IsGenuinelyReached old → IsGenuinelyReached (world_of c.fall_back.new.self)) c.self.view_is (falls c).genuine

pub returns-clause-laws : goal.returns-clause-laws
returns-clause-laws c =
    subst (λ (old : WorldState). KeepsLaws old (world_of c.fall_back.new.self)) c.self.view_is
    (falls-safe (world_of c.self.inside.net) (world_of c.fall_back.new.self) (falls c))
