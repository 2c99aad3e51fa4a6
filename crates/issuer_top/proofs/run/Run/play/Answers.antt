-- How a run ends that plays a world.
use Rattle.std.proofs.Common.{refl}
use Rattle.desk_host.proofs.JournalSteps.{journals-none}
use Rattle.issuer_top.proofs.EndingSteps.{ends-as}
use Rattle.issuer_top.proofs.PlayingEnds.{ends_playing}
use Rattle.issuer_top.proofs.run.Run.play.Goals as goal

pub returns : goal.returns
returns g c =
    let size = c.args.size in
    rw c.ended.ensures
    (ends-as _ _ _ _ refl
    (ends_playing _ size.cards size.steps size.seed
    (record { config_is = refl; requests_is = refl; desk_stood = refl })
    (journals-none g.D.Journal.Store _ _ c.none.ensures.olds c.none.ensures.stores) _ c.play_world-ending.ensures))
