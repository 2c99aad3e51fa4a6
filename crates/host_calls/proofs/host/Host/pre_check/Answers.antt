-- The check of a line is that of its look-up.
use Rattle.host_calls.proofs.LookUps.{look-up-is}
use Rattle.host_calls.proofs.host.Host.pre_check.Goals as goal

pub pre_check_found-requires : goal.pre_check_found-requires
pre_check_found-requires g c =
    (c.requires.free, (c.args.line.now, look-up-is _ _ _ c.look_up-found.ensures.sought c.look_up-found.ensures.refused))
