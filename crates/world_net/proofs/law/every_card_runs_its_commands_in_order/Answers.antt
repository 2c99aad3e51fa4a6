-- The invariant of each card of a genuine run says that it ran its commands in order.
use Rattle.world_net.proofs.KeptWorlds.{kept-run_end, kept-in_order}
use Rattle.world_net.proofs.law.every_card_runs_its_commands_in_order.Goals as goal

pub returns : goal.returns
returns c issuer events world valid run = kept-in_order world (kept-run_end issuer events world valid run)
