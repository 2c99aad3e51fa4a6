-- The card stays the one that it was.
use Rattle.std.proofs.Common.{take}
use Rattle.world_play.specs.Handing.{answer_in}
use Rattle.world_play.proofs.Using.{stays-handed}
use Rattle.world_play.proofs.player.Player.hand_first.Goals as goal

pub returns-clause-own : goal.returns-clause-own
returns-clause-own c =
    stays-handed c.hand_first.result (λ answer. answer) (take 1) c.in-Some.reply
    (answer_in c.in-Some.reply.bytes.items) c.args.self.now c.hand_first.new.card c.hand_first.ensures.card
