-- The card stays the one that it was.
use Rattle.world_play.specs.Handing.{answer_in}
use Rattle.world_play.proofs.Using.{stays-handed}
use Rattle.world_play.proofs.player.Player.hand.Goals as goal

pub returns-clause-own : goal.returns-clause-own
returns-clause-own c =
    stays-handed c.hand.result (λ answer. answer) (λ commands. commands) c.in-Some.reply
    (answer_in c.in-Some.reply.bytes.items) c.args.self.now c.hand.new.card c.hand.ensures.card
