-- The card stays the one that it was.
use Rattle.world_play.specs.Handing.{answer_in, spoil_first}
use Rattle.world_play.proofs.Using.{stays-handed}
use Rattle.world_play.proofs.player.Player.hand_spoiled.Goals as goal

pub returns-clause-own : goal.returns-clause-own
returns-clause-own c =
    stays-handed c.hand_spoiled.result spoil_first (λ commands. commands) c.in-Some.reply
    (answer_in c.in-Some.reply.bytes.items) c.args.self.now c.hand_spoiled.new.card c.hand_spoiled.ensures.card
