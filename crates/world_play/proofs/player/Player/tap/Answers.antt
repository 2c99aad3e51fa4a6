-- The request in hand is the card's own.
use Rattle.std.proofs.Common.{None, refl}
use Rattle.world_play.proofs.Using.{stays-tapped}
use Rattle.world_play.proofs.player.Player.tap.Goals as goal

pub returns-clause-own : goal.returns-clause-own
returns-clause-own c =
    stays-tapped c.args.step.now c.terminal_of.result c.args.self.now
    (record { card = c.tap-request.new.self; request = c.tap-request.result; reply = None; held = c.args.self.now.held }) c.terminal_of.ensures.exact
    c.tap-request.ensures.step refl
