-- A piece is fed, and after a fault the standby isn't live.
use Rattle.std.proofs.Common.{◌++◌}
use Rattle.standby_node.proofs.Fed.{fed-live}
use Rattle.standby_node.proofs.standby.Standby.feed.Goals as goal

pub returns-clause-fed : goal.returns-clause-fed
returns-clause-fed g c in_doubt opening histories stream before =
    let fed = c.take_piece-fed.ensures.fed in_doubt opening histories stream before in (
      fed.0,
      fed-live c.args.issuer.now in_doubt opening (stream ++ c.args.piece.now) c.take_piece-fed.result c.take_piece-fed.new.self _
          fed.0 fed.1,
      fed.2,
    )
