-- The line in hand waits, or all that wait are taken.
use Rattle.std.proofs.Common.{false}
use Rattle.standby_node.specs.Standing.{shards_in}
use Rattle.standby_node.proofs.Shards.{leaves-same}
use Rattle.line_serving.proofs.Feeding.{has-more, reads-on}
use Rattle.line_serving.proofs.follower.Follower.take_line.Goals as goal

pub returns-then-is_due-clause-taken : goal.returns-then-is_due-clause-taken
returns-then-is_due-clause-taken g c = λ opening histories lines has.
    reads-on c.args.issuer.now opening _ _ _ histories
    (has-more c.args.issuer.now opening lines _ c.args.node.now histories has c.args.self.now.reader.line
    c.line.result.now c.read_ahead.new.ahead c.line.ensures c.read_ahead.ensures.read)
    c.take_lines.result _ _ c.take_lines.ensures.none c.take_lines.ensures.fed

pub returns-else-is_due-clause-taken : goal.returns-else-is_due-clause-taken
returns-else-is_due-clause-taken g c = λ opening histories lines has. (
  histories,
  has-more c.args.issuer.now opening lines _ c.args.node.now histories has c.args.self.now.reader.line
      c.line.result.now c.read_ahead.new.ahead c.line.ensures c.read_ahead.ensures.read,
  leaves-same c.args.issuer.now (shards_in c.args.node.now) c.requires.may.shards (λ number. false) histories
      has.has_taken.hold,
)
