-- One more empty row is the next card's.
use Rattle.std.proofs.Common.{refl}
use Rattle.world_model.proofs.OpeningWorlds.{empty-more}
use Rattle.world_model.proofs.net.empty_rows.Goals as goal

pub loop-number-preserved : goal.loop-number-preserved
loop-number-preserved c =
    empty-more c.args.issuer.now.cards c.loop-number.number c.loop-number.rows.items c.push.new.self.items c.info.result.now c.in_ok-new.field-0
    c.loop-number.invariant c.info.ensures (c.in_ok-new.ensures c.info.result.now refl) c.in_ok-push.ensures.items
