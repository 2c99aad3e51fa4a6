-- One more new card is the next one.
use Rattle.world_model.proofs.OpeningWorlds.{cards-more}
use Rattle.world_model.proofs.net.new_cards.Goals as goal

pub loop-number-preserved : goal.loop-number-preserved
loop-number-preserved c =
    cards-more _ c.args.suite c.args.issuer.now.cards c.loop-number.number c.loop-number.cards.items c.push.new.self.items c.info.result.now
    c.new_card.result c.loop-number.invariant c.info.ensures c.new_card.ensures c.in_ok-push.ensures.items
