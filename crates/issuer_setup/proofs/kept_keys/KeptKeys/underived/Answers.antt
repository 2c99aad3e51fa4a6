-- There is room for the pairs of one more card.
use Rattle.issuer_setup.proofs.KeptKeysLemmas.{room_for-card}
use Rattle.issuer_setup.proofs.kept_keys.KeptKeys.underived.Goals as goal

pub add_card-requires : goal.add_card-requires
add_card-requires c =
    rw (c.loop-card.invariant.derived, c.loop-card.invariant.room)
    (room_for-card c.args.keys.now c.args.cards.now c.loop-card.card-index c.card-item.result c.loop-card-test.true)
