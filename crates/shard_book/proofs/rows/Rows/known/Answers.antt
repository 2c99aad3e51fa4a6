-- What the card's row knows is known of the shard.
use Rattle.shard_book.proofs.RowPlans.{row-known}
use Rattle.shard_book.proofs.rows.Rows.known.Goals as goal

pub returns : goal.returns
returns c = λ issuer at_hand.
    row-known issuer c.args.self.now c.args.found.now c.row.result.now c.known.result at_hand c.requires c.row.ensures
    (λ card history stands. c.known.ensures card history stands)
