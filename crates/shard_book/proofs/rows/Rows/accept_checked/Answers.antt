-- The row of the card decides whether its decision is a valid successor.
use Rattle.std.proofs.Common.{◌↔◌, ℕ, is_some, subst, IsTrue}
use Rattle.row_core.specs.Accepting.{IsValidSuccessor}
use Rattle.shard_book.proofs.RowsAfter.{row-there}
use Rattle.shard_book.proofs.rows.Rows.accept_checked.Goals as goal

pub returns-clause-exact : goal.returns-clause-exact
returns-clause-exact c issuer card history stands known named =
    subst (λ (window : ℕ). IsTrue (is_some c.accept.result)
    ↔ IsValidSuccessor window card.method c.args.found.now.keys history c.args.found.now.request c.args.reply.now) c.window.ensures.window
    (c.accept.ensures.exact card history
    (row-there issuer c.args.self.now history stands c.args.found.now.card c.requires.home c.row.result.now c.row.ensures card known.card_is) named)
