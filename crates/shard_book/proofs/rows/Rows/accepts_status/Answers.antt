-- A status is a valid successor if its card is one of the shard's.
use Rattle.std.proofs.Common.{sym, ◌∙◌}
use Rattle.issuer_base.specs.CardNames.{named}
use Rattle.shard_book.proofs.Adopted.{home-found}
use Rattle.shard_book.proofs.rows.Rows.accepts_status.Goals as goal

pub returns-clause-home : goal.returns-clause-home
returns-clause-home c taken =
    home-found c.args.issuer.now c.args.self.now c.requires.rows (named c.args.asked.now.pan c.args.asked.now.psn) c.args.asked.now.card c.requires.card.number_is
    (sym c.shard_of.ensures.number ∙ c.if-shard_of-shard.false ∙ c.shard.ensures)
