-- A command is a valid successor if its card is one of the shard's and the queue accepts it.
use Rattle.std.proofs.Common.{sym, subst, ◌∙◌}
use Rattle.issuer_base.specs.CardNames.{CardName, named}
use Rattle.card_history.specs.Scripts.{waiting, scripts_of}
use Rattle.script_queue.specs.CommandQueue.{TakesOneMore}
use Rattle.shard_book.proofs.Adopted.{home-found, card-at_home}
use Rattle.shard_book.proofs.LegalNext.{card-found}
use Rattle.shard_book.proofs.rows.Rows.accepts_command.Goals as goal

pub takes_command-requires : goal.takes_command-requires
takes_command-requires c =
    home-found c.args.issuer.now c.args.self.now c.requires.rows (named c.args.asked.now.pan c.args.asked.now.psn) c.args.asked.now.card c.requires.card.number_is
    (sym c.shard_of.ensures.number ∙ c.if-shard_of-shard.false ∙ c.shard.ensures)

pub returns-clause-exact : goal.returns-clause-exact
returns-clause-exact c window history stands =
    let card = card-found _ _ _ c.requires.card in
    let takes = c.takes_command.ensures c.args.issuer.now card.card history stands card.known in (
      λ taken. record {
        of_a_card = card-at_home c.args.issuer.now c.args.self.now c.requires.rows (named c.args.asked.now.pan c.args.asked.now.psn) c.args.asked.now.card c.requires.card.number_is
            (sym c.shard_of.ensures.number ∙ c.if-shard_of-shard.false ∙ c.shard.ensures);
        form = c.requires.form;
        room = subst (λ (name : CardName). TakesOneMore (waiting (scripts_of name history))) card.named (takes.0 taken);
      },
      λ legal. takes.1 (subst (λ (name : CardName). TakesOneMore (waiting (scripts_of name history))) (sym card.named) legal.room),
    )

pub returns-clause-home : goal.returns-clause-home
returns-clause-home c taken =
    home-found c.args.issuer.now c.args.self.now c.requires.rows (named c.args.asked.now.pan c.args.asked.now.psn) c.args.asked.now.card c.requires.card.number_is
    (sym c.shard_of.ensures.number ∙ c.if-shard_of-shard.false ∙ c.shard.ensures)
