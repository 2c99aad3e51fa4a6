-- What the card's row decides is the issuer's reply.
use Rattle.std.proofs.Common.{◌≡◌, List, subst}
use Rattle.issuer_base.specs.declared.entry.Entry.{Entry}
use Rattle.card_history.specs.Records.{card_of}
use Rattle.decision_table.specs.declared.row.TableRow.{TableRow}
use Rattle.issuer_setup.specs.declared.card.CardInfo.{CardInfo}
use Rattle.issuer_setup.specs.CardList.{name_of}
use Rattle.row_core.specs.CardRow.{StandsFor}
use Rattle.row_core.specs.Replying.{reply_after}
use Rattle.shard_book.proofs.RowPlans.{row-reply, row-launch}
use Rattle.shard_book.proofs.rows.Rows.decide.Goals as goal

pub returns-clause-reply : goal.returns-clause-reply
returns-clause-reply c =
    let found = c.args.found.now in
    row-reply c.args.issuer.now c.args.self.now found c.row.result.now c.decide.new.reply c.requires.at_hand c.requires.home c.row.ensures
    (subst (λ (table : List TableRow). (card : CardInfo) (history : List Entry) → StandsFor card c.row.result.now history
    → card_of found.request ≡ name_of card → c.decide.new.reply ≡ reply_after card.method found.keys table history found.request)
    c.table.ensures c.decide.ensures.reply)

pub returns-clause-launch : goal.returns-clause-launch
returns-clause-launch c =
    row-launch c.args.self.now c.args.found.now c.row.result.now c.decide.result c.row.ensures c.decide.ensures.step.launch_is
