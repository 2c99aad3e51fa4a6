-- An order that is a valid successor is added to the row of its card.
use Rattle.std.proofs.Common.{[], ◌∷◌, ◌++◌, sym, subst}
use Rattle.issuer_base.specs.declared.command.Command.{Command}
use Rattle.issuer_base.specs.declared.entry.Entry.TheVariants.{Queued, Status}
use Rattle.issuer_base.specs.CardNames.{CardName, named}
use Rattle.card_history.specs.LegalRecords.{IsLegal}
use Rattle.line_checks.specs.AtHand.{IsCardAtHand, card_of_order, number_of_order, record_of}
use Rattle.line_checks.specs.declared.checked.CheckedOrder.{CheckedOrder}
use Rattle.shard_book.specs.Grounds.{grounds_of}
use Rattle.shard_book.specs.ShardRows.{IsHome, RowsStandFor}
use Rattle.shard_book.proofs.Applied.{room-for}
use Rattle.shard_book.proofs.LegalNext.{card-found}
use Rattle.shard_book.proofs.rows.Rows.apply_order.Goals as goal

pub push-requires-clause-home : goal.push-requires-clause-home
push-requires-clause-home c = subst (λ (order : CheckedOrder). IsHome c.args.self.now (number_of_order order)) c.in-Command.is c.requires.home

pub set_status-requires-clause-home : goal.set_status-requires-clause-home
set_status-requires-clause-home c = subst (λ (order : CheckedOrder). IsHome c.args.self.now (number_of_order order)) c.in-Status.is c.requires.home

pub returns-in-Command-clause-applied : goal.returns-in-Command-clause-applied
returns-in-Command-clause-applied c issuer history at_hand stands legal =
    let asked = c.in-Command.asked in
    let at = subst (λ (order : CheckedOrder). IsCardAtHand issuer (card_of_order order) (number_of_order order)) c.in-Command.is at_hand in
    let card = card-found issuer (named asked.pan asked.psn) asked.card at in
    let next = subst (λ (order : CheckedOrder). IsLegal (grounds_of issuer) c.args.self.now.shard history (record_of order)) c.in-Command.is legal in
    let room = room-for issuer c.args.self.now.shard history (named asked.pan asked.psn) asked.command card.card card.named next in
    subst (λ (order : CheckedOrder). RowsStandFor issuer c.push.new.self (history ++ record_of order ∷ [])) (sym c.in-Command.is)
    (subst (λ (command : Command). RowsStandFor issuer c.push.new.self (history ++ Queued asked.pan asked.psn command ∷ [])) c.copy.ensures
    (subst (λ (name : CardName). RowsStandFor issuer c.push.new.self (history ++ Queued name.pan name.psn c.copy.result ∷ [])) card.named
    (c.push.ensures.queued issuer card.card history stands card.known room)))

pub returns-in-Status-clause-applied : goal.returns-in-Status-clause-applied
returns-in-Status-clause-applied c issuer history at_hand stands legal =
    let asked = c.in-Status.asked in
    let at = subst (λ (order : CheckedOrder). IsCardAtHand issuer (card_of_order order) (number_of_order order)) c.in-Status.is at_hand in
    let card = card-found issuer (named asked.pan asked.psn) asked.card at in
    subst (λ (order : CheckedOrder). RowsStandFor issuer c.set_status.new.self (history ++ record_of order ∷ [])) (sym c.in-Status.is)
    (subst (λ (name : CardName). RowsStandFor issuer c.set_status.new.self (history ++ Status name.pan name.psn asked.status ∷ [])) card.named
    (c.set_status.ensures.set issuer card.card history stands card.known))
