-- A record that the rows accepted is added to the row of its card.
use Rattle.std.proofs.Common.{◌≡◌, [], ◌∷◌, ◌++◌, ap, refl, sym, subst, ◌∙◌}
use Rattle.issuer_base.specs.declared.entry.Entry.{Entry}
use Rattle.issuer_base.specs.declared.entry.Entry.TheVariants.{Decided}
use Rattle.card_history.specs.LegalRecords.{IsLegal}
use Rattle.card_history.specs.Records.{card_in, card_of}
use Rattle.issuer_setup.specs.CardList.{name_of}
use Rattle.line_checks.specs.AtHand.{IsCardAtHand, number_of_order, record_of}
use Rattle.shard_book.specs.Accepted.{IsAccepted, IsReady}
use Rattle.shard_book.specs.Grounds.{grounds_of}
use Rattle.shard_book.specs.ShardRows.{RowsStandFor}
use Rattle.shard_book.proofs.Applied.{next-decision}
use Rattle.shard_book.proofs.LegalNext.{card-found}
use Rattle.shard_book.proofs.rows.Rows.apply_record.Goals as goal

pub apply-requires-clause-home : goal.apply-requires-clause-home
apply-requires-clause-home c = (subst (IsReady c.args.self.now) c.in-Decision.is c.requires).0

pub apply-requires-clause-launch : goal.apply-requires-clause-launch
apply-requires-clause-launch c = (subst (IsReady c.args.self.now) c.in-Decision.is c.requires).1

pub apply_order-requires-clause-home : goal.apply_order-requires-clause-home
apply_order-requires-clause-home c = (subst (IsReady c.args.self.now) c.in-Order.is c.requires).0

pub apply_order-requires-clause-form : goal.apply_order-requires-clause-form
apply_order-requires-clause-form c = (subst (IsReady c.args.self.now) c.in-Order.is c.requires).1

pub returns-in-Decision-clause-applied : goal.returns-in-Decision-clause-applied
returns-in-Decision-clause-applied c issuer entry history accepted stands legal at_end =
    let found = c.in-Decision.found in
    let reply = c.in-Decision.reply.now in
    let its = subst (IsAccepted issuer c.args.self.now entry) c.in-Decision.is accepted in
    let record_is : Decided found.request reply ≡ entry = its.record_is in
    let card = card-found issuer (card_in entry) found.card its.card_is in
    let named : name_of card.card ≡ card_of found.request = card.named ∙ ap card_in (sym record_is) in
    let next = subst (IsLegal (grounds_of issuer) c.args.self.now.shard history) (sym record_is) legal in
    subst (λ (entry : Entry). RowsStandFor issuer c.apply.new.self (history ++ entry ∷ [])) record_is
    (c.apply.ensures.applied issuer card.card history stands card.known
    (next-decision issuer c.args.self.now.shard history found.request reply card.card c.args.place named next at_end) refl)

pub returns-in-Order-clause-applied : goal.returns-in-Order-clause-applied
returns-in-Order-clause-applied c issuer entry history accepted stands legal at_end =
    let order = c.in-Order.order.now in
    let its = subst (IsAccepted issuer c.args.self.now entry) c.in-Order.is accepted in
    let record_is : record_of order ≡ entry = its.record_is in
    subst (λ (entry : Entry). RowsStandFor issuer c.apply_order.new.self (history ++ entry ∷ [])) record_is
    (c.apply_order.ensures.applied issuer history
    (subst (λ (entry : Entry). IsCardAtHand issuer (card_in entry) (number_of_order order)) (sym record_is) its.card_is) stands
    (subst (IsLegal (grounds_of issuer) c.args.self.now.shard history) (sym record_is) legal))
