-- An order is a valid successor by the rule of its kind.
use Rattle.std.proofs.Common.{◌↔◌, sym, subst, IsTrue}
use Rattle.card_history.specs.LegalRecords.{IsLegal}
use Rattle.line_checks.specs.AtHand.{number_of_order, record_of}
use Rattle.line_checks.specs.declared.checked.CheckedOrder.{CheckedOrder}
use Rattle.shard_book.specs.Grounds.{grounds_by, IsMadeBy}
use Rattle.shard_book.specs.ShardRows.{IsHome}
use Rattle.shard_book.proofs.rows.Rows.accepts_order.Goals as goal

pub returns-in-Command-clause-exact : goal.returns-in-Command-clause-exact
returns-in-Command-clause-exact c window history stands =
    subst (λ (order : CheckedOrder). IsTrue c.accepts_command.result
    ↔ IsLegal (grounds_by c.args.issuer.now window (IsMadeBy c.args.issuer.now)) c.args.self.now.shard history (record_of order)) (sym c.in-Command.is)
    (c.accepts_command.ensures.exact window history stands)

pub returns-in-Command-clause-home : goal.returns-in-Command-clause-home
returns-in-Command-clause-home c taken =
    subst (λ (order : CheckedOrder). IsHome c.args.self.now (number_of_order order)) (sym c.in-Command.is) (c.accepts_command.ensures.home taken)

pub returns-in-Status-clause-exact : goal.returns-in-Status-clause-exact
returns-in-Status-clause-exact c window history stands =
    subst (λ (order : CheckedOrder). IsTrue c.accepts_status.result
    ↔ IsLegal (grounds_by c.args.issuer.now window (IsMadeBy c.args.issuer.now)) c.args.self.now.shard history (record_of order)) (sym c.in-Status.is)
    (c.accepts_status.ensures.exact window history stands)

pub returns-in-Status-clause-home : goal.returns-in-Status-clause-home
returns-in-Status-clause-home c taken =
    subst (λ (order : CheckedOrder). IsHome c.args.self.now (number_of_order order)) (sym c.in-Status.is) (c.accepts_status.ensures.home taken)
