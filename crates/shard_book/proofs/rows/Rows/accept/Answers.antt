-- A record is a valid successor by the rule of its kind.
use Rattle.std.proofs.Common.{◌↔◌, Bool, List, ap, sym, subst, ◌∙◌, Ok, IsTrue}
use Rattle.issuer_base.specs.declared.entry.Entry.{Entry}
use Rattle.card_history.specs.LegalRecords.{IsLegal}
use Rattle.journal_rec.specs.Record.{is_record}
use Rattle.line_checks.specs.declared.looked_up.LookedUp.TheVariants.{Order}
use Rattle.shard_book.specs.ReadAhead.{IsLookedUp}
use Rattle.shard_book.specs.Versions.{grounds_in, window_in}
use Rattle.shard_book.specs.ShardRows.{RowsStandFor}
use Rattle.shard_book.proofs.ReadAhead.{order-card, order-of}
use Rattle.shard_book.proofs.rows.Rows.accept.Goals.{After-accepts_order, In-Order}
use Rattle.shard_book.proofs.rows.Rows.accept.Goals as goal

-- the order is that of the record
its : (c : In-Order) → IsLookedUp c.args.issuer.now c.args.entry.now (Ok (Order c.in-Order.order))
its c = subst (IsLookedUp c.args.issuer.now c.args.entry.now) (c.in-Ok.is ∙ ap (λ found. Ok found) c.in-Order.is) c.requires.found

-- and whether it is a valid successor
decides : (c : After-accepts_order) (history : List Entry) → RowsStandFor c.args.issuer.now c.args.self.now history
    → (IsTrue c.accepts_order.result ↔ IsLegal (grounds_in c.args.version c.args.issuer.now) c.args.self.now.shard history c.args.entry.now)
decides c history stands =
    subst (λ (entry : Entry). IsTrue c.accepts_order.result ↔ IsLegal (grounds_in c.args.version c.args.issuer.now) c.args.self.now.shard history entry)
    (order-of c.args.issuer.now c.args.entry.now c.in-Order.order
    (subst (IsLookedUp c.args.issuer.now c.args.entry.now) (c.in-Ok.is ∙ ap (λ found. Ok found) c.in-Order.is) c.requires.found)) (c.accepts_order.ensures.exact (window_in c.args.version) history stands)

pub returns-then-not-accepts_order-clause-exact : goal.returns-then-not-accepts_order-clause-exact
returns-then-not-accepts_order-clause-exact c history stands =
    subst (λ (accepted : Bool). IsTrue accepted ↔ IsLegal (grounds_in c.args.version c.args.issuer.now) c.args.self.now.shard history c.args.entry.now)
    c.if-not-accepts_order.true (decides (goal.at.returns-then-not-accepts_order-clause-exact c).After-accepts_order history stands)

pub returns-else-not-accepts_order-clause-exact : goal.returns-else-not-accepts_order-clause-exact
returns-else-not-accepts_order-clause-exact c history stands =
    subst (λ (accepted : Bool). IsTrue accepted ↔ IsLegal (grounds_in c.args.version c.args.issuer.now) c.args.self.now.shard history c.args.entry.now)
    c.if-not-accepts_order.false (decides (goal.at.returns-else-not-accepts_order-clause-exact c).After-accepts_order history stands)

pub returns-else-not-accepts_order-clause-accepted : goal.returns-else-not-accepts_order-clause-accepted
returns-else-not-accepts_order-clause-accepted c =
    let found = its (goal.at.returns-else-not-accepts_order-clause-accepted c).In-Order in
    let record_is = order-of c.args.issuer.now c.args.entry.now c.in-Order.order found in
    record {
      record_is = record_is;
      ready = (
        c.accepts_order.ensures.home c.if-not-accepts_order.false,
        subst (λ (entry : Entry). IsTrue (is_record entry)) (sym record_is) c.requires.form,
      );
      card_is = order-card c.args.issuer.now c.args.entry.now c.in-Order.order found;
    }
