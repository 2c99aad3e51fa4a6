-- The row's scripts change by the decision, which is stored in its ATC's slot.
use Rattle.std.proofs.Common.{sym, subst}
use Rattle.card_history.specs.declared.decision.Decision.{Decision}
use Rattle.row_core.specs.CardRow.{CardRow}
use Rattle.row_core.specs.Launching.{TakesOff}
use Rattle.row_core.proofs.RowLemmas.{stands-next}
use Rattle.row_core.proofs.row.Row.apply.Goals as goal

pub returns : goal.returns
returns c = λ card history stands next.
    let before = c.args.self.now in
    let decision : Decision = record { request = c.args.request.now; reply = c.args.reply.now; place = c.args.place } in
    stands-next card before _ history decision c.keep.new.self
    (subst (λ (after : CardRow). TakesOff before after c.args.request.now) (sym c.self.view_is) c.take_off.ensures)
    c.keep.ensures
    stands
    next
