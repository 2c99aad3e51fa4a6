-- A shard with enough records may be truncated exactly if no reply to a lost one was sent.
use Rattle.std.proofs.Common.{◌≡◌, ◌↔◌, ℕ, List, Some, Contains, IsTrue, subst}
use Rattle.std.proofs.lemmas.List.{take_rest}
use Rattle.std.specs.List.{slice_get}
use Rattle.issuer_base.specs.declared.answer.Reply.{Reply}
use Rattle.issuer_base.specs.declared.entry.Entry.{Entry}
use Rattle.issuer_base.specs.declared.entry.Entry.TheVariants.{Decided}
use Rattle.world_net.specs.declared.parts.Exchange.{Exchange}
use Rattle.world_model.proofs.Truncated.{lost-unsent}
use Rattle.world_model.proofs.falling.can_truncate.Goals as goal

pub returns-then-count-history : goal.returns-then-count-history
returns-then-count-history c =
    let history = c.history-history.result.now in
    lost-unsent c.args.sent.now c.args.shard.now c.args.count history c.are_unsent.result c.history-history.ensures c.if-count-history.true
    (subst (λ (lost : List Entry). IsTrue c.are_unsent.result ↔ ((exchange : Exchange) (place : ℕ) (reply : Reply) → Contains c.args.sent.now exchange
    → slice_get lost place ≡ Some (Decided exchange.request reply) → ⊥)) (take_rest history c.args.count) c.are_unsent.ensures)
