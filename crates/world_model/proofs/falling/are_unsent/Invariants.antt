-- No reply to a request of the first records was sent.
use Rattle.std.proofs.Common.{◌≡◌, ◌<◌, ℕ, Some, Contains}
use Rattle.std.specs.List.{slice_get}
use Rattle.issuer_base.specs.declared.answer.Reply.{Reply}
use Rattle.issuer_base.specs.declared.entry.Entry.TheVariants.{Decided}
use Rattle.world_net.specs.declared.parts.Exchange.{Exchange}
use Rattle.world_model.proofs.falling.are_unsent.Given as goal

abbrev pub invariant-loop-place : goal.invariant-loop-place
invariant-loop-place l =
    (exchange : Exchange) (place : ℕ) (reply : Reply) → place < l.place → Contains l.sent exchange
    → slice_get l.lost place ≡ Some (Decided exchange.request reply) → ⊥
