-- None of the first replies is to the request.
use Rattle.std.proofs.Common.{◌≡◌, ◌<◌, ℕ, Some}
use Rattle.std.specs.List.{slice_get}
use Rattle.world_net.specs.declared.parts.Exchange.{Exchange}
use Rattle.world_model.proofs.falling.has_reply.Given as goal

abbrev pub invariant-loop-place : goal.invariant-loop-place
invariant-loop-place l =
    (exchange : Exchange) (place : ℕ) → place < l.place → slice_get l.sent place ≡ Some exchange → exchange.request ≡ l.request → ⊥
