-- No object so far has the tag.
use Rattle.std.proofs.Common.{◌≡◌, map, drop}
use Rattle.terminal_kernel.specs.Given.{value_of}
use Rattle.terminal_kernel.proofs.given.Data.get.Given as goal

abbrev pub invariant-loop-held : goal.invariant-loop-held
invariant-loop-held l =
    value_of l.tag (map (λ held. record { tag = held.tag; value = held.value.items }) (drop l.held-index l.held-items)) ≡ value_of l.tag l.self
