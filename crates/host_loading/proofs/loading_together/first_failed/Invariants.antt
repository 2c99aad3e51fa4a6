-- No shard so far has a fault.
use Rattle.std.proofs.Common.{◌≡◌, None}
use Rattle.std.specs.List.{AllWithin}
use Rattle.host_loading.specs.Slots.{fault_in}
use Rattle.host_loading.proofs.loading_together.first_failed.Given as goal

abbrev pub invariant-loop-number : goal.invariant-loop-number
invariant-loop-number g l = AllWithin (λ slot. fault_in slot ≡ None) l.slots 0 l.number
