-- The logs of the first counts are there.
use Rattle.std.proofs.Common.{◌≡◌, map, take}
use Rattle.bridge_rule.specs.Logs.{new_log}
use Rattle.bridge_rule.proofs.bridge.new_logs.Given as goal

abbrev pub invariant-loop-count : goal.invariant-loop-count
invariant-loop-count l = l.logs.items ≡ map (λ count. new_log count l.room) (take l.count-index l.counts)
