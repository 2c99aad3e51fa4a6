-- The last records of the first logs wait.
use Rattle.std.proofs.Common.{◌≡◌, ◌++◌}
use Rattle.std.specs.List.{flat_map, range_with_len}
use Rattle.bridge_rule.specs.Bridges.{with_held}
use Rattle.bridge_turns.specs.Turns.{last_of}
use Rattle.bridge_turns.proofs.serving.hold_lasts.Given as goal

abbrev pub invariant-loop-shard : goal.invariant-loop-shard
invariant-loop-shard l = l.bridge
    ≡ with_held l.initial.bridge (l.initial.bridge.held ++ flat_map (last_of l.initial.bridge.logs) (range_with_len 0 l.shard))
