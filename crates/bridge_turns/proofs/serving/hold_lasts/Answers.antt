-- One more waits, or there is no room for all.
use Rattle.std.proofs.Common.{◌≡◌, ◌++◌, ℕ, refl, subst, arith}
use Rattle.std.specs.List.{flat_map, range_with_len}
use Rattle.bridge_rule.specs.Bridges.{with_held}
use Rattle.bridge_turns.specs.Turns.{last_of, lasts}
use Rattle.bridge_turns.proofs.Holding.{held-more, none-for-all}
use Rattle.bridge_turns.proofs.serving.hold_lasts.Goals as goal

pub loop-shard-preserved : goal.loop-shard-preserved
loop-shard-preserved c =
    held-more c.args.bridge.now c.loop-shard.bridge c.hold_last.new.bridge c.loop-shard.shard c.loop-shard.invariant (c.in_default.ensures.held refl)

pub returns-in-Err-clause-refused : goal.returns-in-Err-clause-refused
unfolding lasts
returns-in-Err-clause-refused c =
    let none = c.in-Err.ensures.refused in
    (none.0, none-for-all c.args.bridge.now c.loop-shard.bridge c.loop-shard.shard 17 (omega arith) c.loop-shard.invariant none.1)

pub returns-clause-held : goal.returns-clause-held
unfolding lasts
returns-clause-held c ok =
    let at : c.loop-shard.shard ≡ 17 = omega arith in
    let start = c.args.bridge.now in
    subst (λ (n : ℕ). c.loop-shard.bridge ≡ with_held start (start.held ++ flat_map (last_of start.logs) (range_with_len 0 n))) at
    c.loop-shard.invariant
