-- One store more.
use Rattle.std.proofs.Common.{rules, subst, sym, ◌∙◌}
use Rattle.world_play.specs.Room.{IsOpened}
use Rattle.world_play.proofs.Rooms.{opened-more, opened-new}
use Rattle.world_play.proofs.opening.stores.Goals as goal

pub loop-shard-preserved : goal.loop-shard-preserved
loop-shard-preserved c = record {
  opened = rw c.push_reserved.ensures.items (opened-more c.args.cards c.args.steps c.loop-shard.stores.items _ c.loop-shard.invariant.opened
      (subst (λ shard. IsOpened c.args.cards c.args.steps shard c.in_ok-new.field-0) (sym c.loop-shard.invariant.count)
      (opened-new c.args.cards c.args.steps c.loop-shard.shard _ c.in_ok-new.field-0 c.in_ok-new.ensures (c.from-in-loop-shard.ensures ∙ c.steps_of.ensures))));
  count = search rules;
  room = search rules;
}
