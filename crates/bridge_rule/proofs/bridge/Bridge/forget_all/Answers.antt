-- One more log forgets.
use Rattle.std.proofs.Common.{◌<◌, ◌∙◌, length, length-set, arith}
use Rattle.bridge_rule.proofs.Forgetting.{forgotten_more}
use Rattle.bridge_rule.proofs.bridge.Bridge.forget_all.Goals as goal

pub loop-i-preserved : goal.loop-i-preserved
loop-i-preserved c =
    let before = c.loop-i.invariant in
    let within : c.loop-i.i < length c.loop-i.self-inside.logs.items = omega arith in
    record {
      machine = before.machine;
      last = before.last;
      role = before.role;
      held = before.held;
      room = before.room;
      long = length-set c.loop-i.self-inside.logs.items c.loop-i.i c.forget.new.self ∙ before.long;
      size = before.size;
      so_far = forgotten_more c.args.self.now.logs c.loop-i.self-inside.logs.items c.loop-i.i c.index_mut.result.now c.forget.new.self within
          before.long c.index_mut.ensures.value c.forget.ensures before.so_far;
    }
