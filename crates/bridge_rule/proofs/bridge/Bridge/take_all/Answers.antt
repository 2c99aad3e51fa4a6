-- One more record is taken.
use Rattle.std.proofs.Common.{◌≡◌, ◌<◌, ◌∙◌, sym, length, get_or, arith, length-set, subst}
use Rattle.bridge_rule.proofs.Taking.{taken_once}
use Rattle.bridge_rule.proofs.bridge.Bridge.take_all.Goals as goal

pub loop-i-preserved : goal.loop-i-preserved
loop-i-preserved c =
    let before = c.loop-i.invariant in
    let one = c.index-records-i.result in
    let within : c.loop-i.i < length c.args.records.now = c.loop-i-test.true in
    let placed = c.requires.placed c.loop-i.i one within in
    let shard : c.from.result ≡ one.shard = c.from.ensures in
    let one_is : one ≡ get_or c.args.records.now c.loop-i.i one = c.index-records-i.is in
    let below : one.shard < 17 = subst (λ p. p.shard < 17) (sym one_is) placed.0 in
    record {
      machine = before.machine;
      last = before.last;
      role = before.role;
      held = before.held;
      room = before.room;
      long = length-set c.loop-i.steps c.loop-i.i c.take.result ∙ before.long;
      logs = length-set c.loop-i.self-inside.logs.items c.from.result c.take.new.self ∙ before.logs;
      taken = taken_once c.args.self.now.logs c.loop-i.self-inside.logs.items c.args.records.now c.loop-i.steps c.loop-i.i one within before.long
          one_is before.taken c.from.result c.index_mut.result.now c.take.new.self c.take.result shard (omega arith) c.index_mut.ensures.value
          c.take.ensures.log c.take.ensures.step;
    }
