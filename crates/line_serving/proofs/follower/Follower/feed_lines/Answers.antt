-- Feeding goes on by a line, and ends in one of its ways.
use Rattle.std.proofs.Common.{Ok, inr, ⊎_elim, refl, rules, ◌∙◌}
use Rattle.standby_node.proofs.Shards.{shards-same, shards-then}
use Rattle.line_serving.specs.declared.follower.Followed.TheVariants.{All, ReadFault, TooLong}
use Rattle.line_serving.proofs.Feeding.{fed-more, fed-none, fed-stopped, follows-end, follows-fault, follows-limit}
use Rattle.line_serving.proofs.Feeding.{follows-rest, kept-ended, kept-stopped, line-unbroken, waits-none}
use Rattle.line_serving.proofs.follower.Follower.feed_lines.Goals as goal

pub loop-self-init : goal.loop-self-init
loop-self-init g c = record {
  fed =
      fed-none c.args.issuer.now c.args.node.now _ _ _ c.requires.new.0.reads_first c.requires.new.0.none_waits
      c.requires.shards;
  keeps = shards-same c.args.issuer.now _ (Ok tt) c.requires.shards (λ number. refl);
  may = record {
    live = c.requires.new.1;
    shards = c.requires.shards;
    waits = waits-none c.args.issuer.now c.args.self.now.ahead c.requires.new.0.none_waits;
  };
  idle = inr c.requires.new.0.none_waits;
  stood = refl;
  block = refl;
}

pub take_line-requires-clause-line : goal.take_line-requires-clause-line
take_line-requires-clause-line g c = line-unbroken _ _ _ _ (c.in-Line.ensures.found.line refl)

pub loop-self-preserved : goal.loop-self-preserved
loop-self-preserved g c = record {
  fed =
      fed-more c.args.issuer.now c.args.node.now _ _ _ _ _ _ _ _ _ c.loop-self.invariant.fed
      (c.in-Line.ensures.found.line refl) _ c.in-Ok.ensures.same.0 c.in-Ok.ensures.taken;
  keeps = shards-then c.args.issuer.now _ _ _ (Ok tt) c.loop-self.invariant.keeps c.in-Ok.ensures.kept.keeps;
  may = record {
    live = let is = c.in-Ok.ensures.kept.live_is in search (rules, is);
    shards = c.in-Ok.ensures.kept.keeps.shards;
    waits = c.in-Ok.ensures.room;
  };
  idle = c.in-Ok.ensures.idle;
  stood = c.in-Line.ensures.count.counted ∙ c.loop-self.invariant.stood;
  block = c.in-Ok.ensures.same.1 ∙ c.loop-self.invariant.block;
}

pub returns-in-Err-clause-followed : goal.returns-in-Err-clause-followed
returns-in-Err-clause-followed g c =
    fed-stopped c.args.issuer.now c.args.node.now _ _ _ _ _ _ c.take_line.new.self.ahead _ _ c.loop-self.invariant.fed
    (c.in-Line.ensures.found.line refl) c.in-Err.fault _ c.stopped.ensures c.in-Err.ensures.taken

pub returns-in-Err-clause-kept : goal.returns-in-Err-clause-kept
returns-in-Err-clause-kept g c =
    kept-stopped c.args.issuer.now _ _ _ c.loop-self.invariant.keeps _ c.in-Err.ensures.kept.keeps _ c.stopped.ensures

pub returns-in-Rest-clause-followed : goal.returns-in-Rest-clause-followed
returns-in-Rest-clause-followed g c =
    ⊎_elim
    (λ rest. follows-rest c.args.issuer.now c.args.node.now _ _ _ _ _ _ _ _ c.loop-self.invariant.fed _
    c.take_lines-taken.ensures.fed _ (c.read_on.ensures.found.rest rest) c.ended.ensures)
    (λ end. follows-end c.args.issuer.now c.args.node.now _ _ _ _ _ _ _ _ c.loop-self.invariant.fed _
    c.take_lines-taken.ensures.fed _ (c.read_on.ensures.found.end end) c.ended.ensures)
    c.in-Rest.is

pub returns-in-Rest-clause-kept : goal.returns-in-Rest-clause-kept
returns-in-Rest-clause-kept g c =
    kept-ended c.args.issuer.now _ _ _ c.loop-self.invariant.keeps _ c.take_lines-taken.ensures.kept.keeps All refl _
    c.ended.ensures

pub returns-in-Fault-clause-followed : goal.returns-in-Fault-clause-followed
returns-in-Fault-clause-followed g c =
    follows-fault c.args.issuer.now c.args.node.now _ _ _ _ _ _ _ _ c.loop-self.invariant.fed _
    c.take_lines-taken-in-Fault.ensures.fed _ (c.in-Fault.ensures.found.fault refl) c.ended-in-Fault.ensures

pub returns-in-Fault-clause-kept : goal.returns-in-Fault-clause-kept
returns-in-Fault-clause-kept g c =
    kept-ended c.args.issuer.now _ _ _ c.loop-self.invariant.keeps _ c.take_lines-taken-in-Fault.ensures.kept.keeps
    ReadFault refl _ c.ended-in-Fault.ensures

pub returns-in-TooLong-clause-followed : goal.returns-in-TooLong-clause-followed
returns-in-TooLong-clause-followed g c =
    follows-limit c.args.issuer.now c.args.node.now _ _ _ _ _ _ _ _ c.loop-self.invariant.fed _
    c.take_lines-taken-in-TooLong.ensures.fed _ (c.in-TooLong.ensures.found.too_long refl) _ (search rules)
    c.ended-in-TooLong.ensures

pub returns-in-TooLong-clause-kept : goal.returns-in-TooLong-clause-kept
returns-in-TooLong-clause-kept g c =
    kept-ended c.args.issuer.now _ _ _ c.loop-self.invariant.keeps _ c.take_lines-taken-in-TooLong.ensures.kept.keeps
    (TooLong _) refl _ c.ended-in-TooLong.ensures
