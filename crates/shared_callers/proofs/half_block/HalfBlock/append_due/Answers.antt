-- One text more is in the block, and at last all are.
use Rattle.std.proofs.Common.{rules, refl, ◌∙◌}
use Rattle.shared_callers.proofs.Writing.{appended-none, appended-more, appended-all, same-rooms}
use Rattle.shared_callers.proofs.half_block.HalfBlock.append_due.Goals as goal

pub loop-self-init : goal.loop-self-init
loop-self-init c = record {
  due = λ taken due are. appended-none c.args.self.now taken due c.args.block.now.text.items c.requires.0 are;
  waiting = λ before waiting are. are;
  count = search rules;
  same = refl;
  rooms = record { rooms = refl; room = refl };
}

pub loop-self-preserved : goal.loop-self-preserved
loop-self-preserved c =
    let before = c.loop-self.invariant in
    record {
      due = λ taken due are.
          appended-more c.loop-self.self c.append_next.new.self taken due c.loop-self.block.text.items c.append_next.new.block.text.items
          c.append_next.ensures.due (before.due taken due are);
      waiting = λ lines waiting are. c.append_next.ensures.waiting lines waiting (before.waiting lines waiting are);
      count = search rules;
      same = c.append_next.ensures.counts.1 ∙ before.same;
      rooms = same-rooms c.args.self.now c.loop-self.self c.append_next.new.self before.rooms c.append_next.ensures.rooms;
    }

pub returns-clause-due : goal.returns-clause-due
returns-clause-due c =
    λ taken due are.
    appended-all c.loop-self.self taken due c.loop-self.block.text.items (search rules) (c.loop-self.invariant.due taken due are)
