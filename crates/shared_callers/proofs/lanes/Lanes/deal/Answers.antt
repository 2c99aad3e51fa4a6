-- The line waits after the others.
use Rattle.std.proofs.Common.{sym, ◌∙◌}
use Rattle.shared_callers.proofs.lanes.Lanes.deal.Goals as goal

pub invariant_of-self-clause-rooms : goal.invariant_of-self-clause-rooms
invariant_of-self-clause-rooms g c = c.args.self.now.rooms ∙ sym c.deal.ensures.rooms.rooms

pub returns-clause-served : goal.returns-clause-served
returns-clause-served g c =
    λ lines answers due waiting has.
    let dealt = has.dealt in
    record {
      dealt = record {
        taken = dealt.taken;
        answers_are = dealt.answers_are;
        answered = dealt.answered;
        waits = c.deal.ensures.waiting lines waiting dealt.waits;
        dues = c.deal.ensures.due _ _ dealt.dues;
        had = dealt.had;
      };
    }
