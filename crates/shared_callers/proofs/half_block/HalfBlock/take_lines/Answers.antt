-- One line more was taken, or none is whole in hand.
use Rattle.std.proofs.Common.{ℕ, ◌++◌, ◌∷◌, [], List, length, ap, subst, refl, arith, ◌∙◌}
use Rattle.std.proofs.lemmas.List.{length-append, length-take}
use Rattle.issuer_base.specs.declared.limits.TheConstants.{KEPT_BYTES}
use Rattle.line_reader.proofs.WholeLines.{TakesInHand-no_call}
use Rattle.shared_callers.specs.Halves.{HasWaiting}
use Rattle.shared_callers.proofs.Writing.{taken-none, taken-last, taken-more, same-rooms}
use Rattle.shared_callers.proofs.half_block.HalfBlock.take_lines.Goals as goal

pub loop-reader-init : goal.loop-reader-init
loop-reader-init c = record {
  taken = λ before waiting are.
      taken-none c.args.self.now before waiting c.args.reader.now c.args.reader.now (TakesInHand-no_call c.args.reader.now) are;
  due = λ taken due are. are;
  same = refl;
  fewer = omega arith;
  read = omega arith;
  rooms = record { rooms = refl; room = refl };
}

pub deal-requires-clause-kept : goal.deal-requires-clause-kept
deal-requires-clause-kept c =
    let gives = c.take_in_hand.ensures.taken c.if-not-take_in_hand.false in
    let line_is = c.line.ensures ∙ gives.1.counted.in_hand in
    omega (arith, ap length line_is, length-take KEPT_BYTES gives.0)

pub loop-reader-preserved : goal.loop-reader-preserved
loop-reader-preserved c =
    let before = c.loop-reader.invariant in
    let gives = c.take_in_hand.ensures.taken c.if-not-take_in_hand.false in
    record {
      taken = λ lines waiting are.
          taken-more c.loop-reader.self c.deal.new.self lines waiting c.args.reader.now c.loop-reader.reader c.take_in_hand.new.self gives.0 gives.1
          (λ lines waiting waits. subst (λ (line : List ℕ). HasWaiting c.deal.new.self lines (waiting ++ line ∷ [])) c.line.ensures
          (c.deal.ensures.waiting lines waiting waits))
          (before.taken lines waiting are);
      due = λ taken due are. c.deal.ensures.due taken due (before.due taken due are);
      same = c.deal.ensures.counts.1 ∙ before.same;
      fewer = omega (
        arith,
        before.fewer,
        c.deal.ensures.counts.0,
        ap length gives.1.whole,
        length-append gives.0 (10 ∷ c.take_in_hand.new.self.ahead),
      );
      read = omega (arith, before.read, gives.1.counted.one_more);
      rooms = same-rooms c.args.self.now c.loop-reader.self c.deal.new.self before.rooms c.deal.ensures.rooms;
    }

pub returns-then-not-take_in_hand-clause-taken : goal.returns-then-not-take_in_hand-clause-taken
returns-then-not-take_in_hand-clause-taken c =
    λ before waiting are.
    let none = c.take_in_hand.ensures.none c.if-not-take_in_hand.true in
    let all = taken-last c.loop-reader.self before waiting c.args.reader.now c.loop-reader.reader c.take_in_hand.new.self none.1 none.2
    (c.loop-reader.invariant.taken before waiting are) in
    (all.taken, all.waits, all.in_hand)

pub returns-clause-taken : goal.returns-clause-taken
returns-clause-taken c =
    λ before waiting are.
    let all = c.loop-reader.invariant.taken before waiting are in
    (all.taken, all.waits, all.in_hand)

pub returns-then-not-take_in_hand-clause-counts : goal.returns-then-not-take_in_hand-clause-counts
returns-then-not-take_in_hand-clause-counts c =
    let before = c.loop-reader.invariant in
    let none = c.take_in_hand.ensures.none c.if-not-take_in_hand.true in (
      before.same,
      omega (arith, before.fewer, ap length none.1),
      omega (arith, before.read, none.2.same_lines),
    )
