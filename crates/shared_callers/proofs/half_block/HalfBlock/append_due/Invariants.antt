-- The first of the texts that were due are in the block.
use Rattle.std.proofs.Common.{◌≡◌, ℕ, ◌+◌, List}
use Rattle.shared_callers.specs.Halves.{HasDue, HasWaiting, HasSameRooms}
use Rattle.shared_callers.proofs.Writing.{AreAppended}
use Rattle.shared_callers.proofs.half_block.HalfBlock.append_due.Given as goal

abbrev pub invariant-loop-self : goal.invariant-loop-self
invariant-loop-self l = record {
  due : (taken due : List (List ℕ)) → HasDue l.fn.self taken due → AreAppended l.self taken due l.block.text.items;
  waiting : (before waiting : List (List ℕ)) → HasWaiting l.fn.self before waiting → HasWaiting l.self before waiting;
  count : l.block.lines + l.self.due ≡ l.fn.self.due;
  same : l.self.waiting ≡ l.fn.self.waiting;
  rooms : HasSameRooms l.fn.self l.self;
}

abbrev pub decreases-loop-self : goal.decreases-loop-self
decreases-loop-self l = l.self.due
