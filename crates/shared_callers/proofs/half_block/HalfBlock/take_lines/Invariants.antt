-- The lines so far were taken, and wait.
use Rattle.std.proofs.Common.{◌≡◌, ℕ, ◌+◌, ◌-◌, ◌≤◌, List, length}
use Rattle.shared_callers.specs.Halves.{HasDue, HasWaiting, HasSameRooms}
use Rattle.shared_callers.proofs.Writing.{AreTaken}
use Rattle.shared_callers.proofs.half_block.HalfBlock.take_lines.Given as goal

abbrev pub invariant-loop-reader : goal.invariant-loop-reader
invariant-loop-reader l = record {
  taken : (before waiting : List (List ℕ)) → HasWaiting l.fn.self before waiting → AreTaken l.self before waiting l.fn.reader l.reader;
  due : (taken due : List (List ℕ)) → HasDue l.fn.self taken due → HasDue l.self taken due;
  same : l.self.due ≡ l.fn.self.due;
  fewer : l.self.waiting + length l.reader.ahead ≤ l.fn.self.waiting + length l.fn.reader.ahead;
  read : l.fn.reader.lines ≤ l.reader.lines;
  rooms : HasSameRooms l.fn.self l.self;
}

abbrev pub decreases-loop-reader : goal.decreases-loop-reader
decreases-loop-reader l = l.self.room - l.self.waiting
