-- The records so far are those of the lines so far.
use Rattle.std.proofs.Common.{◌-◌, length}
use Rattle.line_checks.specs.declared.lines_ahead.TheConstants.{MOST_AHEAD}
use Rattle.shard_book.specs.ReadAhead.{AreLookedUp, AreNext}
use Rattle.shard_book.proofs.ahead.Ahead.read_lines.Given as goal

abbrev pub invariant-lines : goal.invariant-lines
invariant-lines l = record {
  next : AreNext l.text l.from l.self.entries l.end;
  found : AreLookedUp l.issuer l.self;
}

abbrev pub decreases-lines : goal.decreases-lines
decreases-lines l = MOST_AHEAD - length l.self.entries
