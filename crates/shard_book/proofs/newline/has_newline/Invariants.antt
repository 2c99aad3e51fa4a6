-- What was read so far has no newline.
use Rattle.std.proofs.Common.{◌-◌, ◌≤◌, take, drop, IfSome, false}
use Rattle.journal_rec.specs.RecordText.{IsUnbroken}
use Rattle.shard_book.specs.Loads.{Reads}
use Rattle.shard_book.proofs.newline.has_newline.Given as goal

abbrev pub invariant-parts : goal.invariant-parts
invariant-parts g l = record {
  above : l.from ≤ l.at;
  within : l.at ≤ g.S.Store.size l.store;
  read : Reads g.S.Store.size g.S.Store.bytes g.S.Store.disk g.S.Store.room g.S.Store.faults false l.fn.store l.store;
  passed : IfSome (g.S.Store.bytes l.fn.store) (λ text. IsUnbroken (take (l.at - l.from) (drop l.from text)));
}

abbrev pub decreases-parts : goal.decreases-parts
decreases-parts g l = g.S.Store.size l.store - l.at
