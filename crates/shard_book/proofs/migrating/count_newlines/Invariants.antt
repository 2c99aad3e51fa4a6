-- The newlines of what was read so far are counted.
use Rattle.std.proofs.Common.{◌≡◌, ◌-◌, ◌≤◌, take, IfSome, false}
use Rattle.shard_book.specs.Loading.{newlines_in}
use Rattle.shard_book.specs.Loads.{Reads}
use Rattle.shard_book.proofs.migrating.count_newlines.Given as goal

abbrev pub invariant-parts : goal.invariant-parts
invariant-parts g l = record {
  within : l.at ≤ l.end;
  few : l.lines ≤ l.at;
  lines_are : IfSome (g.S.Store.bytes l.fn.store) (λ told. l.lines ≡ newlines_in (take l.at told));
  read : Reads g.S.Store.size g.S.Store.bytes g.S.Store.disk g.S.Store.room g.S.Store.faults false l.fn.store l.store;
}

abbrev pub decreases-parts : goal.decreases-parts
decreases-parts g l = l.end - l.at
