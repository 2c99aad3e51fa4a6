-- What was read so far is a prefix of the buffer.
use Rattle.std.proofs.Common.{◌≡◌, ◌-◌, ◌≤◌, min, length, IfSome, false}
use Rattle.issuer_base.specs.OutsideFaults.{CountsFaults}
use Rattle.issuer_base.specs.Stores.{BothTold}
use Rattle.journal_store.specs.Images.{OnlyReads}
use Rattle.journal_store.proofs.ReadSoFar.{HasRead}
use Rattle.journal_store.proofs.reading.read_from.Given as goal

abbrev pub invariant-loop-count : goal.invariant-loop-count
invariant-loop-count g l = record {
  within : l.count ≤ l.room;
  room_is : l.room ≡ min (length l.into) (g.S.Store.size l.store - l.at);
  size_is : g.S.Store.size l.store ≡ g.S.Store.size l.fn.store;
  room_stays : g.S.Store.room l.store ≡ g.S.Store.room l.fn.store;
  bytes_are : g.S.Store.bytes l.store ≡ g.S.Store.bytes l.fn.store;
  given : IfSome (g.S.Store.bytes l.fn.store) (HasRead l.at l.count l.into);
  disk : BothTold OnlyReads (g.S.Store.disk l.fn.store) (g.S.Store.disk l.store);
  counts : CountsFaults (g.S.Store.faults l.fn.store) (g.S.Store.faults l.store) false;
}

abbrev pub decreases-loop-count : goal.decreases-loop-count
decreases-loop-count g l = l.room - l.count
