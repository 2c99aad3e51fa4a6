-- The store has a longer part of the text.
use Rattle.std.proofs.Common.{◌+◌, ◌-◌, ◌≤◌, ℕ, List, IfSome, false}
use Rattle.issuer_base.specs.Stores.{BothTold}
use Rattle.shard_book.specs.Loads.{MovesText}
use Rattle.shard_book.specs.Migrating.{IsTextAfter, PassesMoving}
use Rattle.shard_book.specs.Versions.{IsPartOf}
use Rattle.shard_book.proofs.migrating.append_steps.Given as goal

abbrev pub invariant-steps : goal.invariant-steps
invariant-steps g l = record {
  within : g.S.Store.size l.store ≤ 3 + l.bytes;
  grows : g.S.Store.size l.fn.store ≤ g.S.Store.size l.store;
  part : (text : List ℕ) → IsTextAfter (g.S.Store.bytes l.fn.old) l.bytes text
      → IfSome (g.S.Store.bytes l.fn.store) (IsPartOf text) → IfSome (g.S.Store.bytes l.store) (IsPartOf text);
  passes : (text : List ℕ) → IsTextAfter (g.S.Store.bytes l.fn.old) l.bytes text
      → IfSome (g.S.Store.bytes l.fn.store) (IsPartOf text)
      → BothTold (PassesMoving text) (g.S.Store.disk l.fn.store) (g.S.Store.disk l.store);
  moves :
      MovesText g.S.Store.size g.S.Store.bytes g.S.Store.disk g.S.Store.room g.S.Store.faults (3 + l.bytes) false l.fn.old l.old l.fn.store l.store;
}

abbrev pub decreases-steps : goal.decreases-steps
decreases-steps g l = 3 + l.bytes - g.S.Store.size l.store
