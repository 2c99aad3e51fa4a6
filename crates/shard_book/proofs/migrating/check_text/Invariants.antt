-- The store agrees with the text so far.
use Rattle.std.proofs.Common.{◌≡◌, ◌-◌, ◌≤◌, ℕ, List, take, IfSome, false}
use Rattle.shard_book.specs.Loads.{ReadsBoth}
use Rattle.shard_book.specs.Migrating.{IsTextAfter}
use Rattle.shard_book.proofs.migrating.check_text.Given as goal

abbrev pub invariant-parts : goal.invariant-parts
invariant-parts g l = record {
  within : l.at ≤ l.end;
  agree : (text : List ℕ) → IsTextAfter (g.S.Store.bytes l.fn.old) l.bytes text
      → IfSome (g.S.Store.bytes l.fn.store) (λ told. take l.at told ≡ take l.at text);
  read : ReadsBoth g.S.Store.size g.S.Store.bytes g.S.Store.disk g.S.Store.room g.S.Store.faults false l.fn.old l.old l.fn.store l.store;
}

abbrev pub decreases-parts : goal.decreases-parts
decreases-parts g l = l.end - l.at
