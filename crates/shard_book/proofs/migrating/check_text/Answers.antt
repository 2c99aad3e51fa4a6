-- One more part of both agrees.
use Rattle.std.proofs.Common.{Bool, ℕ, arith, subst, false}
use Rattle.shard_book.specs.Loads.{ReadsBoth}
use Rattle.shard_book.proofs.BothStores.{both-nothing, both-on, same-reason}
use Rattle.shard_book.proofs.Migration.{after-later, agree-none, agree-more}
use Rattle.shard_book.proofs.migrating.check_text.Goals as goal

pub parts-init : goal.parts-init
parts-init g c = record {
  within = omega arith;
  agree = λ text after. agree-none _ text;
  read = both-nothing g.S.Store _ _;
}

pub parts-preserved : goal.parts-preserved
parts-preserved g c =
    let before = c.parts.invariant in
    let some = c.in-Ok.ensures.some in
    let size = before.read.read.size_is in
    record {
      within = omega (arith, some.1, some.2, size);
      agree = λ text after.
          agree-more _ _ c.parts.at c.in-Ok.count text before.read.read.bytes_are (before.agree text after)
          (c.in-Ok.ensures.agree text (after-later _ _ _ text before.read.old_read.bytes_are after));
      read = both-on g.S.Store false _ _ _ _ _ _ before.read c.in-Ok.ensures.read;
    }

pub returns-in-Err-clause-read : goal.returns-in-Err-clause-read
returns-in-Err-clause-read g c =
    both-on g.S.Store _ _ _ _ _ _ _ c.parts.invariant.read
    (subst (λ (failed : Bool). ReadsBoth g.S.Store.size g.S.Store.bytes g.S.Store.disk g.S.Store.room g.S.Store.faults failed c.parts.old c.check_part.new.old
    c.parts.store c.check_part.new.store) (same-reason ℕ (Unit {0}) c.in-Err.fault) c.in-Err.ensures.read)
