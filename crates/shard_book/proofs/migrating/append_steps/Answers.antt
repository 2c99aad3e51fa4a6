-- One more step.
use Rattle.std.proofs.Common.{arith}
use Rattle.journal_store.proofs.ReadSoFar.{reads-none}
use Rattle.shard_book.proofs.BothStores.{moves-nothing, moves-on}
use Rattle.shard_book.proofs.Migration.{after-later, moving-none, moving-then}
use Rattle.shard_book.proofs.migrating.append_steps.Goals as goal

pub steps-init : goal.steps-init
steps-init g c = record {
  within = c.requires.lacks;
  grows = omega arith;
  part = λ text after part. part;
  passes = λ text after part. moving-none text _ _ (reads-none _);
  moves = moves-nothing g.S.Store _ _ _;
}

pub steps-preserved : goal.steps-preserved
steps-preserved g c =
    let before = c.steps.invariant in
    let grown = before.grows in
    let more = c.append_step.ensures.grows in
    record {
      within = c.in-Ok.ensures.size.1;
      grows = omega (arith, grown, more);
      part = λ text after was. c.append_step.ensures.part text (after-later _ _ _ text before.moves.old_read.bytes_are after) (before.part text after was);
      passes = λ text after was.
          moving-then text _ _ _ (before.passes text after was)
          (c.append_step.ensures.disk text (after-later _ _ _ text before.moves.old_read.bytes_are after) (before.part text after was));
      moves = moves-on g.S.Store _ _ _ _ _ _ _ _ before.moves c.in-Ok.ensures.stores;
    }

pub returns-in-Err-clause-disk : goal.returns-in-Err-clause-disk
returns-in-Err-clause-disk g c text after was =
    let before = c.steps.invariant in
    moving-then text _ _ _ (before.passes text after was)
    (c.append_step.ensures.disk text (after-later _ _ _ text before.moves.old_read.bytes_are after) (before.part text after was))

pub returns-in-Err-clause-stores : goal.returns-in-Err-clause-stores
returns-in-Err-clause-stores g c = moves-on g.S.Store _ _ _ _ _ _ _ _ c.steps.invariant.moves c.in-Err.ensures.stores
