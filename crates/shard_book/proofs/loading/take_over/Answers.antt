-- Memory ran out before the stores were read.
use Rattle.std.proofs.Common.{refl}
use Rattle.journal_store.proofs.ReadSoFar.{reads-none}
use Rattle.shard_book.specs.declared.replay.LoadFault.TheVariants.{NoMemory}
use Rattle.shard_book.specs.declared.replay.TakenOver.{TakenOver}
use Rattle.shard_book.proofs.BothStores.{takes-nothing}
use Rattle.shard_book.proofs.LoadStops.{stops-read}
use Rattle.shard_book.proofs.loading.take_over.Goals as goal

pub returns-then-len-gt-MAX_STORE_BYTES-clause-ends : goal.returns-then-len-gt-MAX_STORE_BYTES-clause-ends
returns-then-len-gt-MAX_STORE_BYTES-clause-ends g c = stops-read c.args.issuer.now c.args.shard _ _ _ _ _ NoMemory tt refl (reads-none _)

pub returns-then-len-gt-MAX_STORE_BYTES-clause-stores : goal.returns-then-len-gt-MAX_STORE_BYTES-clause-stores
returns-then-len-gt-MAX_STORE_BYTES-clause-stores g c = takes-nothing g.S.Store TakenOver _ _

pub returns-in_default-clause-ends : goal.returns-in_default-clause-ends
returns-in_default-clause-ends g c = stops-read c.args.issuer.now c.args.shard _ _ _ _ _ NoMemory tt refl (reads-none _)

pub returns-in_default-clause-stores : goal.returns-in_default-clause-stores
returns-in_default-clause-stores g c = takes-nothing g.S.Store TakenOver _ _

pub returns-in_default-buffer-clause-ends : goal.returns-in_default-buffer-clause-ends
returns-in_default-buffer-clause-ends g c = stops-read c.args.issuer.now c.args.shard _ _ _ _ _ NoMemory tt refl (reads-none _)

pub returns-in_default-buffer-clause-stores : goal.returns-in_default-buffer-clause-stores
returns-in_default-buffer-clause-stores g c = takes-nothing g.S.Store TakenOver _ _

pub returns-in_default-buffer-2-clause-ends : goal.returns-in_default-buffer-2-clause-ends
returns-in_default-buffer-2-clause-ends g c = stops-read c.args.issuer.now c.args.shard _ _ _ _ _ NoMemory tt refl (reads-none _)

pub returns-in_default-buffer-2-clause-stores : goal.returns-in_default-buffer-2-clause-stores
returns-in_default-buffer-2-clause-stores g c = takes-nothing g.S.Store TakenOver _ _

pub returns-in_default-new-clause-ends : goal.returns-in_default-new-clause-ends
returns-in_default-new-clause-ends g c = stops-read c.args.issuer.now c.args.shard _ _ _ _ _ NoMemory tt refl (reads-none _)

pub returns-in_default-new-clause-stores : goal.returns-in_default-new-clause-stores
returns-in_default-new-clause-stores g c = takes-nothing g.S.Store TakenOver _ _
