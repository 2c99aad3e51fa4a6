-- One more journal is filed, or it isn't.
use Rattle.std.proofs.Common.{◌≡◌, ◌+◌, ◌<◌, length, set, subst, sym, refl, arith, Some, Err}
use Rattle.std.proofs.lemmas.Option.{slice_get_read}
use Rattle.std.specs.List.{slice_get}
use Rattle.host_loading.specs.Loading.{AreOnlyRead}
use Rattle.journal_reader.specs.declared.filing.NotFiled.{NotFiled}
use Rattle.journal_reader.specs.Filing.{CountAt, fails_at}
use Rattle.journal_reader.proofs.FiledStores.{AreFiled, are-more, are-none, counts-failed, files-before, only-set, spares}
use Rattle.journal_reader.proofs.filing.file_journals.Given.{Over}
use Rattle.journal_reader.proofs.filing.file_journals.Goals.{After-file_journal}
use Rattle.journal_reader.proofs.filing.file_journals.Goals as goal

-- the store of the shard
store-is : (g : Over) (c : After-file_journal g)
    → slice_get c.loop-shard.stores.items c.loop-shard.shard ≡ Some c.index_mut-store.result.now
store-is g c =
    let within : c.from.result < length c.loop-shard.stores.items =
    omega (
      arith,
      c.loop-shard-test.true,
      c.shards-shard-end.ensures.count,
      c.from.ensures,
      c.requires.count,
      c.loop-shard.invariant.filed.only.count_is,
    ) in
    subst (λ place. slice_get c.loop-shard.stores.items place ≡ Some c.index_mut-store.result.now) c.from.ensures
    (slice_get_read _ _ c.from.result _ refl within c.index_mut-store.ensures.value)

pub loop-shard-init : goal.loop-shard-init
loop-shard-init g c =
    record { filed = are-none g.S.Store c.args.issuer.now c.args.stores.now.items c.args.book.now c.requires.empty }

pub loop-shard-preserved : goal.loop-shard-preserved
loop-shard-preserved g c =
    let before = (goal.at.loop-shard-preserved g c).After-file_journal in
    record {
      filed = subst (λ place. AreFiled g.S.Store c.args.issuer.now c.args.stores.now.items
          (set c.loop-shard.stores.items place c.file_journal.new.store) (c.loop-shard.shard + 1) c.file_journal.new.book)
          (sym c.from.ensures)
          (are-more g.S.Store c.args.issuer.now c.args.stores.now.items c.loop-shard.stores.items c.loop-shard.shard
          c.loop-shard.book c.loop-shard.invariant.filed c.index_mut-store.result.now c.file_journal.new.store
          (store-is g before) c.in-Ok.ensures.only_read c.file_journal.new.book c.in-Ok.ensures.filed
          c.in-Ok.ensures.before c.in-Ok.ensures.count);
    }

pub returns-in-Err-clause-only_read : goal.returns-in-Err-clause-only_read
returns-in-Err-clause-only_read g c =
    let before = (goal.at.returns-in-Err-clause-only_read g c).After-file_journal in
    subst (λ place. AreOnlyRead g.S.Store.size g.S.Store.bytes g.S.Store.disk g.S.Store.room c.args.stores.now.items
    (set c.loop-shard.stores.items place c.file_journal.new.store)) (sym c.from.ensures)
    (only-set g.S.Store c.args.issuer.now c.args.stores.now.items c.loop-shard.stores.items c.loop-shard.shard
    c.loop-shard.book c.loop-shard.invariant.filed c.index_mut-store.result.now c.file_journal.new.store
    (store-is g before) c.in-Err.ensures.only_read)

pub returns-in-Err-clause-count : goal.returns-in-Err-clause-count
returns-in-Err-clause-count g c =
    let before = (goal.at.returns-in-Err-clause-count g c).After-file_journal in
    let none : NotFiled = record { fault = c.in-Err.fault; shard = c.loop-shard.shard } in
    subst (λ place. CountAt g.S.Store.faults c.args.stores.now.items
    (set c.loop-shard.stores.items place c.file_journal.new.store) (fails_at {X = Unit {0}} (Err none))) (sym c.from.ensures)
    (counts-failed g.S.Store c.args.issuer.now c.args.stores.now.items c.loop-shard.stores.items c.loop-shard.shard
    c.loop-shard.book c.loop-shard.invariant.filed c.index_mut-store.result.now c.file_journal.new.store
    (store-is g before) c.in-Err.ensures.only_read c.in-Err.fault none refl _ refl c.in-Err.ensures.count)

pub returns-in-Err-clause-stopped : goal.returns-in-Err-clause-stopped
returns-in-Err-clause-stopped g c =
    let before = (goal.at.returns-in-Err-clause-stopped g c).After-file_journal in
    let none : NotFiled = record { fault = c.in-Err.fault; shard = c.loop-shard.shard } in
    files-before g.S.Store c.args.issuer.now c.args.stores.now.items c.loop-shard.stores.items c.loop-shard.shard
    c.loop-shard.book c.loop-shard.invariant.filed c.index_mut-store.result.now c.file_journal.new.store
    (store-is g before) c.in-Err.ensures.only_read c.in-Err.fault none refl c.file_journal.new.book
    c.in-Err.ensures.stopped

pub returns-in-Err-clause-exact : goal.returns-in-Err-clause-exact
returns-in-Err-clause-exact g c =
    let before = (goal.at.returns-in-Err-clause-exact g c).After-file_journal in
    let none : NotFiled = record { fault = c.in-Err.fault; shard = c.loop-shard.shard } in (
      omega (arith, c.loop-shard-test.true, c.shards-shard-end.ensures.count),
      spares g.S.Store c.args.issuer.now c.args.stores.now.items c.loop-shard.stores.items c.loop-shard.shard
          c.loop-shard.book c.loop-shard.invariant.filed c.index_mut-store.result.now c.file_journal.new.store
          (store-is g before) c.in-Err.ensures.only_read c.in-Err.fault none refl c.in-Err.ensures.exact,
    )
