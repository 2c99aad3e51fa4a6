-- One more journal is put, or it can't be read on, or the sink failed.
use Rattle.std.proofs.Common.{◌≡◌, ◌+◌, ◌<◌, length, set, subst, sym, refl, arith, Some, Err}
use Rattle.std.proofs.lemmas.Option.{slice_get_read}
use Rattle.std.specs.List.{slice_get}
use Rattle.issuer_base.proofs.ManyCalls.{CountsFaults-then, CountsFaults-no_call}
use Rattle.host_loading.specs.Loading.{AreOnlyRead}
use Rattle.journal_reader.specs.Filing.{CountAt}
use Rattle.journal_reader.specs.Exporting.{fails_at}
use Rattle.journal_reader.proofs.ExportedStores.{ArePut, counts-short, only-set, put-next, put-no_journal, puts-short, spared-short}
use Rattle.journal_reader.proofs.export.Exporter.put_journals.Given.{Over}
use Rattle.journal_reader.proofs.export.Exporter.put_journals.Goals.{After-put_journal}
use Rattle.journal_reader.proofs.export.Exporter.put_journals.Goals as goal

-- the store of the shard
store-is : (g : Over) (c : After-put_journal g)
    → slice_get c.loop-shard.stores.items c.loop-shard.shard ≡ Some c.index_mut-store.result.now
store-is g c =
    let within : c.from.result < length c.loop-shard.stores.items =
    omega (
      arith,
      c.loop-shard-test.true,
      c.shards-shard-end.ensures.count,
      c.from.ensures,
      c.requires.count,
      c.loop-shard.invariant.put.only.count_is,
    ) in
    subst (λ place. slice_get c.loop-shard.stores.items place ≡ Some c.index_mut-store.result.now) c.from.ensures
    (slice_get_read _ _ c.from.result _ refl within c.index_mut-store.ensures.value)

pub loop-shard-init : goal.loop-shard-init
loop-shard-init g c = record {
  put = put-no_journal g.S.Store c.args.stores.now.items _ _ c.requires.empty;
  stood = CountsFaults-no_call _;
}

pub loop-shard-preserved : goal.loop-shard-preserved
loop-shard-preserved g c =
    let before = (goal.at.loop-shard-preserved g c).After-put_journal in
    record {
      put = subst (λ place. ArePut g.S.Store c.args.stores.now.items
          (set c.loop-shard.stores.items place c.put_journal.new.store) (c.loop-shard.shard + 1)
          (g.W.Sink.held c.args.out.now) (g.W.Sink.held c.put_journal.new.out) c.put_journal.new.self.block.text.items)
          (sym c.from.ensures)
          (put-next g.S.Store c.args.stores.now.items c.loop-shard.stores.items c.loop-shard.shard _ _ _
          c.loop-shard.invariant.put c.index_mut-store.result.now c.put_journal.new.store
          (store-is g before) c.in-Ok.ensures.only_read _ _ _ c.in-Ok.ensures.put c.in-Ok.ensures.store_count);
      stood = CountsFaults-then _ _ _ _ _ c.loop-shard.invariant.stood c.in-Ok.ensures.sink_count;
    }

pub returns-in-Err-clause-put : goal.returns-in-Err-clause-put
returns-in-Err-clause-put g c =
    let before = (goal.at.returns-in-Err-clause-put g c).After-put_journal in
    puts-short g.S.Store c.args.stores.now.items c.loop-shard.stores.items c.loop-shard.shard _ _ _
    c.loop-shard.invariant.put c.index_mut-store.result.now c.put_journal.new.store
    (store-is g before) c.in-Err.ensures.only_read c.in-Err.fault _ _ _ c.in-Err.ensures.put

pub returns-in-Err-clause-only_read : goal.returns-in-Err-clause-only_read
returns-in-Err-clause-only_read g c =
    let before = (goal.at.returns-in-Err-clause-only_read g c).After-put_journal in
    subst (λ place. AreOnlyRead g.S.Store.size g.S.Store.bytes g.S.Store.disk g.S.Store.room c.args.stores.now.items
    (set c.loop-shard.stores.items place c.put_journal.new.store)) (sym c.from.ensures)
    (only-set g.S.Store c.args.stores.now.items c.loop-shard.stores.items c.loop-shard.shard _ _ _
    c.loop-shard.invariant.put c.index_mut-store.result.now c.put_journal.new.store
    (store-is g before) c.in-Err.ensures.only_read)

pub returns-in-Err-clause-store_count : goal.returns-in-Err-clause-store_count
returns-in-Err-clause-store_count g c =
    let before = (goal.at.returns-in-Err-clause-store_count g c).After-put_journal in
    subst (λ place. CountAt g.S.Store.faults c.args.stores.now.items
    (set c.loop-shard.stores.items place c.put_journal.new.store) (fails_at (Err c.in-Err.fault))) (sym c.from.ensures)
    (counts-short g.S.Store c.args.stores.now.items c.loop-shard.stores.items c.loop-shard.shard _ _ _
    c.loop-shard.invariant.put c.index_mut-store.result.now c.put_journal.new.store
    (store-is g before) c.in-Err.ensures.only_read c.in-Err.fault _ _ _ c.in-Err.ensures.put
    c.in-Err.ensures.store_count)

pub returns-in-Err-clause-exact : goal.returns-in-Err-clause-exact
returns-in-Err-clause-exact g c =
    let before = (goal.at.returns-in-Err-clause-exact g c).After-put_journal in
    spared-short g.S.Store c.args.stores.now.items c.loop-shard.stores.items c.loop-shard.shard _ _ _
    c.loop-shard.invariant.put c.index_mut-store.result.now c.put_journal.new.store
    (store-is g before) c.in-Err.ensures.only_read c.args.issuer.now c.in-Err.fault _ _ _
    (omega (arith, c.loop-shard-test.true, c.shards-shard-end.ensures.count)) c.in-Err.ensures.put
    c.in-Err.ensures.exact
