-- How a truncation changes the disk.
use Rattle.std.proofs.Common.{ap, sym}
use Rattle.memory_edge.specs.MemoryStores.{StoreState}
use Rattle.memory_edge.proofs.StoreCalls.{cut-told, cut_failed-told}
use Rattle.memory_edge.proofs.memory_store.MemoryStoreStore.cut.Goals as goal

pub returns-in-Ok-clause-disk : goal.returns-in-Ok-clause-disk
returns-in-Ok-clause-disk c =
    cut-told c.args.self.now c.end_call-in-Ok.new.self _ _
    (ap (λ (store : StoreState). store.disk) c.self.view_is)
    c.self.invariant
    (ap (λ (store : StoreState). store.disk) c.end_call-in-Ok.ensures.called)
    c.args.len
    _
    c.requires
    c.end_call-in-Ok.ensures.failed
    c.in-Ok.ensures.ok

pub returns-then-is_next_listed-clause-disk : goal.returns-then-is_next_listed-clause-disk
returns-then-is_next_listed-clause-disk c =
    cut_failed-told c.args.self.now c.end_call.new.self _ _
    (ap (λ (store : StoreState). store.disk) c.self.view_is)
    c.self.invariant
    (ap (λ (store : StoreState). store.disk) c.end_call.ensures.called)
    c.args.len
    _
    c.end_call.ensures.failed
    (ap (λ (store : StoreState). store.disk) (sym c.self.view_is))

pub returns-in-Err-clause-disk : goal.returns-in-Err-clause-disk
returns-in-Err-clause-disk c =
    cut_failed-told c.args.self.now c.starve.new.self _ _
    (ap (λ (store : StoreState). store.disk) c.self.view_is)
    c.self.invariant
    (ap (λ (store : StoreState). store.disk) c.starve.ensures.starved)
    c.args.len
    _
    c.starve.ensures.failed
    c.in-Err.ensures.err
