-- How an append changes the disk.
use Rattle.std.proofs.Common.{ap}
use Rattle.memory_edge.specs.MemoryStores.{StoreState}
use Rattle.memory_edge.proofs.StoreCalls.{append-told, append_starved-told}
use Rattle.memory_edge.proofs.memory_store.MemoryStoreStore.append.Goals as goal

pub returns-in-Ok-clause-disk : goal.returns-in-Ok-clause-disk
returns-in-Ok-clause-disk c =
    append-told c.args.self.now c.end_call.new.self _ _
    (ap (λ (store : StoreState). store.disk) c.self.view_is)
    c.self.invariant
    (ap (λ (store : StoreState). store.disk) c.end_call.ensures.called)
    c.args.piece.now
    _
    _
    c.append_fails-fails.result
    c.append_fails-fails.ensures
    c.end_call.ensures.failed
    c.taken-taken.ensures
    c.in-Ok.ensures.ok

pub returns-in-Err-clause-disk : goal.returns-in-Err-clause-disk
returns-in-Err-clause-disk c =
    append_starved-told c.args.self.now c.starve.new.self _ _
    (ap (λ (store : StoreState). store.disk) c.self.view_is)
    c.self.invariant
    (ap (λ (store : StoreState). store.disk) c.starve.ensures.starved)
    c.args.piece.now
    _
    c.starve.ensures.failed
    c.in-Err.ensures.err
