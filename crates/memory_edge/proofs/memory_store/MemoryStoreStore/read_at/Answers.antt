-- A read keeps the disk.
use Rattle.std.proofs.Common.{ap}
use Rattle.memory_edge.specs.MemoryStores.{StoreState}
use Rattle.memory_edge.proofs.StoreCalls.{read-told}
use Rattle.memory_edge.proofs.memory_store.MemoryStoreStore.read_at.Goals as goal

pub returns-then-count_call-clause-disk : goal.returns-then-count_call-clause-disk
returns-then-count_call-clause-disk c = read-told c.args.self.now _ (ap (λ (store : StoreState). store.disk) c.self.view_is) c.self.invariant

pub returns-clause-disk : goal.returns-clause-disk
returns-clause-disk c = read-told c.args.self.now _ (ap (λ (store : StoreState). store.disk) c.self.view_is) c.self.invariant
