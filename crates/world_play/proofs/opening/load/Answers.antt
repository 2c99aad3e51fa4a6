-- The empty stores come back for want of memory alone.
use Rattle.std.proofs.Common.{Some, ap}
use Rattle.store_edge.specs.RoomStores.{RoomState}
use Rattle.world_play.proofs.EmptyBooks.{lacks_memory}
use Rattle.world_play.proofs.opening.load.Goals as goal

pub out_of_memory-requires : goal.out_of_memory-requires
out_of_memory-requires c =
    lacks_memory _ (λ (store : RoomState). Some store.held) _ _ c.args.issuer c.args.olds.now.items _ c.args.stores.items c.in-Err.field-0.shard
    c.in-Err.field-0.fault c.in-Err.field-0.stores.items (λ number store is. ap Some (c.requires.empty.0 number store is))
    (λ number store is. ap Some (c.requires.empty.1 number store is)) (c.in-Err.ensures.room c.requires.works) c.in-Err.ensures.stopped
