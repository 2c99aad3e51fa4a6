-- Each shard opens with the log of the history that it was loaded with.
use Rattle.shared_shards.proofs.OpeningLemmas.{logs-open}
use Rattle.shared_shards.proofs.opening.opening_logs.Goals as goal

pub shown-requires : goal.shown-requires
shown-requires g c = logs-open c.args.issuer.now c.args.olds.now.value.items c.args.stores.now.value.items c.args.shards.now.items c.requires
