-- The shards that were loaded are the issuer's.
use Rattle.std.proofs.Common.{rules}
use Rattle.host_loading.proofs.Loads.{loaded-are}
use Rattle.shard_tests.proofs.standbys.load_both.Goals as goal

pub returns-in-Ok-clause-shards : goal.returns-in-Ok-clause-shards
returns-in-Ok-clause-shards c = loaded-are c.args.issuer.now _ _ _ _ (search rules) c.in-Ok.ensures.loaded
