-- Each store has the journal of its shard's book.
use Rattle.one_caller.proofs.Running.{hold-journals}
use Rattle.one_caller.proofs.solo.Solo.close.Goals as goal

pub returns-clause-journals : goal.returns-clause-journals
returns-clause-journals g c =
    λ books stand. rw c.take_stores.ensures.stores (hold-journals c.args.self.issuer c.args.self.shards.items books c.args.self.are_shards stand)
