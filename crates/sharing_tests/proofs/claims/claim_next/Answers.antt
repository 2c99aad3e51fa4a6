-- A counter that is won is one more that was tried, and is in the caller's list.
use Rattle.claim_words.specs.Seats.{view_of}
use Rattle.claim_words.proofs.ContestLemmas.{tried_won}
use Rattle.sharing_tests.proofs.claims.claim_next.Goals as goal

pub returns-in-Won-clause-tried : goal.returns-in-Won-clause-tried
returns-in-Won-clause-tried c =
    rw (c.push_reserved.ensures.items, c.in-Won.ensures.view)
    (tried_won c.args.counter c.args.caller.now.won.items (view_of c.args.caller.now.seat) c.requires.tried)
