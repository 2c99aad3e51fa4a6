-- A record at the shard's next index is taken; at another index nothing is.
use Rattle.std.proofs.Common.{[], ◌∙◌, ap, Err}
use Rattle.shard_book.specs.Grounds.{grounds_of}
use Rattle.shard_book.proofs.ShardSteps.{crash-no_call}
use Rattle.standby_node.proofs.Taken.{next-failed, next-taken, one-entry}
use Rattle.standby_node.proofs.line.take_next.Goals as goal

pub returns-then-place-places-clause-crash : goal.returns-then-place-places-clause-crash
returns-then-place-places-clause-crash g c history replica =
    crash-no_call (grounds_of c.args.issuer.now) _ c.args.shard.now.journal history replica.journal_holds

pub returns-in-Ok-clause-taken : goal.returns-in-Ok-clause-taken
returns-in-Ok-clause-taken g c history line replica line_is =
    next-taken c.args.issuer.now c.args.shard.now c.take_looked_up.new.self history c.args.place line
    (c.if-place-places.false ∙ c.places.ensures.places ∙ replica.journal_holds.holds.count_is)
    c.args.entry.now line_is (λ other other_is. one-entry c.args.entry.now other line line_is other_is) _ (c.in-Ok.ensures.taken history replica)

pub returns-in-Err-clause-taken : goal.returns-in-Err-clause-taken
returns-in-Err-clause-taken g c history line replica line_is =
    next-failed c.args.issuer.now c.args.shard.now c.take_looked_up.new.self history c.args.place line
    (c.if-place-places.false ∙ c.places.ensures.places ∙ replica.journal_holds.holds.count_is)
    c.args.entry.now line_is (λ other other_is. one-entry c.args.entry.now other line line_is other_is)
    c.in-Err.fault (c.in-Err.ensures.taken history replica) (λ same. c.in-Err.ensures.kept.unchanged (ap Err same))
    (c.in-Err.ensures.tail history [])
