-- The tally counts the item.
use Rattle.std.proofs.Common.{arith, ◌≡◌, ◌+◌, length, length-append, ◌++◌, ◌∷◌, []}
use Rattle.turn_book.specs.Logs.{items_at}
use Rattle.turn_book.specs.Seats.{view_of}
use Rattle.bench_runs.specs.declared.turns.Tally.{Tally}
use Rattle.bench_runs.proofs.Tallies.{count_is, counts_more}
use Rattle.bench_runs.proofs.turns.count_item.Goals as goal

pub added-requires-clause-room : goal.added-requires-clause-room
added-requires-clause-room c =
    let is = count_is c.args.tally (view_of c.args.caller.now.seat).seen c.args.caller.now.shard c.requires.tally in
    omega (arith, is)

pub returns-clause-tally : goal.returns-clause-tally
returns-clause-tally c =
    let view = view_of c.args.caller.now.seat in
    let shard = c.args.caller.now.shard in
    let is = count_is c.args.tally view.seen shard c.requires.tally in
    let items = items_at view.seen shard in
    let after : Tally = record { count = c.args.tally.count + 1 } in
    let more : c.args.tally.count + 1 ≡ length (items ++ 1 ∷ []) = omega (arith, is, length-append items (1 ∷ [])) in
    rw c.added.ensures.view (counts_more c.args.tally after view.seen shard (items ++ 1 ∷ []) c.requires.tally more)
