-- The tally counts the item, whose index is noted.
use Rattle.std.proofs.Common.{arith, refl, ◌≡◌, ℕ, ◌+◌, length, length-append, ◌++◌, ◌∷◌, []}
use Rattle.sharing_tests.specs.declared.turns.Tally.{Tally}
use Rattle.turn_book.specs.Logs.{items_at}
use Rattle.turn_book.specs.Seats.{view_of}
use Rattle.turn_book.proofs.CountingLemmas.{count_is, counts_more, added_more}
use Rattle.sharing_tests.proofs.turns.count_item.Goals as goal

pub added-requires-clause-room : goal.added-requires-clause-room
added-requires-clause-room c =
    let shard_of : Tally → ℕ = λ tally. tally.shard in
    let count_of : Tally → ℕ = λ tally. tally.count in
    let is = count_is shard_of count_of c.args.tally (view_of c.args.caller.now.seat).seen c.args.shard c.requires.tally in
    omega (arith, is)

pub returns-clause-tally : goal.returns-clause-tally
returns-clause-tally c =
    let view = view_of c.args.caller.now.seat in
    let shard_of : Tally → ℕ = λ tally. tally.shard in
    let count_of : Tally → ℕ = λ tally. tally.count in
    let is = count_is shard_of count_of c.args.tally view.seen c.args.shard c.requires.tally in
    let items = items_at view.seen c.args.shard in
    let after : Tally = record { shard = c.args.tally.shard; count = c.args.tally.count + 1 } in
    let more : c.args.tally.count + 1 ≡ length (items ++ 7 ∷ []) = omega (arith, is, length-append items (7 ∷ [])) in
    rw c.added.ensures.view (counts_more shard_of count_of c.args.tally after view.seen c.args.shard (items ++ 7 ∷ []) c.requires.tally refl more)

pub returns-clause-added : goal.returns-clause-added
returns-clause-added c =
    let view = view_of c.args.caller.now.seat in
    let shard_of : Tally → ℕ = λ tally. tally.shard in
    let count_of : Tally → ℕ = λ tally. tally.count in
    let is = count_is shard_of count_of c.args.tally view.seen c.args.shard c.requires.tally in
    rw (c.push_reserved.ensures.items, c.added.ensures.view)
    (added_more c.args.caller.now.places.items view c.args.shard 7 c.args.tally.count c.requires.added is)
