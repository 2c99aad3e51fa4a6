-- The indices of all lists are those that the whole seat has.
use Rattle.std.proofs.Common.{◌≡◌, ℕ, ◌<◌, ◌++◌, ◌∙◌, sym, ap, subst, List, length, get_or, drop, take, arith}
use Rattle.std.specs.List.{flat_map}
use Rattle.shared_seats.specs.SeatNames.{IsWhole}
use Rattle.shared_seats.specs.declared.seat_name.SeatName.{SeatName}
use Rattle.shared_seats.proofs.ManySeats.{flat_map-kept, lent_whole}
use Rattle.sharing_tests.specs.declared.turns.Caller.{Caller}
use Rattle.sharing_tests.specs.declared.turns.Tally.{Tally}
use Rattle.turn_book.specs.Logs.{items_at}
use Rattle.turn_book.specs.TurnRule.{between}
use Rattle.turn_book.specs.Seats.{view_of}
use Rattle.turn_book.proofs.CountingLemmas.{counts_are}
use Rattle.sharing_tests.proofs.turns.draw_places.Goals as goal

pub join_all-requires-clause-whole : goal.join_all-requires-clause-whole
join_all-requires-clause-whole g c =
    let names_of : Caller → List SeatName = λ caller. (view_of caller.seat).names in
    let old : List Caller = c.seat_all.new.callers.items in
    let new : List Caller = c.take_turns_at_once.new.callers in
    let lent : c.as_mut_slice.result.now ≡ old = c.as_mut_slice.ensures.value in
    let long : length new ≡ length old = omega (arith, ap length lent) in
    let back : take c.seat_all.new.callers.len (new ++ drop (length new) old) ≡ new =
    lent_whole c.seat_all.new.callers.len new old (omega arith) (omega arith) in
    let same : flat_map names_of new ≡ flat_map names_of old = flat_map-kept names_of old new long (λ i d below.
    subst (λ (callers : List Caller). i < length callers → names_of (get_or new i d) ≡ names_of (get_or callers i d)) lent
    (c.take_turns_at_once.ensures.names i d) below) in
    subst (λ (names : List SeatName). IsWhole ((view_of c.seat_all.new.seat).names ++ names)) (sym (ap (flat_map names_of) back ∙ same))
    c.seat_all.ensures.whole

pub returns : goal.returns
returns g c shard place below =
    let shard_of : Tally → ℕ = λ tally. tally.shard in
    let count_of : Tally → ℕ = λ tally. tally.count in
    let done = c.join_all.ensures.seat in
    let turns = c.in-Ok.ensures.turns in
    let none = turns.1 shard in
    let count = counts_are shard_of count_of c.close.result.items (view_of c.join_all.new.seat).seen shard c.close.ensures.values in
    sym (done.added shard place) ∙ c.close.ensures.places shard place (omega (arith, turns.0, below))
    ∙ ap (λ items. between (length items) (length (items_at (view_of c.join_all.new.seat).seen shard)) place) none
    ∙ ap (λ n. between 0 n place) (sym count)
