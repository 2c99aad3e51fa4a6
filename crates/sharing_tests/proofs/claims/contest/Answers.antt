-- Concurrent claims leave all seats together whole, so each counter was won exactly once.
use Rattle.std.proofs.Common.{ℕ, ◌<◌, ap, List, length, map, Vec, Global, arith}
use Rattle.std.proofs.lemmas.List.{length-map}
use Rattle.shared_seats.proofs.ManySeats.{whole_lent}
use Rattle.sharing_tests.specs.declared.claims.Caller.{Caller}
use Rattle.claim_words.specs.Seats.{view_of, recorded_in}
use Rattle.claim_words.proofs.ContestLemmas.{each_won_once}
use Rattle.sharing_tests.proofs.claims.contest.Goals as goal

pub join_all-requires-clause-whole : goal.join_all-requires-clause-whole
join_all-requires-clause-whole g c =
    whole_lent (λ (caller : Caller). (view_of caller.seat).names) (view_of c.seat_all.new.seat).names c.seat_all.new.callers.len
    c.seat_all.new.callers.items c.as_mut_slice.result.now c.claim_at_once.new.callers c.as_mut_slice.ensures.value
    (omega (arith, ap length c.as_mut_slice.ensures.value)) (omega arith) c.claim_at_once.ensures.names c.seat_all.ensures.whole

pub returns : goal.returns
returns g c =
    let lists : List (Vec ℕ Global) = c.join_all.new.won.items in
    let many : 0 < length (map (λ (list : Vec ℕ Global). list.items) lists) = omega (
      arith,
      length-map lists (λ (list : Vec ℕ Global). list.items),
      c.join_all.new.won.ok,
      c.join_all.ensures.count,
      c.seat_all.ensures.count,
      c.in_ok-lists.ensures.0,
      c.requires,
    ) in
    each_won_once _ (view_of c.join_all.new.seat) (recorded_in c.in-Ok.words 0) c.join_all.ensures.tried many
    (c.in-Ok.ensures.recorded 0) (c.close.ensures.found 0) (c.close.ensures.once 0)
