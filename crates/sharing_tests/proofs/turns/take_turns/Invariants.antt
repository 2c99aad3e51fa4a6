-- After each turn the caller is ready for the next, and has noted at most one index a turn.
use Rattle.std.proofs.Common.{◌≡◌, ◌≤◌, vec_len, vec_capacity}
use Rattle.sharing_tests.specs.declared.turns.TheConstants.{ITEMS}
use Rattle.turn_book.specs.Seats.{view_of}
use Rattle.turn_book.specs.Counting.{IsReady}
use Rattle.sharing_tests.proofs.turns.take_turns.Given as goal

abbrev pub invariant-loop-turn : goal.invariant-loop-turn
invariant-loop-turn g l = record {
  ready : IsReady l.tallies l.caller.seat l.caller.places.items;
  names : (view_of l.caller.seat).names ≡ (view_of l.initial.caller.seat).names;
  room : vec_len l.caller.places ≤ l.turn;
  capacity : ITEMS ≤ vec_capacity l.caller.places;
}
