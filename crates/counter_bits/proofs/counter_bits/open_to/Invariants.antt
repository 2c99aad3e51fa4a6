-- The words so far are opened, and the room stays.
use Rattle.std.proofs.Common.{◌≡◌, ◌-◌, ◌++◌, length, replicate, vec_capacity}
use Rattle.counter_bits.proofs.counter_bits.open_to.Given as goal

abbrev pub invariant-loop : goal.invariant-loop
invariant-loop l = record {
  grown : l.opened.items ≡ l.initial.opened.items ++ replicate (l.counter - length l.initial.opened.items) 0;
  room : vec_capacity l.opened ≡ vec_capacity l.initial.opened;
}
