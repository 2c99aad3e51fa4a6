-- The slots so far are opened, and the room stays.
use Rattle.std.proofs.Common.{◌≡◌, ◌-◌, ◌++◌, length, replicate, None, vec_capacity}
use Rattle.reply_keep.proofs.window.open_before.Given as goal

abbrev pub invariant-loop : goal.invariant-loop
invariant-loop l = record {
  grown : l.opened.items ≡ l.initial.opened.items ++ replicate (l.counter - length l.initial.opened.items) None;
  room : vec_capacity l.opened ≡ vec_capacity l.initial.opened;
}
