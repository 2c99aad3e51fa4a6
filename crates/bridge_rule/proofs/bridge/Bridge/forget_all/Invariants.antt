-- The first logs have forgotten what they knew, and the others are as they were.
use Rattle.std.proofs.Common.{◌≡◌, length}
use Rattle.bridge_rule.proofs.Forgetting.{AreForgotten}
use Rattle.bridge_rule.proofs.bridge.Bridge.forget_all.Given as goal

abbrev pub invariant-loop-i : goal.invariant-loop-i
invariant-loop-i l = record {
  machine : l.self-inside.machine.items ≡ l.fn.self.machine;
  last : l.self-inside.last ≡ l.fn.self.last;
  role : l.self-inside.role ≡ l.fn.self.role;
  held : l.self-inside.held.items ≡ l.fn.self.held;
  room : l.self-inside.held.capacity ≡ l.fn.self.room;
  long : length l.self-inside.logs.items ≡ length l.fn.self.logs;
  size : length l.fn.self.logs ≡ 17;
  so_far : AreForgotten l.fn.self.logs l.self-inside.logs.items l.i;
}
