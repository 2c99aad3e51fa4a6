-- The records that are left give the logs and the steps of all.
use Rattle.std.proofs.Common.{◌≡◌, length}
use Rattle.bridge_rule.proofs.Taking.{AreTaken}
use Rattle.bridge_rule.proofs.bridge.Bridge.take_all.Given as goal

abbrev pub invariant-loop-i : goal.invariant-loop-i
invariant-loop-i l = record {
  machine : l.self-inside.machine.items ≡ l.fn.self.machine;
  last : l.self-inside.last ≡ l.fn.self.last;
  role : l.self-inside.role ≡ l.fn.self.role;
  held : l.self-inside.held.items ≡ l.fn.self.held;
  room : l.self-inside.held.capacity ≡ l.fn.self.room;
  long : length l.steps ≡ length l.records;
  logs : length l.self-inside.logs.items ≡ 17;
  taken : AreTaken l.fn.self.logs l.self-inside.logs.items l.records l.steps l.i;
}
