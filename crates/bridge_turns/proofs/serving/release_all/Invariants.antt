-- What goes of what is left, and what waits then, is as of all.
use Rattle.std.proofs.Common.{List, ◌≡◌, ◌++◌, length}
use Rattle.bridge_rule.specs.Bridges.{with_held}
use Rattle.bridge_lines.specs.Acts.{Act}
use Rattle.bridge_turns.specs.Partitions.{left, gone, all_reply_acts}
use Rattle.bridge_turns.proofs.serving.release_all.Given as goal

abbrev pub invariant-loop-held : goal.invariant-loop-held
invariant-loop-held g l = record {
  others : l.bridge ≡ with_held l.initial.bridge l.bridge.held;
  left : left l.initial.bridge.logs l.bridge.held ≡ left l.initial.bridge.logs l.initial.bridge.held;
  said : (start : g.row.S.Denot) (said : List Act) → g.S.Speaker.says start l.initial.speaker said
      → (told : List Act) × g.S.Speaker.says start l.speaker told × (told ++ all_reply_acts (gone l.initial.bridge.logs l.bridge.held)
      ≡ said ++ all_reply_acts (gone l.initial.bridge.logs l.initial.bridge.held));
}

abbrev pub decreases-loop-held : goal.decreases-loop-held
decreases-loop-held g l = length l.bridge.held
