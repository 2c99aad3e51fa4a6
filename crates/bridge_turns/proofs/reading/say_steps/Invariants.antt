-- What is said of the records that are left joins what was said.
use Rattle.std.proofs.Common.{List, ◌≡◌, ◌++◌, drop, map}
use Rattle.bridge_rule.specs.Bridges.{indexed}
use Rattle.bridge_lines.specs.Acts.{Act}
use Rattle.bridge_turns.specs.Partitions.{all_step_acts}
use Rattle.bridge_turns.proofs.reading.say_steps.Given as goal

abbrev pub invariant-loop-i : goal.invariant-loop-i
invariant-loop-i g l = (start : g.row.S.Denot) (said : List Act) → g.S.Speaker.says start l.initial.speaker said
    → (told : List Act) × g.S.Speaker.says start l.speaker told × (told ++ all_step_acts (drop l.i l.steps) (map indexed (drop l.i l.records))
    ≡ said ++ all_step_acts l.steps (map indexed l.records))
